use Rattle.player.specs.Shows.{reading_of}
use Rattle.player.proofs.Showing.{holds}
use Rattle.player.proofs.acts.held.Goals as goal

pub returns-clause-held : goal.returns-clause-held
returns-clause-held g c = holds (reading_of g.C.Container g.C.Stepwise c.args._container.now) _ c.requires.0 c.requires.1

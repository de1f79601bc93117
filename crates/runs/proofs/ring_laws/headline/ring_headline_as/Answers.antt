use Rattle.runs.proofs.ring.Tables.{headline}
use Rattle.runs.proofs.ring_laws.headline.ring_headline_as.Goals as goal

pub returns : goal.returns
returns g c = headline g.D.Tie.rule

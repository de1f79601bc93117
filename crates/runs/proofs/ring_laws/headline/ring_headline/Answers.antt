use Rattle.running.specs.Ties.{no_rule}
use Rattle.runs.proofs.ring.Tables.{headline}
use Rattle.runs.proofs.ring_laws.headline.ring_headline.Goals as goal

pub returns : goal.returns
returns g c = headline no_rule

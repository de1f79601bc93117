use Rattle.runs.proofs.queue.Tables.{headline}
use Rattle.runs.proofs.queue_laws.headline.queue_headline_as.Goals as goal

pub returns : goal.returns
returns g c = headline g.D.Tie.rule

use Rattle.running.specs.Ties.{no_rule}
use Rattle.runs.proofs.queue.Tables.{headline}
use Rattle.runs.proofs.queue_laws.headline.queue_headline.Goals as goal

pub returns : goal.returns
returns g c = headline no_rule

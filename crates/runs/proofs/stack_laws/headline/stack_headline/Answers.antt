use Rattle.running.specs.Ties.{no_rule}
use Rattle.runs.proofs.stack.Tables.{headline}
use Rattle.runs.proofs.stack_laws.headline.stack_headline.Goals as goal

pub returns : goal.returns
returns g c = headline no_rule

use Rattle.runs.proofs.stack.Tables.{headline}
use Rattle.runs.proofs.stack_laws.headline.stack_headline_as.Goals as goal

pub returns : goal.returns
returns g c = headline g.D.Tie.rule

use Rattle.step_core.proofs.list.Run.{list_lawful}
use Rattle.step_core.proofs.list_laws.list_core.Goals as goal

pub returns : goal.returns
returns c = list_lawful

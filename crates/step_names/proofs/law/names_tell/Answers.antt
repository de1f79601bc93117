use Rattle.step_names.proofs.Told.{names_tell}
use Rattle.step_names.proofs.law.names_tell.Goals as goal

pub returns : goal.returns
returns g c = names_tell

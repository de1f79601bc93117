use Rattle.step_core.proofs.list.Samples.{untagged-unlawful}
use Rattle.step_core.proofs.list_shown.list_exhibits.Goals as goal

pub returns-clause-untagged_unlawful : goal.returns-clause-untagged_unlawful
returns-clause-untagged_unlawful c = untagged-unlawful

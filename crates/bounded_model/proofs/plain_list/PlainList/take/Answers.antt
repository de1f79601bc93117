use Rattle.std.proofs.Common.{rules, refl}
use Rattle.bounded_model.proofs.Showing.{take_runs}
use Rattle.bounded_model.proofs.plain_list.PlainList.take.Goals as goal

pub returns-then-number-ge-COUNT_LIMIT-clause-machine : goal.returns-then-number-ge-COUNT_LIMIT-clause-machine
returns-then-number-ge-COUNT_LIMIT-clause-machine g c = take_runs _ _ _ (search rules) refl

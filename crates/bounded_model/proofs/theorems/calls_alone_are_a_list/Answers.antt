use Rattle.bounded_model.proofs.Alone.{runs_alone, same_list}
use Rattle.bounded_model.proofs.theorems.calls_alone_are_a_list.Goals as goal

pub returns-clause-run : goal.returns-clause-run
returns-clause-run g c = runs_alone

pub returns-clause-list : goal.returns-clause-list
returns-clause-list g c = same_list

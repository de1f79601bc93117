use Rattle.std.proofs.Common.{◌∷◌, append-nil}
use Rattle.bounded_model.specs.declared.history.Event.TheVariants.{TakeAll}
use Rattle.bounded_model.specs.Gathers.{gather, put_of, took_of, values_of}
use Rattle.bounded_model.proofs.Balance.{all_there}
use Rattle.bounded_model.proofs.Newest.{takes_latest}
use Rattle.bounded_model.proofs.Numbers.{numbers_count}
use Rattle.bounded_model.proofs.theorems.stack_keeps_order.Goals as goal

pub returns-clause-values : goal.returns-clause-values
returns-clause-values g c = takes_latest

pub returns-clause-folds : goal.returns-clause-folds
returns-clause-folds g c = λ shape p n vs h legal.
    let all = all_there shape (TakeAll p vs n ∷ h) legal in
    rw (append-nil (gather put_of h), append-nil (values_of (gather took_of (TakeAll p vs n ∷ h)))) at all

pub returns-clause-numbers : goal.returns-clause-numbers
returns-clause-numbers g c = numbers_count

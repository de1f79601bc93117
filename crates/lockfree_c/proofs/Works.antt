-- A stack's work that was tried is under way, or its pass is back.
use Rattle.std.specs.Prelude.{ℕ, List, [], ◌∷◌, ◌++◌}
use Rattle.bounded_model.specs.declared.views.PassView.{PassView}
use Rattle.index_list.specs.declared.front.Front.{Front}
use Rattle.lockfree_c.specs.Calls.{IsWorked}
use Rattle.lockfree_c.specs.Stacks.{FoldTried, Stack, StackMade, stack_reading}
use Rattle.lockfree_c.specs.declared.calls.stack.StackWork.TheVariants.{Fold}
use Rattle.lockfree_c.specs.declared.work.Said.TheVariants as said
use Rattle.lockfree_c.specs.declared.work.Worked.TheVariants.{Again, Value, Done}

module _ (c : Stack) (values : List ℕ) (begun : PassView ℕ) where
  pub fold_worked : (front : Front) (made : StackMade) → FoldTried c front values begun made → IsWorked (stack_reading c) made
  fold_worked front (Again (Fold next)) tried = (front, values, tried.0)
  fold_worked front (Value x (Fold next)) tried = (front, values ++ x ∷ [], tried.0)
  fold_worked front (Done back (said.Fold answer)) tried = tried.0
  fold_worked front made tried = absurd tried

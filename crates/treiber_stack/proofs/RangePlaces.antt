-- A range in parts whose values leave places.
use Rattle.std.proofs.Common.{◌≡◌, List, sym, subst}
use Rattle.std.specs.Prelude.{Option as Slot, Result}
use Rattle.bounded_model.specs.declared.answers.Stepped.TheVariants.{Done}
use Rattle.treiber_stack.specs.Prelude.{Again, PassView, RangeRefused, Ranged, Stepped}
use Rattle.treiber_stack.specs.code.Machine.{no_rule}
use Rattle.treiber_stack.specs.code.Ranging.{PutsOf, places_from}
use Rattle.treiber_stack.specs.code.RangeTrying.{RangeCame, RangeOp, left_after}
use Rattle.treiber_stack.specs.Bulk.{RangeTried}
use Rattle.treiber_stack.specs.Calls.{Pass, Stack}

module _ {T : Type 0} (c : Stack T) (vs : List T) (v : PassView T) where
  pub in_places : (made : Stepped (RangeOp T) (Pass T) (Result Ranged RangeRefused)) (places : List (Slot T)) → RangeCame no_rule c vs v made → places ≡ places_from (left_after made) vs → RangeTried c vs v places made
  in_places (Again next) places came are = (record { put = came.0; places_are = are }, came.1)
  in_places (Done back answer) places came are = subst (λ (ps : List (Slot T)). PutsOf no_rule c v vs ps back answer) (sym are) came

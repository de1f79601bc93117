-- The one event by which an operation of a stack may change it.
use Rattle.std.specs.Prelude.{◌≡◌, ℕ, List, ◌∷◌}
use Rattle.bounded_model.specs.declared.history.Event.{Event}
use Rattle.bounded_model.specs.declared.history.Event.TheVariants.{Take, TakeAll, Close, Shut}
use Rattle.stack_machine.specs.declared.lines.Taking.TheVariants.{One, Whole}
use Rattle.stack_machine.specs.declared.lines.Call.{Call}
use Rattle.stack_machine.specs.declared.lines.Call.TheVariants.{Put as CallPut, Take as CallTake, Close as CallClose, Shut as CallShut}
use Rattle.running.specs.Ties.{PutsSome}
use Rattle.stack_table.specs.declared.operation.Operation.{Operation}
use Rattle.stack_table.specs.Lines.{call_of}

module _ {T : Type 0} where
  -- a look and a gauge change nothing
  abbrev pub effect_of : Call T → ℕ → Event T → Type 0
  effect_of (CallPut v others) p e = PutsSome p (v ∷ others) e
  effect_of (CallTake One) p e = (v : T) × (k : ℕ) × (e ≡ Take p v k)
  effect_of (CallTake (Whole d)) p e = (vs : List T) × (k : ℕ) × (e ≡ TakeAll p vs k)
  effect_of CallClose p e = e ≡ Close p
  effect_of CallShut p e = e ≡ Shut p
  effect_of call p e = ⊥

  abbrev pub effect : Operation T → ℕ → Event T → Type 0
  effect o = effect_of (call_of o)

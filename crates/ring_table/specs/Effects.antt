-- The one event by which an operation of a ring may change it.
use Rattle.std.specs.Prelude.{◌≡◌, ℕ, [], ◌∷◌}
use Rattle.bounded_model.specs.declared.history.Event.{Event}
use Rattle.bounded_model.specs.declared.history.Event.TheVariants.{Put, Take, Close, Shut}
use Rattle.ring_machine.specs.declared.lines.Call.{Call}
use Rattle.ring_machine.specs.declared.lines.Call.TheVariants.{Put as CallPut, Take as CallTake, Close as CallClose, Shut as CallShut}
use Rattle.ring_table.specs.declared.operation.Operation.{Operation}
use Rattle.ring_table.specs.Lines.{call_of}

module _ {T : Type 0} where
  -- a look, a count and a gauge change nothing
  abbrev pub effect_of : Call T → ℕ → Event T → Type 0
  effect_of (CallPut v) p e = (k : ℕ) × (e ≡ Put p (v ∷ []) k)
  effect_of CallTake p e = (v : T) × (k : ℕ) × (e ≡ Take p v k)
  effect_of CallClose p e = e ≡ Close p
  effect_of CallShut p e = e ≡ Shut p
  effect_of call p e = ⊥

  abbrev pub effect : Operation T → ℕ → Event T → Type 0
  effect o = effect_of (call_of o)

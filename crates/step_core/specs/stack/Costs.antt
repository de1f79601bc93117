-- What the stack's calls cost, in steps: alone, and for each other pass that is in a call meanwhile.
use Rattle.std.specs.Prelude.{◌≡◌, ℕ, ◌+◌, ◌*◌, ltb, if◌then◌else◌, [], ◌∷◌, length}
use Rattle.stack_machine.specs.declared.lines.Direction.TheVariants.{Down, Up}
use Rattle.stack_machine.specs.declared.lines.Taking.TheVariants.{One, Whole}
use Rattle.stack_machine.specs.declared.lines.Call.{Call}
use Rattle.stack_machine.specs.declared.lines.Call.TheVariants.{Put as CallPut, Take as CallTake, Close as CallClose, Shut as CallShut, Look as CallLook, Gauge as CallGauge}

-- how many nodes of n a put of r values can take, and 1 if it looks in vain for one more
abbrev pub fit : ℕ → ℕ → ℕ
fit n r = if ltb n r then n else r

abbrev pub over : ℕ → ℕ → ℕ
over n r = if ltb n r then 1 else 0

module _ {T : Type 0} where
  -- how many steps a call of a stack of n nodes makes at most while no other pass wins an exchange
  abbrev pub alone : ℕ → Call T → ℕ
  alone n (CallPut v vs) = 4 * fit n (length (v ∷ vs)) + 3 + over n (length (v ∷ vs))
  alone n (CallTake One) = 6
  alone n (CallTake (Whole Down)) = n + 5
  alone n (CallTake (Whole Up)) = 3 * n + 5
  alone n CallClose = 2
  alone n CallShut = 2
  alone n CallLook = 1
  alone n CallGauge = 1

  -- how many steps of another pass its exchanges can make vain
  abbrev pub harms : ℕ → Call T → ℕ
  harms n (CallPut v vs) = 3 * fit n (length (v ∷ vs)) + 4
  harms n (CallTake taking) = 7
  harms n CallClose = 4
  harms n CallShut = 4
  harms n CallLook = 0
  harms n CallGauge = 0

  -- together, if k other passes are in a call
  abbrev pub cost : ℕ → ℕ → Call T → ℕ
  cost n k call = alone n call + harms n call * k

  -- a put or a take of one value, a close, a shut, a look or a gauge
  abbrev pub IsSingleCall : Call T → Type 0
  IsSingleCall (CallPut v vs) = vs ≡ []
  IsSingleCall (CallTake (Whole d)) = ⊥
  IsSingleCall call = Unit {0}

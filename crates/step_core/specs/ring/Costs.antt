-- What the ring's calls cost, in steps: alone, and for each other pass that is in a call meanwhile.
use Rattle.std.specs.Prelude.{ℕ, ◌+◌, ◌*◌}
use Rattle.ring_machine.specs.declared.lines.Call.{Call}
use Rattle.ring_machine.specs.declared.lines.Call.TheVariants.{Put as CallPut, Take as CallTake, Close as CallClose, Shut as CallShut, Look as CallLook, Len as CallLen, Gauge as CallGauge}

module _ {T : Type 0} where
  -- how many steps a call makes at most while no other pass wins an exchange
  abbrev pub alone : Call T → ℕ
  alone (CallPut v) = 10
  alone CallTake = 11
  alone CallClose = 9
  alone CallShut = 9
  alone CallLook = 8
  alone CallLen = 17
  alone CallGauge = 8

  -- how many steps of another pass its exchanges can make vain
  abbrev pub harms : Call T → ℕ
  harms (CallPut v) = 24
  harms CallTake = 23
  harms CallClose = 14
  harms CallShut = 14
  harms CallLook = 0
  harms CallLen = 0
  harms CallGauge = 0

  -- together, if k other passes are in a call
  abbrev pub cost : ℕ → Call T → ℕ
  cost k call = alone call + harms call * k

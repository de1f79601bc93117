-- The lines of the seats of a ring's table. The line of a pass is that of the machine. The line of any other seat has the spare cells of
-- that seat.
use Rattle.std.specs.Prelude.{◌≡◌, ℕ, zero, suc, ◌+◌, Bool, true, false, List, [], ◌∷◌, ◌++◌, length}
use mathlib.Core.Option.{Option, none, some}
use Rattle.machine.specs.Program.{Then, Won, Deed, stays, returns, brings, rests, loads, checks, follows, fetches, stows, stores, links, attempts, swaps}
use Rattle.ring_machine.specs.declared.lines.Call.{Call}
use Rattle.ring_machine.specs.declared.lines.Call.TheVariants.{Put as CallPut, Take as CallTake, Close as CallClose, Shut as CallShut, Look as CallLook, Len as CallLen, Gauge as CallGauge}
use Rattle.ring_machine.specs.declared.lines.Line.{Line}
use Rattle.ring_machine.specs.Machine.{cell_of, resting, starts}
use Rattle.ring_machine.specs.Machine as ring
use Rattle.running.specs.Machine.{Names}
use Rattle.ring_table.specs.declared.line.SeatLine.{SeatLine}
use Rattle.ring_table.specs.declared.line.SeatLine.TheVariants.{At, Stock}
use Rattle.ring_table.specs.declared.operation.Operation.{Operation}
use Rattle.ring_table.specs.Lines.{call_of}

module _ {T : Type 0} where
  -- the passes that the seats stand for, as the machine has them: a spare cell that no pass has counts as that of a pass that rests
  abbrev pub each_resting : List ℕ → List (Line T)
  each_resting [] = []
  each_resting (c ∷ cs) = resting c ∷ each_resting cs

  abbrev pub passes_at : SeatLine T → List (Line T)
  passes_at (At l) = l ∷ []
  passes_at (Stock cs) = each_resting cs

  abbrev pub passes_of : List (SeatLine T) → List (Line T)
  passes_of [] = []
  passes_of (s ∷ ss) = passes_at s ++ passes_of ss

  -- the root gives a pass its first spare cell, and takes a pass's cell back; two passes that meet put their cells together
  abbrev pub gives : SeatLine T → SeatLine T × SeatLine T
  gives (Stock (c ∷ cs)) = (Stock cs, At (resting c))
  gives s = (s, At (resting 0))

  abbrev pub takes : SeatLine T → SeatLine T → SeatLine T
  takes (Stock cs) (At l) = Stock (cell_of l ∷ cs)
  takes s t = s

  abbrev pub both : SeatLine T → SeatLine T → SeatLine T
  both (At k) (At l) = Stock (cell_of k ∷ cell_of l ∷ [])
  both s t = Stock []

  abbrev pub is_idle : SeatLine T → Bool
  is_idle (At l) = ring.is_idle l
  is_idle (Stock cs) = false

  -- a pass keeps its spare cell as its operation ends
  abbrev pub quiet : SeatLine T → SeatLine T
  quiet (At l) = At (resting (cell_of l))
  quiet (Stock cs) = At (resting 0)

  abbrev pub first : Operation T → SeatLine T → SeatLine T
  first o (At l) = At (starts (call_of o) l)
  first o (Stock cs) = Stock cs

  -- once its operation has ended a pass is idle, and stays at its line; no operation begins idle
  pub quiet_rests : (s : SeatLine T) → is_idle (quiet s) ≡ true
  quiet_rests (At l) = λ i. true
  quiet_rests (Stock cs) = λ i. true

  pub quiet_stays : (s : SeatLine T) → quiet (quiet s) ≡ quiet s
  quiet_stays (At l) = λ i. At (resting (cell_of l))
  quiet_stays (Stock cs) = λ i. At (resting 0)

  call_busy : (call : Call T) (l : Line T) → ring.is_idle (starts call l) ≡ false
  call_busy (CallPut v) l = λ i. false
  call_busy CallTake l = λ i. false
  call_busy CallClose l = λ i. false
  call_busy CallShut l = λ i. false
  call_busy CallLook l = λ i. false
  call_busy CallLen l = λ i. false
  call_busy CallGauge l = λ i. false

  pub begins_busy : (o : Operation T) (s : SeatLine T) → is_idle (first o s) ≡ false
  begins_busy o (At l) = call_busy (call_of o) l
  begins_busy o (Stock cs) = λ i. false

  abbrev pub names : Names (SeatLine T) (Operation T)
  names = record {
    shares = record { none = Stock []; gives = gives; takes = takes; both = both };
    is_idle = is_idle;
    quiet = quiet;
    first = first;
    rests = quiet_rests;
    calm = quiet_stays;
    starts = begins_busy;
  }

-- the spare cells of this number of passes, from the first one's on
abbrev pub cells_from : ℕ → ℕ → List ℕ
cells_from c zero = []
cells_from c (suc k) = c ∷ cells_from (c + 1) k

-- in a ring for `passes` passes, `out` are out, and the root has a cell for each pass that is not out
abbrev pub IsStock : {T : Type 0} → ℕ → ℕ → SeatLine T → Type 0
IsStock passes out (At l) = ⊥
IsStock passes out (Stock cs) = length cs + out ≡ passes

-- What a line of the machine does, as a line of a seat
module _ {T E : Type 0} where
  abbrev pub then_at : Then (Line T) E → Then (SeatLine T) E
  then_at t = record { line = At t.line; events = t.events }

  abbrev pub reply_at : Option (Then (Line T) E) → Option (Then (SeatLine T) E)
  reply_at none = none
  reply_at (some t) = some (then_at t)

module _ {T M E : Type 0} where
  abbrev pub won_at : Won T M (Line T) E → Won T M (SeatLine T) E
  won_at (stays t) = stays (then_at t)
  won_at (returns slots t) = returns slots (then_at t)
  won_at (brings way which reply) = brings way which (λ is slots. reply_at (reply is slots))

module _ {T M P Q E : Type 0} where
  abbrev pub deed_at : Deed T M P Q (Line T) E → Deed T M P Q (SeatLine T) E
  deed_at rests = rests
  deed_at (loads at to) = loads at (λ w. At (to w))
  deed_at (checks at w here else_) = checks at w (At here) (At else_)
  deed_at (follows at to) = follows at (λ k. At (to k))
  deed_at (fetches at is to) = fetches at is (λ w. At (to w))
  deed_at (stows at slots to) = stows at slots (At to)
  deed_at (stores at w to) = stores at w (At to)
  deed_at (links at k to) = links at k (At to)
  deed_at (attempts at old new to) = attempts at old new (At to)
  deed_at (swaps at old change w lost) = swaps at old change (won_at w) (At lost)

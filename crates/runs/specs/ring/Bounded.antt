-- The machine after the acts that led to a ring's table: its rule, and a bound on the steps of an operation under way. The bound counts
-- the compare-and-swaps by which others succeeded meanwhile.
use Rattle.std.specs.Prelude.{◌≡◌, ℕ, ◌+◌, ◌*◌, ◌≤◌, List, [], ◌∷◌, ◌++◌, map, if◌then◌else◌}
use Rattle.machine.specs.Seats.{Acts}
use Rattle.machine.specs.Schedule.{after}
use Rattle.machine.specs.Progress.{others_win}
use Rattle.ring_machine.specs.declared.lines.Call.{Call}
use Rattle.ring_machine.specs.declared.lines.Call.TheVariants.{Put as CallPut, Take as CallTake, Close as CallClose, Shut as CallShut, Look as CallLook, Len as CallLen, Gauge as CallGauge}
use Rattle.ring_machine.specs.declared.lines.Back.TheVariants.{ToGauge}
use Rattle.ring_machine.specs.declared.lines.Front.TheVariants.{ToShut, ToLook, ToCount}
use Rattle.ring_machine.specs.declared.lines.Line.TheVariants.{FetchTail, LoadTail, LoadHead}
use Rattle.ring_machine.specs.Machine as ring
use Rattle.ring_machine.specs.Rule.{Good}
use Rattle.ring_table.specs.declared.line.SeatLine.{SeatLine}
use Rattle.ring_table.specs.declared.line.SeatLine.TheVariants.{At, Stock}
use Rattle.ring_table.specs.Seats.{passes_of}
use Rattle.running.specs.Acts.{Begins, steps_in}
use Rattle.runs.specs.Runs.{Below, schedule_of}
use Rattle.runs.specs.ring.Machine.{From, State, cell_ring}

module _ {T : Type 0} where
  -- the call that begins at a line, which has the cell of the line that it is begun from
  abbrev pub call_in : SeatLine T → Call T
  call_in (At (FetchTail c v)) = CallPut v
  call_in (At (LoadTail c ToGauge)) = CallGauge
  call_in (At (LoadTail c s)) = CallClose
  call_in (At (LoadHead c ToShut)) = CallShut
  call_in (At (LoadHead c ToLook)) = CallLook
  call_in (At (LoadHead c ToCount)) = CallLen
  call_in l = CallTake

  abbrev pub call_at : SeatLine T → From T
  call_at l = (l, call_in l)

  -- a seat's line as the rule counts it: a pass between two operations has no cell
  abbrev pub in_operation : SeatLine T → SeatLine T
  in_operation (At l) = if ring.is_idle l then Stock [] else At l
  in_operation (Stock cs) = Stock []

  module _ (n laps passes : ℕ) where
    -- The rule of the ring holds of the words, of the passes that are in an operation, and of the free cells. A free cell counts as that
    -- of a pass that rests
    pub record MeetsRule (s : State T) : Type 0 where
      pub free : List ℕ
      pub good : Good T n laps (n + passes) s.memory (passes_of (Stock free ∷ map (λ v. in_operation v.line) s.passes)) s.history

    -- the machine with this number of passes, after these acts
    abbrev pub state_after : ℕ → Acts (SeatLine T) → State T
    state_after numbers acts = after (cell_ring n laps passes) numbers (schedule_of call_at acts)

    -- Pass x is in an operation with this first line. Between the acts as it was begun and those by now, x has made at most 31 steps, and
    -- 18 for each exchange of another pass that has succeeded. The machine that ran as the passes did says which have. The same bound
    -- holds of the steps from any point of the operation on
    pub record IsBounded (before now : Acts (SeatLine T)) (x : ℕ) (first : SeatLine T) : Type 0 where
      pub since : Acts (SeatLine T)
      pub is : now ≡ since ++ (x, Begins first) ∷ before
      pub bound : (numbers : ℕ) → Below numbers now
          → steps_in x since ≤ 31 + 18 * others_win (cell_ring n laps passes) x (schedule_of call_at since) (state_after numbers ((x, Begins first) ∷ before))
      pub from_any_point : (later earlier : Acts (SeatLine T)) → since ≡ later ++ earlier → (numbers : ℕ) → Below numbers now
          → steps_in x later ≤ 31 + 18 * others_win (cell_ring n laps passes) x (schedule_of call_at later) (state_after numbers (earlier ++ (x, Begins first) ∷ before))

-- How many steps an operation under way has made, by the number of compare-and-swaps by which other passes succeeded meanwhile.
use Rattle.std.specs.Prelude.{◌≡◌, ℕ, ◌+◌, ◌*◌, ◌≤◌, ◌∷◌, ◌++◌}
use Rattle.machine.specs.Seats.{Acts}
use Rattle.machine.specs.Schedule.{after}
use Rattle.machine.specs.Progress.{others_win}
use Rattle.queue_machine.specs.declared.lines.Call.{Call}
use Rattle.queue_machine.specs.declared.lines.Call.TheVariants.{Put as CallPut, Take as CallTake, Close as CallClose, Shut as CallShut, Look as CallLook, Len as CallLen, Gauge as CallGauge}
use Rattle.queue_machine.specs.declared.lines.Seeking.TheVariants.{ToGauge}
use Rattle.queue_machine.specs.declared.lines.Line.{Line}
use Rattle.queue_machine.specs.declared.lines.Line.TheVariants.{LoadCells, LoadTail, LoadHeadToShut, LoadHeadToLook, LoadHeadToCount}
use Rattle.queue_machine.specs.Machine.{State, queue}
use Rattle.queue_machine.specs.Answers.{shape}
use Rattle.running.specs.Acts.{Begins, steps_in}
use Rattle.runs.specs.Runs.{Below, schedule_of}

module _ {T : Type 0} where
  -- the call that begins at a line
  abbrev pub call_at : Line T → Call T
  call_at (LoadCells v) = CallPut v
  call_at (LoadTail ToGauge) = CallGauge
  call_at (LoadTail s) = CallClose
  call_at LoadHeadToShut = CallShut
  call_at LoadHeadToLook = CallLook
  call_at LoadHeadToCount = CallLen
  call_at l = CallTake

  module _ (n limit : ℕ) where
    -- the machine with `passes` passes, after these acts
    abbrev pub state_after : ℕ → Acts (Line T) → State T
    state_after passes acts = after (queue (shape n limit)) passes (schedule_of call_at acts)

    -- Pass x is in an operation with this first line, begun after the acts `before`. Since then it has made at most 20 steps, and 8 for
    -- each exchange by which another pass succeeded. The machine run as the passes did says which. The bound holds too from any point of
    -- the operation on
    pub record IsBounded (before now : Acts (Line T)) (x : ℕ) (first : Line T) : Type 0 where
      pub since : Acts (Line T)
      pub is : now ≡ since ++ (x, Begins first) ∷ before
      pub bound : (passes : ℕ) → Below passes now
          → steps_in x since ≤ 20 + 8 * others_win (queue (shape n limit)) x (schedule_of call_at since) (state_after passes ((x, Begins first) ∷ before))
      pub from_any_point : (later earlier : Acts (Line T)) → since ≡ later ++ earlier → (passes : ℕ) → Below passes now
          → steps_in x later ≤ 20 + 8 * others_win (queue (shape n limit)) x (schedule_of call_at later) (state_after passes (earlier ++ (x, Begins first) ∷ before))

-- How many steps an operation under way has made, by the number of compare-and-swaps by which other passes succeeded meanwhile.
use Rattle.std.specs.Prelude.{◌≡◌, ℕ, ◌+◌, ◌*◌, ◌≤◌, List, [], ◌∷◌, ◌++◌}
use Rattle.machine.specs.Seats.{Acts}
use Rattle.machine.specs.Schedule.{after}
use Rattle.machine.specs.Progress.{others_win}
use Rattle.stack_machine.specs.declared.lines.Call.{Call}
use Rattle.stack_machine.specs.declared.lines.Call.TheVariants.{Put as CallPut, Take as CallTake, Close as CallClose, Shut as CallShut, Look as CallLook, Gauge as CallGauge}
use Rattle.stack_machine.specs.declared.lines.Line.{Line}
use Rattle.stack_machine.specs.declared.lines.Line.TheVariants.{LoadFree, LoadTopToTake, LoadTopToClose, LoadTopToShut, LoadTopToGauge}
use Rattle.stack_machine.specs.Machine.{State, stack}
use Rattle.stack_machine.specs.Answers.{shape}
use Rattle.step_core.specs.stack.Bound.{IsSingle}
use Rattle.running.specs.Acts.{Begins, steps_in}
use Rattle.runs.specs.Runs.{Below, schedule_of}

module _ {T : Type 0} where
  abbrev pub put_of : List T → Call T
  put_of [] = CallLook
  put_of (v ∷ vs) = CallPut v vs

  -- the call that begins at a line
  abbrev pub call_at : Line T → Call T
  call_at (LoadFree put) = put_of put.values
  call_at (LoadTopToTake taking) = CallTake taking
  call_at LoadTopToClose = CallClose
  call_at LoadTopToShut = CallShut
  call_at LoadTopToGauge = CallGauge
  call_at l = CallLook

  module _ (n limit : ℕ) where
    -- the machine with `passes` passes, after these acts
    abbrev pub state_after : ℕ → Acts (Line T) → State T
    state_after passes acts = after (stack (shape n limit)) passes (schedule_of call_at acts)

    -- Pass x is in an operation with this first line, by the acts as it was begun and those by now. Since then it has made at most 4 * n +
    -- 6 steps, and 4 for each exchange by which another pass succeeded. For an operation of one value the first number is 9. The machine
    -- that ran as the passes did says which succeeded. The same bounds hold of the steps from any point of the operation on
    pub record IsBounded (before now : Acts (Line T)) (x : ℕ) (first : Line T) : Type 0 where
      pub since : Acts (Line T)
      pub is : now ≡ since ++ (x, Begins first) ∷ before
      pub bound : (passes : ℕ) → Below passes now
          → steps_in x since ≤ 4 * n + 6 + 4 * others_win (stack (shape n limit)) x (schedule_of call_at since) (state_after passes ((x, Begins first) ∷ before))
      pub single : IsSingle first → (passes : ℕ) → Below passes now
          → steps_in x since ≤ 9 + 4 * others_win (stack (shape n limit)) x (schedule_of call_at since) (state_after passes ((x, Begins first) ∷ before))
      pub from_any_point : (later earlier : Acts (Line T)) → since ≡ later ++ earlier → (passes : ℕ) → Below passes now
          → steps_in x later ≤ 4 * n + 6 + 4 * others_win (stack (shape n limit)) x (schedule_of call_at later) (state_after passes (earlier ++ (x, Begins first) ∷ before))
      pub single_from_any_point : IsSingle first → (later earlier : Acts (Line T)) → since ≡ later ++ earlier → (passes : ℕ) → Below passes now
          → steps_in x later ≤ 9 + 4 * others_win (stack (shape n limit)) x (schedule_of call_at later) (state_after passes (earlier ++ (x, Begins first) ∷ before))

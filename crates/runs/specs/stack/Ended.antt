-- Some call on a stack ends, whatever the passes do.
use Rattle.std.specs.Prelude.{ℕ, suc, ◌+◌, ◌*◌, ◌≤◌}
use Rattle.machine.specs.Progress.{steps_made, calls_ended}
use Rattle.machine.specs.Seats.{Acts}
use Rattle.stack_machine.specs.declared.lines.Line.{Line}
use Rattle.stack_machine.specs.Machine.{stack}
use Rattle.stack_machine.specs.Answers.{shape}
use Rattle.runs.specs.Runs.{schedule_of}
use Rattle.runs.specs.stack.Bounded.{call_at, state_after}

-- Never more than P = 1 + `others` passes are in a call at once. In the later acts the passes have made, together, at most this number of steps
-- for each call that ended in them, and as many for each of these P passes
abbrev pub EndsWithin : {T : Type 0} → ℕ → ℕ → ℕ → ℕ → (later earlier : Acts (Line T)) → ℕ → Type 0
EndsWithin n limit passes others later earlier most =
    let s = state_after n limit passes earlier in
    steps_made (stack (shape n limit)) (schedule_of call_at later) s ≤ most * (calls_ended (stack (shape n limit)) (schedule_of call_at later) s + suc others)

-- On a stack of n nodes that number is (3 * n + 4) * P + n + 2, and 7 * P + 2 for calls of one value
abbrev pub CallsEnd : {T : Type 0} → ℕ → ℕ → ℕ → ℕ → (later earlier : Acts (Line T)) → Type 0
CallsEnd n limit passes others later earlier = EndsWithin n limit passes others later earlier (4 * n + 6 + (3 * n + 4) * others)

abbrev pub CallsOfOneValueEnd : {T : Type 0} → ℕ → ℕ → ℕ → ℕ → (later earlier : Acts (Line T)) → Type 0
CallsOfOneValueEnd n limit passes others later earlier = EndsWithin n limit passes others later earlier (9 + 7 * others)

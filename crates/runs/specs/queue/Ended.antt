-- Some call on a queue ends, whatever the passes do.
use Rattle.std.specs.Prelude.{ℕ, suc, ◌+◌, ◌*◌, ◌≤◌}
use Rattle.machine.specs.Progress.{steps_made, calls_ended}
use Rattle.machine.specs.Seats.{Acts}
use Rattle.queue_machine.specs.declared.lines.Line.{Line}
use Rattle.queue_machine.specs.Machine.{queue}
use Rattle.queue_machine.specs.Answers.{shape}
use Rattle.runs.specs.Runs.{schedule_of}
use Rattle.runs.specs.queue.Bounded.{call_at, state_after}

-- Never more than P = 1 + `others` passes are in a call at once. In the later acts the passes have made, together, at most 14 * P + 6 steps for each
-- call that ended in them, and as many for each of these P passes
abbrev pub CallsEnd : {T : Type 0} → ℕ → ℕ → ℕ → ℕ → (later earlier : Acts (Line T)) → Type 0
CallsEnd n limit passes others later earlier =
    let s = state_after n limit passes earlier in
    steps_made (queue (shape n limit)) (schedule_of call_at later) s ≤ (20 + 14 * others) * (calls_ended (queue (shape n limit)) (schedule_of call_at later) s + suc others)

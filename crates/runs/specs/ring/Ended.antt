-- Some call on a ring ends, whatever the passes do.
use Rattle.std.specs.Prelude.{ℕ, ◌+◌, ◌-◌, ◌*◌, ◌≤◌}
use Rattle.machine.specs.Progress.{steps_made, calls_ended}
use Rattle.machine.specs.Seats.{Acts}
use Rattle.ring_table.specs.declared.line.SeatLine.{SeatLine}
use Rattle.runs.specs.Runs.{schedule_of}
use Rattle.runs.specs.ring.Bounded.{call_at, state_after}
use Rattle.runs.specs.ring.Machine.{cell_ring}

-- A ring for `passes` passes at once. In the later acts the passes have made, together, at most 31 + 24 * (passes - 1) steps for each
-- call that ended in them, and as many for each of the passes
abbrev pub CallsEnd : {T : Type 0} → ℕ → ℕ → ℕ → ℕ → (later earlier : Acts (SeatLine T)) → Type 0
CallsEnd n laps passes numbers later earlier =
    let ring = cell_ring n laps passes in
    let s = state_after n laps passes numbers earlier in
    steps_made ring (schedule_of call_at later) s ≤ (31 + 24 * (passes - 1)) * (calls_ended ring (schedule_of call_at later) s + passes)

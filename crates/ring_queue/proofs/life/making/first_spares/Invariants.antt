use Rattle.std.proofs.Common.{◌≡◌, ◌+◌, ◌-◌, ◌≤◌}
use Rattle.std.specs.Prelude.{vec_len, vec_capacity}
use Rattle.ring_table.specs.Seats.{cells_from}
use Rattle.ring_queue.specs.Calls.{cells_of}
use Rattle.ring_queue.proofs.life.making.first_spares.Given as goal

abbrev pub invariant-loop-count : goal.invariant-loop-count
invariant-loop-count l = (vec_len l.spares ≡ l.count) × (l.fn.passes ≤ vec_capacity l.spares) × (cells_of l.spares.items ≡ cells_from (l.fn.capacity + (l.fn.passes - l.count)) l.count)

use Rattle.std.proofs.Common.{ℕ, ◌+◌, ◌-◌, ◌<◌, ◌≤◌}
use Rattle.std.specs.Mem.Slots.{slots_items}
use Rattle.tagged_index.specs.declared.word.TheConstants.{MAX_TAG}
use Rattle.ring_machine.specs.Machine.{stride}
use Rattle.ring_queue.specs.code.Left.{HasTaken}
use Rattle.ring_queue.proofs.Front.{IsNear}
use Rattle.ring_queue.proofs.life.rest.front_of.Given as goal

abbrev pub invariant-loop-gone : goal.invariant-loop-gone
invariant-loop-gone g l = (l.slot < l.capacity) × (l.lap ≤ MAX_TAG + l._gone) × ((takes : ℕ) → HasTaken l.capacity takes (slots_items l.closed.words) → IsNear l.capacity takes (stride - l._gone) l.lap l.slot)

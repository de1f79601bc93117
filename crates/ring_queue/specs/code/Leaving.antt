-- The values of a ring's rest that it has not given yet.
use Rattle.std.specs.Prelude.{List}
use Rattle.std.specs.Mem.Slots.{slots_items}
use Rattle.ring_queue.specs.declared.life.rest.Rest.{Rest}
use Rattle.ring_queue.specs.code.Left.{values_from}

abbrev pub left_in : {T : Type 0} → Rest T → List T
left_in r = values_from r.capacity (slots_items r.closed.words) r.left (slots_items r.closed.slots) r.slot

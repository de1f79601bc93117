use Rattle.std.proofs.Common.{◌≡◌, ℕ, ◌<◌, false, get_or}
use Rattle.std.specs.Mem.Slots.{slots_filled, slots_len}
use Rattle.std.specs.Mem.Slots.Ownership.{Filled}
use Rattle.treiber_stack.proofs.life.rest.Rest.drop.Given as goal

abbrev pub invariant-loop-at : goal.invariant-loop-at
invariant-loop-at g l = Filled (slots_filled l.closed.slots) l.at (slots_len l.closed.slots) × ((k : ℕ) → k < l.at → get_or (slots_filled l.closed.slots) k false ≡ false) × (slots_len l.closed.slots ≡ l.at-end)

use Rattle.std.proofs.Common.{inr, rules}
use Rattle.lockfree_c.proofs.Refused.{no_slots}
use Rattle.lockfree_c.proofs.ends.push_many.Goals as goal

pub returns-then-is_empty-2 : goal.returns-then-is_empty-2
returns-then-is_empty-2 c = let e = c.push_partial_slice.ensures in
    inr (no_slots c.args.end.now c.push_partial_slice.new.self c.is_abandoned.new.self _ _ _ e.ring e.parts e.sent e.known e.most c.is_abandoned.ensures (search rules) (search rules), c.no_room.ensures)

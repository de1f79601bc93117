use Rattle.std.proofs.Common.{inr, rules}
use Rattle.lockfree_c.proofs.Refused.{looked_in_vain}
use Rattle.lockfree_c.proofs.ends.peek.Goals as goal

pub returns-then-is_empty : goal.returns-then-is_empty
returns-then-is_empty c = let e = c.if-is_empty.ensures in
    let vain = looked_in_vain c.args.end.now c.is_abandoned-gone.new.self c.is_empty.new.self c.is_abandoned-gone.ensures e.looked (search rules) in
    (inr (vain.0, c.no_item.ensures), λ known. absurd (vain.1 known))

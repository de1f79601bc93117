use Rattle.std.proofs.Common.{◌≡◌, inr, subst, drop, rules}
use Rattle.lockfree_c.proofs.Refused.{no_items}
use Rattle.lockfree_c.proofs.ends.pop_many.Goals as goal

pub returns-then-count-eq0 : goal.returns-then-count-eq0
returns-then-count-eq0 c =
    let e = c.pop_partial_slice-count.ensures in
    let xs = c.args.values.now in
    let ys = c.pop_partial_slice-count.new.slice in
    let none = no_items c.args.end.now c.is_abandoned-gone.new.self c.pop_partial_slice-count.new.self c.pop_partial_slice-count.result xs ys c.if-count-eq0.true c.is_abandoned-gone.ensures e.ring e.received.1 e.known e.most (search rules) in
    inr (subst (λ n. drop n ys ≡ drop n xs) c.if-count-eq0.true e.received.2, (none, c.no_item.ensures))

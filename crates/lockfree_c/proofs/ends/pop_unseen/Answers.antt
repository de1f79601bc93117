use Rattle.std.proofs.Common.{inr}
use Rattle.lockfree_c.proofs.Refused.{no_item, none_in, prefix_of_none}
use Rattle.lockfree_c.proofs.ends.pop_unseen.Goals as goal

pub returns-in-Err : goal.returns-in-Err
returns-in-Err c = let e = c.in-Err.ensures in
    (inr (no_item c.args.end.now c.is_abandoned-gone.new.self c.pop.new.self (prefix_of_none _ _ c.requires) c.is_abandoned-gone.ensures e.ring e.empty.0 e.empty.1, c.no_item.ensures), λ known. absurd (none_in _ c.requires known))

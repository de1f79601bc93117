use Rattle.std.proofs.Common.{inr}
use Rattle.lockfree_c.proofs.Refused.{not_true, refused_push}
use Rattle.lockfree_c.proofs.ends.push.Goals as goal

pub returns-in-Err : goal.returns-in-Err
returns-in-Err c = let e = c.in-Err.ensures in
    (inr (refused_push c.args.end.now c.push.new.self c.is_abandoned.new.self e.ring e.full.1 e.full.2 e.succeeds c.is_abandoned.ensures, c.no_room.ensures), λ known. absurd (not_true (e.succeeds known)))

use Rattle.std.proofs.Common.{◌++◌, take}
use Rattle.audit.proofs.Writing.{moves_front, Sends-more}
use Rattle.audit.proofs.output.put.Goals as goal

pub loop-rest-preserved-then-count-gt0 : goal.loop-rest-preserved-then-count-gt0
loop-rest-preserved-then-count-gt0 g c =
    let (out, front, sent) = c.loop-rest.invariant in
    let rest = c.loop-rest.rest.now in
    let count = c.in-Ok.count in
    (out ++ take count rest, moves_front _ out rest count front, rw c.saturating_add-progress.ensures (Sends-more _ _ _ out rest count sent c.in-Ok.ensures.bytes c.in-Ok.ensures.bound))

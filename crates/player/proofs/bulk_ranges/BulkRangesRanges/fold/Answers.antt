use Rattle.std.proofs.Common.{Ok, ap, true, false}
use Rattle.player.proofs.Folding.{fold_told}
use Rattle.player.proofs.bulk_ranges.BulkRangesRanges.fold.Goals as goal

pub returns-in_ok-values-clause-gives : goal.returns-in_ok-values-clause-gives
returns-in_ok-values-clause-gives g c lifo =
    let k = g.C.Container in
    let fold = c.fold_all_atomic_reversed-pass in
    rw (c.if-reversed.true, c.numbered.ensures) (fold_told (k.shape c.args.container.now) true (k.pass c.args.by) (k.pass fold.result.0) fold.result.2 _ _ _ _ _ (ap Ok c.new.ensures) c.in_ok-values.was (λ s x t adds. adds) fold.ensures.gives)

pub returns-in_ok-values-2-clause-gives : goal.returns-in_ok-values-2-clause-gives
returns-in_ok-values-2-clause-gives g c lifo =
    let k = g.C.Container in
    let fold = c.fold_all_atomic-pass in
    rw (c.if-reversed.false, c.numbered-else-reversed.ensures) (fold_told (k.shape c.args.container.now) false (k.pass c.args.by) (k.pass fold.result.0) fold.result.2 _ _ _ _ _ (ap Ok c.new.ensures) c.in_ok-values-2.was (λ s x t adds. adds) fold.ensures.gives)

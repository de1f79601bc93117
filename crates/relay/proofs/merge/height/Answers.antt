use Rattle.std.proofs.Common.{arith, ap, ◌+◌}
use Rattle.relay.proofs.Tops.{below_last}
use Rattle.relay.proofs.merge.height.Goals as goal

pub returns-else-count-eq0-clause-below : goal.returns-else-count-eq0-clause-below
returns-else-count-eq0-clause-below c =
    let long = c.args.list.now.ok.0 in
    below_last c.args.list.now c.index.result.now _ _ c.requires.up (omega (arith, long, c.len-count.ensures, c.if-count-eq0.false)) c.index.ensures (ap (λ n. n + 1) c.from.ensures)

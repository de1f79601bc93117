use Rattle.std.proofs.Common.{arith}
use Rattle.std.proofs.lemmas.List.Elements.{All-push}
use Rattle.waiting.proofs.Rows.{SplitsEach-more}
use Rattle.waiting.proofs.passes.split_many.Goals as goal

pub loop-root-preserved : goal.loop-root-preserved
loop-root-preserved g c =
    let old = c.loop-root.invariant in
    let pushed = c.push_reserved.ensures in
    record {
      root = c.split.ensures.root;
      passes = rw pushed.items (All-push (g.C.Container.is_pass c.args.c.now) _ _ old.passes c.in-Some.ensures.gives.0);
      few = omega (arith, pushed.len, c.len.ensures, c.loop-root-test.true);
      room = omega (arith, pushed.capacity, old.room);
      splits = rw pushed.items (SplitsEach-more _ g.C.Container.pass _ c.loop-root.passes.items _ _ c.in-Some.pass old.splits c.in-Some.ensures.gives.1);
    }

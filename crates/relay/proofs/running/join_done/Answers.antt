use Rattle.std.proofs.Common.{arith, refl}
use Rattle.std.proofs.lemmas.List.Elements.{All-rest}
use Rattle.relay.proofs.Joins.{Joining_more}
use Rattle.relay.proofs.running.join_done.Goals as goal

pub loop-one-preserved : goal.loop-one-preserved
loop-one-preserved g c =
    let C = g.C.Container in
    let old = c.loop-one.invariant in
    let steps = c.in-Some.ensures.steps in
    let pushed = c.push_reserved.ensures in
    record {
      root = c.join.ensures.root;
      passes = All-rest (λ w. C.is_pass c.args.container.now w.pass) c.in-Some.one _ _ steps.0 old.passes;
      room = omega (arith, steps.1, pushed.len, pushed.capacity, old.room);
      joining = rw pushed.items (Joining_more _ _ _ _ c.in-Some.one _ _ _ _ _ (rw steps.0 at old.joining) refl c.join.ensures.gives);
    }

use Rattle.std.proofs.lemmas.List.Elements.{All-rest}
use Rattle.waiting.proofs.passes.join_all.Goals as goal

pub loop-pass-preserved : goal.loop-pass-preserved
loop-pass-preserved g c =
    let steps = c.in-Some.ensures.steps in
    record {
      root = c.join.ensures.root;
      passes = All-rest (g.C.Container.is_pass c.args.c.now) c.in-Some.pass _ _ steps.0 c.loop-pass.invariant.passes;
      joins = λ s rest. c.loop-pass.invariant.joins s (rw steps.0 (g.C.Container.root c.join.new.parent, c.join.ensures.gives, rest));
    }

use Rattle.std.proofs.Common.{arith, append-nil, ◌∙◌}
use Rattle.relay.proofs.Tops.{up_front, still_above, merging_last, merging_moved}
use Rattle.relay.proofs.merge.move_run.Goals as goal

pub returns-then-height-bound-clause-merging : goal.returns-then-height-bound-clause-merging
returns-then-height-bound-clause-merging c = λ start merging.
    let old = c.loop-taken.invariant in
    rw c.push_reserved.ensures.items (merging_last start c.loop-taken.all.items c.args.others.now c.loop-taken.rest c.pop.new.self c.in-Some.taken c.in-Some.ensures.items old.up old.above (old.merging start merging))

pub loop-taken-preserved : goal.loop-taken-preserved
loop-taken-preserved c =
    let old = c.loop-taken.invariant in
    let pushed = c.push_reserved.ensures in
    let popped = c.in-Some.ensures in
    record {
      up = up_front c.loop-taken.rest c.pop.new.self c.in-Some.taken popped.items old.up;
      above = still_above c.args.others.now c.pop.new.self c.bound-bound.result c.height.result c.height.ensures.is (omega (arith, c.if-height-bound.false)) c.bound-bound.ensures;
      few = omega (arith, popped.len, popped.cases, old.few);
      room = omega (arith, popped.len, popped.cases, pushed.len, old.room);
      capacity = omega (arith, pushed.capacity, old.capacity);
      merging = λ start merging. rw pushed.items (merging_last start c.loop-taken.all.items c.args.others.now c.loop-taken.rest c.pop.new.self c.in-Some.taken popped.items old.up old.above (old.merging start merging));
    }

pub returns-clause-merging : goal.returns-clause-merging
returns-clause-merging c = λ start merging.
    let rest = c.in_default.ensures.items ∙ append-nil c.pop.new.self.items in
    merging_moved start c.loop-taken.all.items c.args.others.now c.loop-taken.rest c.pop.new.self rest (c.loop-taken.invariant.merging start merging)

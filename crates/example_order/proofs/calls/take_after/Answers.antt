use Rattle.std.proofs.Common.{ℕ, Bool, subst}
use Rattle.bounded_model.specs.declared.views.PassView.{PassView}
use Rattle.bounded_model.specs.Histories.{Later}
use Rattle.bounded_model.specs.Laws.{Meets, MeetGives}
use Rattle.bounded_model.proofs.Histories.{Later-trans}
use Rattle.ring_queue.specs.Calls.{pass_in, shape_of, root_in}
use Rattle.example_order.proofs.Concluding.{took_after}
use Rattle.example_order.proofs.calls.take_after.Goals as goal

pub returns-clause-order : goal.returns-clause-order
returns-clause-order g c =
    let shape = shape_of c.args.ring.now in
    let v = pass_in c.args.first in
    let w = pass_in c.put-first.result.0 in
    let u = pass_in c.args.second in
    let t = pass_in c.meet-first.new.first in
    let s = pass_in c.take-second.result.0 in
    let h = (root_in c.join-2.new.parent).seen in
    let met : Meets u w t = subst (λ (b : Bool). MeetGives u w t b) c.meet-first.ensures.met c.meet-first.ensures.gives in
    took_after shape v w u t s c.args.value c.put-first.result.1 c.take-second.result.1 h
    (c.calls_in_one_order.ensures shape h)
    (c.each_call_did_once.ensures.put shape v w c.args.value c.put-first.result.1 c.put-first.ensures.gives)
    met
    (c.each_call_did_once.ensures.take shape t s c.take-second.result.1 c.take-second.ensures.gives)
    (Later-trans (subst (λ (p : PassView ℕ). Later p.seen (root_in c.join.new.parent).seen) c.meet-first.ensures.second.1 c.join.ensures.gives.seen) c.join-2.ensures.gives.root_seen)
    c.join-2.ensures.gives.seen

use Rattle.bounded_model.proofs.Consuming.{Consumed}
use Rattle.bounded_model.proofs.consume.consume_all.Given as goal

abbrev pub invariant-loop : goal.invariant-loop
invariant-loop g l = record {
  can : (goal.iterator-loop g).can_next l.iterator';
  finite : (goal.iterator-loop g).is_finite l.iterator';
  of : g.C.Container.is_pass l.fn.c l.pass;
  consumed : Consumed (g.C.Container.shape l.fn.c) (λ s x t. goal.F-post g l.f s x t) (g.C.Container.pass l.fn.by) l.fn.state (g.C.Container.pass l.pass) l.folded;
}

use Rattle.waiting.proofs.Rows.{Taken}
use Rattle.waiting.proofs.take.take_all_until_closed.Given as goal

abbrev pub invariant-loop : goal.invariant-loop
invariant-loop g l = record {
  can : (goal.iterator-loop g).can_next l.iterator';
  finite : (goal.iterator-loop g).is_finite l.iterator';
  of : g.C.Shared.is_pass l.fn.c l.pass;
  taken : Taken (g.C.Shared.shape l.fn.c) (λ s x t. goal.F-post g l.f s x t) (g.C.Shared.pass l.fn.by) l.fn.state (g.C.Shared.pass l.pass) l.folded;
}

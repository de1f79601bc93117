use Rattle.waiting.proofs.Rows.{Front}
use Rattle.waiting.proofs.put.put_all.Given as goal

abbrev pub invariant-loop : goal.invariant-loop
invariant-loop g l = record {
  can : (goal.iterator-loop g).can_next l.iterator';
  finite : (goal.iterator-loop g).is_finite l.iterator';
  of : g.C.Shared.is_pass l.fn.c l.pass;
  next : g.I.Iterator.can_next l.values;
  front : Front (g.C.Shared.shape l.fn.c) (g.C.Shared.pass l.fn.by) (g.C.Shared.pass l.pass) g.I.Iterator.next_gives l.fn.values l.values;
}

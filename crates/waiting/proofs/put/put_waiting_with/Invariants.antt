use Rattle.std.proofs.Common.{◌≡◌, Err}
use Rattle.bounded_model.specs.declared.answers.PutRefused.TheVariants.{Full}
use Rattle.bounded_model.specs.Laws.{put_answered}
use Rattle.waiting.proofs.Trying.{Tried, Refused}
use Rattle.waiting.proofs.put.put_waiting_with.Given as goal

-- nothing was put yet
abbrev pub invariant-loop : goal.invariant-loop
invariant-loop g l = record {
  can : (goal.iterator-loop g).can_next l.iterator';
  finite : (goal.iterator-loop g).is_finite l.iterator';
  call : goal.F-IsAlwaysCallable g l.before;
  of : g.C.Shared.is_pass l.fn.c l.pass;
  value : l.value ≡ l.fn.value;
  tried : Tried (g.C.Shared.pass l.fn.by) (g.C.Shared.pass l.pass);
  refused : Refused (put_answered (Err (Full l.fn.value))) (g.C.Shared.pass l.fn.by) (g.C.Shared.pass l.pass);
}

use Rattle.std.proofs.Common.{Err}
use Rattle.bounded_model.specs.declared.answers.TakeRefused.TheVariants.{Empty}
use Rattle.bounded_model.specs.declared.views.Answered.TheVariants.{Take as TakeAnswered}
use Rattle.waiting.proofs.Trying.{Tried, Refused}
use Rattle.waiting.proofs.take.take_waiting_with.Given as goal

-- nothing was taken yet
abbrev pub invariant-loop : goal.invariant-loop
invariant-loop g l = record {
  can : (goal.iterator-loop g).can_next l.iterator';
  finite : (goal.iterator-loop g).is_finite l.iterator';
  call : goal.F-IsAlwaysCallable g l.before;
  of : g.C.Shared.is_pass l.fn.c l.pass;
  tried : Tried (g.C.Shared.pass l.fn.by) (g.C.Shared.pass l.pass);
  refused : Refused (TakeAnswered (Err Empty)) (g.C.Shared.pass l.fn.by) (g.C.Shared.pass l.pass);
}

use Rattle.std.proofs.Common.{◌≡◌}
use Rattle.container_tests.proofs.steps.call_by_steps.Given as goal

abbrev pub invariant-loop-before : goal.invariant-loop-before
invariant-loop-before g l = record {
  call : g.C.Stepwise.is_making l.fn.container l.fn.command l.op;
  begun : (g.C.Stepwise.making l.op).begun ≡ g.C.Container.pass l.fn.by;
}

use Rattle.container_tests.proofs.crowd.put_then_take.Given as goal

abbrev pub invariant-loop-value : goal.invariant-loop-value
invariant-loop-value g l = g.C.Shared.is_pass l.fn.container l.pass

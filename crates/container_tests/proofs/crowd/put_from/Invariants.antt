use Rattle.container_tests.proofs.crowd.put_from.Given as goal

abbrev pub invariant-loop-k : goal.invariant-loop-k
invariant-loop-k g l = g.C.Shared.is_pass l.fn.container l.pass

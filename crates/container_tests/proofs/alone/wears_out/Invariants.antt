use Rattle.container_tests.proofs.alone.wears_out.Given as goal

abbrev pub invariant-loop-value : goal.invariant-loop-value
invariant-loop-value g l = g.C.Container.is_pass l.fn.container l.pass

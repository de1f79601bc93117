use Rattle.container_tests.proofs.drops.in_and_out.Given as goal

abbrev pub invariant-loop : goal.invariant-loop
invariant-loop g l = g.C.Container.is_pass l.container l.pass

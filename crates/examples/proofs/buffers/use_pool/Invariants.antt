use Rattle.examples.proofs.buffers.use_pool.Given as goal

abbrev pub invariant-loop : goal.invariant-loop
invariant-loop g l = g.C.Container.is_pass l.fn.pool l.pass

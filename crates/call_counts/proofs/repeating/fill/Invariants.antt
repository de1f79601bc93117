use Rattle.call_counts.proofs.repeating.fill.Given as goal

abbrev pub invariant-loop-item : goal.invariant-loop-item
invariant-loop-item g l = g.C.Container.is_pass l.fn.container l.pass

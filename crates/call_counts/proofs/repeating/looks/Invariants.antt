use Rattle.call_counts.proofs.repeating.looks.Given as goal

abbrev pub invariant-loop-made : goal.invariant-loop-made
invariant-loop-made g l = g.C.Container.is_pass l.fn.container l.pass

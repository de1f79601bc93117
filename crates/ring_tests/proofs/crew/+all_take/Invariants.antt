use Rattle.ring_tests.proofs.crew.+all_take.Given as goal

abbrev pub decreases-all_take : goal.decreases-all_take
decreases-all_take g l = l.passes

use Rattle.ring_tests.proofs.crew.+all_put.Given as goal

abbrev pub decreases-all_put : goal.decreases-all_put
decreases-all_put g l = l.passes

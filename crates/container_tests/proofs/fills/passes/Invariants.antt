use Rattle.std.proofs.Common.{All}
use Rattle.container_tests.proofs.fills.passes.Given as goal

abbrev pub invariant-loop : goal.invariant-loop
invariant-loop g l = g.C.Container.is_root l.fn.container l.root × All (g.C.Container.is_pass l.fn.container) l.all.items

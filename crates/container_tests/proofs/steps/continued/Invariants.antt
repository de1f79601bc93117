use Rattle.bounded_model.specs.declared.commands.Command.{Command}
use Rattle.container_tests.proofs.steps.continued.Given as goal

abbrev pub invariant-loop : goal.invariant-loop
invariant-loop g l = (call : Command g.row.T.Denot) × g.C.Stepwise.is_making l.fn.container call l.op

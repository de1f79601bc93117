use Rattle.stack_machine.proofs.Places.{no_node_twice, wins_unheld}
use Rattle.step_core.proofs.stack.Run.{stack_nodes_once}
use Rattle.step_core.proofs.stack_laws.stack_nodes.Goals as goal

pub returns : goal.returns
returns g c = record {
  wherever_the_rule_holds = λ n limit s x. no_node_twice x.good;
  wins_unheld = λ n limit p s l x. wins_unheld x.good p p l;
  in_every_schedule = stack_nodes_once;
}

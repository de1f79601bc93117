use Rattle.queue_machine.proofs.Places.{nothing_twice, wins_unheld}
use Rattle.step_core.proofs.queue.Run.{queue_nodes_once}
use Rattle.step_core.proofs.queue_laws.queue_nodes.Goals as goal

pub returns : goal.returns
returns g c = record {
  wherever_the_rule_holds = λ n limit s x. nothing_twice x.good;
  wins_unheld = λ n limit p s l x. wins_unheld x.good p p l;
  in_every_schedule = queue_nodes_once;
}

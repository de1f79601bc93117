use Rattle.ring_machine.proofs.Places.{nothing_twice, wins_unheld}
use Rattle.step_core.proofs.ring.Run.{run_meets}
use Rattle.step_core.proofs.ring_laws.ring_cells.Goals as goal

pub returns : goal.returns
returns g c = record {
  wherever_the_rule_holds = λ n laps cells s x. nothing_twice x;
  wins_unheld = λ n laps cells p s l x. wins_unheld x p p l;
  in_every_schedule = λ n laps passes schedule pos. nothing_twice (run_meets n laps passes schedule pos);
}

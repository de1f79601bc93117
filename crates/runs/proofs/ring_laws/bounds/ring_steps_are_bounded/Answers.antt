use Rattle.std.proofs.Common.{inr}
use Rattle.runs.proofs.ring.Overtaken.{bounded, bounded_run}
use Rattle.runs.proofs.ring_laws.bounds.ring_steps_are_bounded.Goals as goal

pub returns : goal.returns
returns g c = record {
  under_way = λ n laps passes x before now first l some_slot k busy. bounded n laps passes some_slot x before now first l k busy;
  ended = λ n laps passes x before now first l some_slot k proper. bounded_run n laps passes some_slot x before now first l k (inr proper);
}

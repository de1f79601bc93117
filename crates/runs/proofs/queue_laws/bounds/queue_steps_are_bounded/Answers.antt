use Rattle.std.proofs.Common.{inr}
use Rattle.runs.proofs.queue.Queues.{bounded, bounded_run}
use Rattle.runs.proofs.queue_laws.bounds.queue_steps_are_bounded.Goals as goal

pub returns : goal.returns
returns g c = record {
  under_way = λ n limit x before now first l some_cell small some_tag k busy. bounded n limit some_cell small some_tag x before now first l k busy;
  ended = λ n limit x before now first l some_cell small some_tag k proper. bounded_run n limit some_cell small some_tag x before now first l k (inr proper);
}

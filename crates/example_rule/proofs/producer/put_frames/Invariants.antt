use Rattle.example_rule.specs.Ends.{IsProducer}
use Rattle.example_rule.proofs.producer.put_frames.Given as goal

abbrev pub invariant-loop : goal.invariant-loop
invariant-loop g l = (goal.iterator-loop g).can_next l.iterator' × (goal.iterator-loop g).is_finite l.iterator' × IsProducer l.fn.stream l.producer

use Rattle.std.proofs.Common.{◌≡◌, IfSome}
use Rattle.example_rule.specs.Ends.{IsPassOf}
use Rattle.example_rule.specs.Frames.{frame_of}
use Rattle.example_rule.proofs.consumer.take_all.Given as goal

abbrev pub invariant-loop : goal.invariant-loop
invariant-loop g l = (goal.iterator-loop g).can_next l.iterator' × (goal.iterator-loop g).is_finite l.iterator' × IsPassOf l.fn.stream l.pass × IfSome l.last (λ taken. taken.0 ≡ frame_of taken.1)

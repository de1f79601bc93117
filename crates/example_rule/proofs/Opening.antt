-- The first pass of a new stream is the producer's.
use Rattle.std.proofs.Common.{◌≡◌, List, ap, ◌∙◌}
use Rattle.bounded_model.specs.declared.history.Event.{Event}
use Rattle.bounded_model.specs.declared.views.PassView.{PassView}
use Rattle.bounded_model.specs.declared.views.RootView.{RootView}
use Rattle.bounded_model.specs.Laws.{Splits, fresh}
use Rattle.running.specs.Ties.{changed_by}
use Rattle.ms_queue.specs.Calls.{QueueWith, Pass, pass_in, shape_of}
use Rattle.example_rule.specs.declared.feed.Feed.{Feed}
use Rattle.example_rule.specs.declared.frame.Frame.{Frame}
use Rattle.example_rule.specs.Ends.{IsPassOf, IsProducer}
use Rattle.example_rule.specs.Fed.{count_puts}
use Rattle.example_rule.specs.Frames.{boss}

pub first_producer : (stream : QueueWith Frame Feed) (r s : RootView Frame) (p : Pass Frame) → r ≡ fresh → IsPassOf stream p → Splits (shape_of stream) r s (pass_in p) → IsProducer stream (record { pass = p; next = 0 })
first_producer stream r s p new of splits = record {
  pass = of;
  alone = ap (λ (v : PassView Frame). v.number) splits.pass ∙ ap (λ (u : RootView Frame). u.given) new;
  counted = ap (λ (h : List (Event Frame)). count_puts (changed_by boss h)) (ap (λ (v : PassView Frame). v.seen) splits.pass ∙ ap (λ (u : RootView Frame). u.seen) new);
}

-- The two ends of a stream.
use Rattle.std.specs.Prelude.{◌≡◌, IfSome}
use Rattle.running.specs.Ties.{changed_by}
use Rattle.ms_queue.specs.Calls.{QueueWith, Pass, IsPassWith, pass_in}
use Rattle.example_rule.specs.declared.consumer.Taken.{Taken}
use Rattle.example_rule.specs.declared.feed.Feed.{Feed}
use Rattle.example_rule.specs.declared.frame.Frame.{Frame}
use Rattle.example_rule.specs.declared.producer.Producer.{Producer}
use Rattle.example_rule.specs.Fed.{count_puts}
use Rattle.example_rule.specs.Frames.{boss, feed, frame_of}

-- a pass of this stream, at either end
abbrev pub IsPassOf : QueueWith Frame Feed → Pass Frame → Type 0
IsPassOf stream p = IsPassWith feed stream p

-- The producer has the pass that alone may put. How many puts that pass has made, by what it has seen, is the number of its next frame
pub record IsProducer (stream : QueueWith Frame Feed) (by : Producer) : Type 0 where
  pub pass : IsPassOf stream by.pass
  pub alone : (pass_in by.pass).number ≡ boss
  pub counted : count_puts (changed_by boss (pass_in by.pass).seen) ≡ by.next

-- the last frame that a consumer took is that of its take's number
abbrev pub LastIsRight : Taken → Type 0
LastIsRight taken = IfSome taken.last (λ t. t.0 ≡ frame_of t.1)

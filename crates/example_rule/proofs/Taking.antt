-- What a consumer knows of a take by its answer.
use Rattle.std.proofs.Common.{◌≡◌, ℕ, Result, Ok, Err}
use Rattle.std.specs.Prelude.{IfOk}
use Rattle.bounded_model.specs.declared.answers.TakeRefused.{TakeRefused}
use Rattle.bounded_model.specs.declared.views.PassView.{PassView}
use Rattle.bounded_model.specs.Laws.{TakeGives}
use Rattle.ms_queue.specs.Calls.{QueueWith, Pass, limit_of, pass_in, room_of, shape_of}
use Rattle.example_rule.specs.declared.feed.Feed.{Feed}
use Rattle.example_rule.specs.declared.frame.Frame.{Frame}
use Rattle.example_rule.specs.Ends.{IsPassOf}
use Rattle.example_rule.specs.Frames.{boss, frame_of}
use Rattle.example_rule.proofs.Counting.{gives_its_number}

pub took_its_number : (stream : QueueWith Frame Feed) (v : PassView Frame) (back : Pass Frame) (said : Result (Frame × ℕ) TakeRefused) → TakeGives (shape_of stream) v (pass_in back) said → IsPassOf stream back
    → IfOk said (λ taken. taken.0 ≡ frame_of taken.1)
took_its_number stream v back (Ok took) gives of = gives_its_number boss frame_of (room_of stream) (limit_of stream) v (pass_in back) took.0 took.1 gives of.on.rests.rests.legal of.on.rests.tied
took_its_number stream v back (Err why) gives of = tt

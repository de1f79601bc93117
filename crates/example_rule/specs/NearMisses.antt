-- First puts in a small queue.
use Rattle.std.specs.Prelude.{ℕ, []}
use Rattle.bounded_model.specs.declared.views.PassView.{PassView}
use Rattle.queue_machine.specs.Answers.{shape}
use Rattle.running.specs.Ties.{PutDeals}
use Rattle.example_rule.specs.declared.frame.Frame.{Frame}
use Rattle.example_rule.specs.Frames.{feed}

-- a pass of this number that has seen nothing
abbrev pub new_pass : ℕ → PassView Frame
new_pass p = record { number = p; seen = []; steps = 0; answers = [] }

-- it may put this frame into a queue of one cell
abbrev pub FirstDeals : ℕ → Frame → Type 0
FirstDeals p x = PutDeals (shape 1 15) feed (new_pass p) x

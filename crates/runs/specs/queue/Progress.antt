-- How many steps an operation of a queue has made, as its caller sees it.
use Rattle.std.specs.Prelude.{◌≡◌, ℕ, ◌<◌, List, false, ◌∷◌, ◌++◌}
use Rattle.bounded_model.specs.declared.answers.Stepped.{Stepped}
use Rattle.bounded_model.specs.Laws.{NoneOut}
use Rattle.bounded_model.specs.Stepping.{MatchStepped}
use Rattle.bounded_model.specs.declared.views.RootView.{RootView}
use Rattle.machine.specs.Progress.{others_win}
use Rattle.machine.specs.Seats.{Acts, Extends, acts_before, acts_now}
use Rattle.queue_machine.specs.Answers.{shape}
use Rattle.queue_machine.specs.Machine.{queue}
use Rattle.queue_machine.specs.declared.lines.Line.{Line}
use Rattle.runs.specs.queue.Bounded.{IsBounded, call_at, state_after}
use Rattle.runs.specs.queue.Work.{TotalWork}
use Rattle.queue_table.specs.Core.{core}
use Rattle.queue_table.specs.Lines.{first_line, names}
use Rattle.queue_table.specs.declared.operation.Operation.{Operation}
use Rattle.running.specs.Acts.{Begins, steps_in}
use Rattle.running.specs.Passes.{pass_in}
use Rattle.running.specs.Rule.{line_in}
use Rattle.running.specs.declared.op.Op.{Op}
use Rattle.running.specs.declared.passes.Pass.{Pass}
use Rattle.runs.specs.Heard.{IsLinearizable}
use Rattle.runs.specs.Made.{HasMade}
use Rattle.runs.specs.Runs.{Below, schedule_of}
use Rattle.step_core.specs.queue.Object.{object, answer}
use Rattle.running.specs.Ends.{IsRun}
use Rattle.ms_queue.specs.Calls.{Queue, Pass as QueuePass, room_of, limit_of, machine_of}

module _ {T : Type 0} (c : Queue T) (o : Operation T) (p : Pass T (Line T)) where
  abbrev pub before : Acts (Line T)
  before = acts_before p.seat.me.0

  abbrev pub now : Acts (Line T)
  now = acts_now p.seat.me.0

  -- The pass has made `count` steps of the operation o. Once it has made the first, they are at most 20, and 8 for each exchange by which
  -- another pass has succeeded since the operation was begun
  pub record StepsAreBounded : Type 0 where
    pub count : ℕ
    pub made : HasMade names o p.seat.me.0 count
    pub bound : names.is_idle (line_in names p.seat.me.0) ≡ false
        → (b : IsBounded (room_of c) (limit_of c) before now (pass_in p).number (first_line o)) × (steps_in (pass_in p).number b.since ≡ count)

  -- more than w exchanges of other passes have succeeded since the operation was begun. They are exchanges of the machine that ran as the
  -- passes did, with any number of passes that is large enough
  pub record IsOvertaken (w : ℕ) : Type 0 where
    pub since : Acts (Line T)
    pub is : now ≡ since ++ ((pass_in p).number, Begins (first_line o)) ∷ before
    pub wins : (passes : ℕ) → Below passes now
        → w < others_win (queue (shape (room_of c) (limit_of c))) (pass_in p).number (schedule_of call_at since) (state_after (room_of c) (limit_of c) passes (((pass_in p).number, Begins (first_line o)) ∷ before))

-- an operation that did not end was overtaken
abbrev pub EndsOrOvertaken : {T S A : Type 0} → Queue T → Stepped (Op T (Line T) (Operation T) S) (QueuePass T) A → Type 0
EndsOrOvertaken c made = MatchStepped made (λ next. IsOvertaken c next.operation next.pass 0) (λ back answer. Unit {0})

-- What is left stands for a run of the passes, which begins with the acts that the root kept. Their calls are linearizable. If no pass is out, the passes together have made no more
-- steps than their calls cost
pub record IsPaidRun {T : Type 0} (c : Queue T) (kept : Acts (Line T)) (r : RootView T) (left : List T) : Type 0 where
  pub run : IsRun (machine_of c) r left
  pub extends : Extends kept run.acts
  pub linearizable : IsLinearizable names (core T (room_of c) (limit_of c)) call_at answer (object (room_of c) (limit_of c)) run.acts
  pub work : NoneOut r → TotalWork r run.acts

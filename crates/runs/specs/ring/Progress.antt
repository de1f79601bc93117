-- How many steps an operation of a ring has made, as its caller sees it.
use Rattle.std.specs.Prelude.{◌≡◌, ℕ, ◌<◌, List, false, ◌∷◌, ◌++◌}
use Rattle.bounded_model.specs.declared.answers.Stepped.{Stepped}
use Rattle.bounded_model.specs.Laws.{NoneOut}
use Rattle.bounded_model.specs.Stepping.{MatchStepped}
use Rattle.bounded_model.specs.declared.views.RootView.{RootView}
use Rattle.machine.specs.Progress.{others_win}
use Rattle.machine.specs.Seats.{Acts, Extends, acts_before, acts_now}
use Rattle.ring_queue.specs.Calls.{RingQueue, Pass as RingPass, room_of, laps_of, passes_of, machine_of}
use Rattle.runs.specs.ring.Bounded.{IsBounded, call_at, call_in, state_after}
use Rattle.runs.specs.ring.Linearizable.{answer_at}
use Rattle.runs.specs.ring.Machine.{cell_ring}
use Rattle.runs.specs.ring.Work.{TotalWork}
use Rattle.ring_table.specs.Core.{core}
use Rattle.ring_table.specs.Seats.{names}
use Rattle.ring_table.specs.declared.line.SeatLine.{SeatLine}
use Rattle.ring_table.specs.declared.operation.Operation.{Operation}
use Rattle.running.specs.Ends.{IsRun}
use Rattle.running.specs.Acts.{Begins, steps_in}
use Rattle.running.specs.Passes.{pass_in}
use Rattle.running.specs.Rule.{line_in}
use Rattle.running.specs.declared.op.Op.{Op}
use Rattle.running.specs.declared.passes.Pass.{Pass}
use Rattle.runs.specs.Heard.{IsLinearizable}
use Rattle.runs.specs.Made.{HasMade}
use Rattle.runs.specs.Runs.{Below, schedule_of}
use Rattle.step_core.specs.ring.Object.{object}

module _ {T : Type 0} (c : RingQueue T) (o : Operation T) (p : Pass T (SeatLine T)) where
  abbrev pub before : Acts (SeatLine T)
  before = acts_before p.seat.me.0

  abbrev pub now : Acts (SeatLine T)
  now = acts_now p.seat.me.0

  -- The steps of the pass in an operation that was begun at this line. They are `count`, and at most 31, and 18 for each exchange by
  -- which another pass has succeeded meanwhile
  pub record Bounds (first : SeatLine T) (count : ℕ) : Type 0 where
    pub bound : IsBounded (room_of c) (laps_of c) (passes_of c) before now (pass_in p).number first
    pub steps : steps_in (pass_in p).number bound.since ≡ count

  -- The pass has made `count` steps of the operation o. Once it has made the first, `Bounds` bounds them. The first line of o depends on
  -- the cell that the pass had then
  pub record StepsAreBounded : Type 0 where
    pub count : ℕ
    pub made : HasMade names o p.seat.me.0 count
    pub bound : names.is_idle (line_in names p.seat.me.0) ≡ false → (rest : SeatLine T) × Bounds (names.first o rest) count

  -- more than w exchanges of other passes have succeeded since the operation was begun. They are exchanges of the machine that ran as the
  -- passes did, with any numbers of passes that are enough
  pub record IsOvertaken (w : ℕ) : Type 0 where
    pub rest : SeatLine T
    pub since : Acts (SeatLine T)
    pub is : now ≡ since ++ ((pass_in p).number, Begins (names.first o rest)) ∷ before
    pub wins : (numbers : ℕ) → Below numbers now
        → w < others_win (cell_ring (room_of c) (laps_of c) (passes_of c)) (pass_in p).number (schedule_of call_at since) (state_after (room_of c) (laps_of c) (passes_of c) numbers (((pass_in p).number, Begins (names.first o rest)) ∷ before))

-- an operation that did not end was overtaken
abbrev pub EndsOrOvertaken : {T S A : Type 0} → RingQueue T → Stepped (Op T (SeatLine T) (Operation T) S) (RingPass T) A → Type 0
EndsOrOvertaken c made = MatchStepped made (λ next. IsOvertaken c next.operation next.pass 0) (λ back answer. Unit {0})

-- What is left stands for a run of the passes, which begins with the acts that the root kept. Their calls are linearizable. If no pass is out, the passes together have made no more
-- steps than their calls cost
pub record IsPaidRun {T : Type 0} (c : RingQueue T) (kept : Acts (SeatLine T)) (r : RootView T) (left : List T) : Type 0 where
  pub run : IsRun (machine_of c) r left
  pub extends : Extends kept run.acts
  pub linearizable : IsLinearizable names (core T (room_of c) (laps_of c) (passes_of c)) call_in answer_at (object (room_of c) (laps_of c)) run.acts
  pub work : NoneOut r → TotalWork (passes_of c) r run.acts

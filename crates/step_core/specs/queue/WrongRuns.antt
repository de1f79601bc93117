-- What linearizability and lock-freedom refuse: machines that are nearly the queue's, each with a schedule, and an object
-- without hands.
use Rattle.std.specs.Prelude.{◌≡◌, ℕ, if◌then◌else◌, List, ◌++◌, length, None, Err, [], ◌∷◌}
use Rattle.bounded_model.specs.declared.answers.PutRefused.TheVariants.{Full}
use Rattle.bounded_model.specs.declared.answers.TakeRefused.TheVariants.{Empty}
use Rattle.bounded_model.specs.declared.history.Event.{Event}
use Rattle.bounded_model.specs.declared.history.Event.TheVariants.{Hold}
use Rattle.machine.specs.Schedule.{Schedule, after}
use Rattle.machine.specs.Words.{same, raised}
use Rattle.queue_machine.specs.declared.lines.Answer.{Answer}
use Rattle.queue_machine.specs.declared.lines.Answer.TheVariants.{Put as AnswerPut, Take as AnswerTake}
use Rattle.queue_machine.specs.declared.lines.Call.{Call}
use Rattle.queue_machine.specs.declared.lines.Call.TheVariants.{Put as CallPut, Take as CallTake, Close as CallClose, Shut as CallShut}
use Rattle.queue_machine.specs.declared.lines.Line.TheVariants.{Idle, LoadHead, TakeHead, LoadHeadToShut, ShutHead}
use Rattle.queue_machine.specs.Machine.{step, goes_on, ends, State}
use Rattle.queue_machine.specs.Answers.{state, shape}
use Rattle.step_core.specs.Acts.{begins, steps, rounds}
use Rattle.step_core.specs.Linearizable.{Object, Entry, Invokes, Hand}
use Rattle.step_core.specs.queue.Object.{IsSaidWithAnyHands, object_with_any_hands, full_put}
use Rattle.step_core.specs.queue.Cast.{Moves, queue_with}

-- A take that loses its exchange ends without an answer
abbrev pub ends_where_it_lost : Moves
ends_where_it_lost s m p (TakeHead h n k) = if same m.head h then step s m p (TakeHead h n k) else goes_on m (Idle None)
ends_where_it_lost s m p l = step s m p l

-- pass 0 has come to its exchange when pass 2 takes the only value
abbrev pub lost_take : Schedule (Call ℕ)
lost_take = begins 1 (CallPut 10) 14 ++ begins 0 CallTake 5 ++ begins 2 CallTake 6 ++ steps 0 1

-- A take that answers without a look that there is no value
abbrev pub is_always_empty : Moves
is_always_empty s m p LoadHead = goes_on m (ends (AnswerTake (Err Empty)))
is_always_empty s m p l = step s m p l

-- pass 1 has put a value when pass 0 begins. At the time of its last step, before that, there was none
abbrev pub stale_take : Schedule (Call ℕ)
stale_take = begins 1 (CallPut 10) 14 ++ begins 0 CallTake 1

-- The bounded queue without hands, which is full only if it has as many values as cells
abbrev pub plain_object : Object ℕ (Call ℕ) (Answer ℕ)
plain_object = record (object_with_any_hands 1 15) { reads = λ k h. IsSaidWithAnyHands 1 15 h k.call k.answer × FillsAll k.answer h }
  where
    FillsAll : Answer ℕ → List (Event ℕ) → Type 0
    FillsAll (AnswerPut (Err (Full v))) h = length (state 1 15 h).values ≡ 1
    FillsAll a h = Unit {0}

-- pass 1 has the only cell in hand when pass 0's put is refused; then pass 2 closes the queue, and pass 1's
-- put is refused too
abbrev pub full_of_hands : Schedule (Call ℕ)
full_of_hands = begins 1 (CallPut 12) 3 ++ begins 0 (CallPut 10) 4 ++ begins 2 CallClose 4 ++ steps 1 15

-- A shut that loses its exchange raises the tag of the head before it tries again
abbrev pub spoils_where_it_lost : Moves
spoils_where_it_lost s m p (ShutHead h) = if same m.head h then step s m p (ShutHead h) else goes_on (record m { head = raised m.head m.head.index }) LoadHeadToShut
spoils_where_it_lost s m p l = step s m p l

-- pass 0 has read the head when pass 1 puts and takes a value; then pass 1 has read it too
abbrev pub both_have_read : Schedule (Call ℕ)
both_have_read = begins 0 CallShut 1 ++ begins 1 (CallPut 10) 14 ++ begins 1 CallTake 12 ++ begins 1 CallShut 1

-- Each loses to what the other did when it lost, and reads the head again, round after round. So no call ends among the
-- number of steps that the law allows two passes. Each pass has made more steps than a call may make that is not
-- overtaken, and the other has won nothing
abbrev pub starving : State ℕ
starving = after (queue_with spoils_where_it_lost (shape 1 15)) 2 both_have_read

abbrev pub in_turn : Schedule (Call ℕ)
in_turn = rounds (Call ℕ) 18

-- Courses that are no linearizations. Pass 1 is in no call and has taken a cell; pass 0 is refused for that, though nothing is stored
abbrev pub resting_hand : List (Entry ℕ (Call ℕ) (Answer ℕ))
resting_hand = Hand (Hold 1) ∷ []

abbrev pub full_of_resting_hands : List (Entry ℕ (Call ℕ) (Answer ℕ))
full_of_resting_hands = full_put 0 10 10 ∷ Invokes 0 (CallPut 10) ∷ Hand (Hold 1) ∷ []

-- pass 1 takes a second cell for one value
abbrev pub second_cell : List (Entry ℕ (Call ℕ) (Answer ℕ))
second_cell = Hand (Hold 1) ∷ Hand (Hold 1) ∷ Invokes 1 (CallPut 10) ∷ []

-- pass 0 is refused for its own cell
abbrev pub full_of_its_own : List (Entry ℕ (Call ℕ) (Answer ℕ))
full_of_its_own = full_put 0 10 10 ∷ Hand (Hold 0) ∷ Invokes 0 (CallPut 10) ∷ []

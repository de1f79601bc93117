-- What linearizability and lock-freedom refuse: machines that are nearly the ring's, each with a schedule.
use mathlib.Core.Option.{some}
use Rattle.std.specs.Prelude.{ℕ, not, if◌then◌else◌, ◌++◌, Err, List, [], ◌∷◌}
use Rattle.bounded_model.specs.declared.answers.TakeRefused.TheVariants.{Empty}
use Rattle.bounded_model.specs.declared.history.Event.TheVariants.{Hold, Put}
use Rattle.ring_machine.specs.declared.lines.Answer.{Answer}
use Rattle.step_core.specs.Linearizable.{Entry, Hand, Invokes, Reads, Responds, Updates}
use Rattle.step_core.specs.ring.Object.{full_put}
use Rattle.machine.specs.Schedule.{Schedule, after}
use Rattle.machine.specs.Words.{same}
use Rattle.ring_machine.specs.declared.lines.Back.TheVariants.{ToClose}
use Rattle.ring_machine.specs.declared.lines.Front.TheVariants.{ToTake}
use Rattle.ring_machine.specs.declared.lines.Answer.TheVariants.{Take as AnswerTake}
use Rattle.ring_machine.specs.declared.lines.Call.{Call}
use Rattle.ring_machine.specs.declared.lines.Call.TheVariants.{Put as CallPut, Take as CallTake, Close as CallClose, Shut as CallShut}
use Rattle.ring_machine.specs.declared.lines.Line.TheVariants.{LoadBack, MarkBack, LoadHead, TakeCell}
use Rattle.ring_machine.specs.Machine.{State, step, resting, after_slot, goes_on, ends}
use Rattle.ring_machine.specs.Answers.{shape}
use Rattle.step_core.specs.Acts.{begins, steps, rounds}
use Rattle.step_core.specs.ring.Cast.{Moves, put_is, ring_with, slot_spent}

-- A take that loses its exchange ends without an answer
abbrev pub ends_where_it_lost : Moves
ends_where_it_lost s m p (TakeCell w x) = if same (m.slot w.at.index) x then step s m p (TakeCell w x) else goes_on m (resting w.cell)
ends_where_it_lost s m p l = step s m p l

-- pass 0 has come to its exchange when pass 2 takes the only value
abbrev pub lost_take : Schedule (Call ℕ)
lost_take = begins 1 (CallPut 10) 3 ++ begins 0 CallTake 2 ++ begins 2 CallTake 4 ++ steps 0 1

-- A take that answers without a look that there is no value
abbrev pub is_always_empty : Moves
is_always_empty s m p (LoadHead c ToTake) = goes_on m (ends c (AnswerTake (Err Empty)))
is_always_empty s m p l = step s m p l

-- pass 1 has put a value when pass 0 begins. At the time of its last step, before that, there was none
abbrev pub stale_take : Schedule (Call ℕ)
stale_take = begins 1 (CallPut 10) 3 ++ begins 0 CallTake 1

-- A close that loses its exchange turns the second mark of the slot round before it tries again
abbrev pub spoils_where_it_lost : Moves
spoils_where_it_lost s m p (MarkBack w x) =
    let found = m.slot w.at.index in
    if same found x then step s m p (MarkBack w x) else goes_on (after_slot m w (record found { second = not found.second })) (LoadBack w ToClose)
spoils_where_it_lost s m p l = step s m p l

-- pass 0 has read the slot at the back when pass 1 shuts the ring; then pass 1 has read it too
abbrev pub both_have_read : Schedule (Call ℕ)
both_have_read = begins 0 CallClose 2 ++ begins 1 CallShut 3 ++ begins 1 CallClose 2

-- Each loses to what the other did when it lost, and reads the slot again, round after round. So no call ends among the
-- number of steps that the law allows two passes. Each pass has made more steps than a call may make that is not
-- overtaken, and the other has won nothing
abbrev pub starving : State ℕ
starving = after (ring_with spoils_where_it_lost (shape 1 1)) 2 both_have_read

abbrev pub in_turn : ℕ → Schedule (Call ℕ)
in_turn k = rounds (Call ℕ) k

-- Courses that are no linearizations. Pass 1 is in no call and has taken a cell; pass 0 is refused for that, though nothing is stored
abbrev pub resting_hand : List (Entry ℕ (Call ℕ) (Answer ℕ))
resting_hand = Hand (Hold 1) ∷ []

abbrev pub full_of_resting_hands : List (Entry ℕ (Call ℕ) (Answer ℕ))
full_of_resting_hands = full_put 0 10 10 ∷ Invokes 0 (CallPut 10) ∷ Hand (Hold 1) ∷ []

-- pass 1 takes a second cell for one value
abbrev pub second_cell : List (Entry ℕ (Call ℕ) (Answer ℕ))
second_cell = Hand (Hold 1) ∷ Hand (Hold 1) ∷ Invokes 1 (CallPut 10) ∷ []

-- pass 0 is refused for its own cell
abbrev pub full_of_its_own : List (Entry ℕ (Call ℕ) (Answer ℕ))
full_of_its_own = full_put 0 10 10 ∷ Hand (Hold 0) ∷ Invokes 0 (CallPut 10) ∷ []

-- pass 0 is refused for the cell of a put that is under way, though nothing is stored
abbrev pub full_of_another_call : List (Entry ℕ (Call ℕ) (Answer ℕ))
full_of_another_call = full_put 0 10 10 ∷ Invokes 0 (CallPut 10) ∷ Hand (Hold 1) ∷ Invokes 1 (CallPut 10) ∷ []

-- A ring of two slots, each of which can be filled once, is spent after one put
abbrev pub one_put : List (Entry ℕ (Call ℕ) (Answer ℕ))
one_put = Responds 1 (some (put_is 0)) ∷ Updates (record { by = 1; call = CallPut 10; answer = put_is 0 }) (Put 1 (10 ∷ []) 0) ∷ Hand (Hold 1) ∷ Invokes 1 (CallPut 10) ∷ []

abbrev pub spent_too_early : List (Entry ℕ (Call ℕ) (Answer ℕ))
spent_too_early = Reads (record { by = 0; call = CallPut 11; answer = slot_spent 1 1 11 }) ∷ Invokes 0 (CallPut 11) ∷ one_put

-- What callers of a ring conclude from the laws of all calls.
use Rattle.std.specs.Prelude.{◌≡◌, ℕ, List, [], ◌∷◌, Result, Err}
use Rattle.bounded_model.specs.declared.answers.PutRefused.{PutRefused}
use Rattle.bounded_model.specs.declared.answers.PutRefused.TheVariants.{Full}
use Rattle.bounded_model.specs.declared.answers.TakeRefused.{TakeRefused}
use Rattle.bounded_model.specs.declared.history.Event.{Event}
use Rattle.bounded_model.specs.declared.views.PassView.{PassView}
use Rattle.bounded_model.specs.Machine.{Shape}
use Rattle.machine.specs.Seats.{Acts}
use Rattle.ring_table.specs.declared.line.SeatLine.{SeatLine}
use Rattle.running.specs.Kept.{acts_in}
use Rattle.ring_queue.specs.Calls.{RingQueue, Pass, laps_of, pass_in, passes_of, room_of}
use Rattle.runs.specs.ring.Full.{WasFull}
use Rattle.runs.specs.InTime.{InOneOrder, IsBefore, KnownCall, put_effect, take_effect}
use mathlib.Core.Option.{some}
use lib.ListN.{get_elem?}

-- a put of x that was refused as full found the ring full, in the acts that its pass keeps
abbrev pub FullSays : RingQueue ℕ → ℕ → Pass ℕ → Result ℕ (PutRefused ℕ) → Type 0
FullSays c x back (Err (Full y)) = (before : Acts (SeatLine ℕ)) × WasFull (room_of c) (laps_of c) (passes_of c) (pass_in back).number x y before (acts_in back)
FullSays c x back said = Unit {0}

-- A put of one pass and a take of another, by their answers, are in one order of this history, and the take stands after the put
pub record TookAfter (c : Shape) (first : PassView ℕ) (x : ℕ) (put : Result ℕ (PutRefused ℕ)) (second : PassView ℕ) (took : Result (ℕ × ℕ) TakeRefused) (h : List (Event ℕ)) : Type 0 where
  pub putting : KnownCall ℕ
  pub taking : KnownCall ℕ
  pub puts : putting.effect ≡ put_effect first.number x put
  pub takes : taking.effect ≡ take_effect second.number took
  pub order : InOneOrder c h (putting ∷ taking ∷ [])
  pub one : get_elem? (putting ∷ taking ∷ []) 0 ≡ some putting
  pub two : get_elem? (putting ∷ taking ∷ []) 1 ≡ some taking
  pub after : IsBefore (order.place 0 putting one) (order.place 1 taking two)

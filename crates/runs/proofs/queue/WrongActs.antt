-- Why those of specs/WrongActs are refused.
use Rattle.std.proofs.Common.{◌≡◌, ℕ, true, List, [], ◌∷◌, length, refl, sym, ap, arith}
use Rattle.std.proofs.lemmas.Bool.{false≢true}
use Rattle.bounded_model.specs.declared.history.Event.{Event}
use Rattle.bounded_model.specs.declared.views.Answered.TheVariants.{Look}
use Rattle.machine.specs.declared.seats.View.{View}
use Rattle.queue_machine.specs.declared.lines.Line.{Line}
use Rattle.queue_machine.specs.Machine.{Memory}
use Rattle.queue_table.specs.Lines.{names}
use Rattle.queue_table.specs.Core.{core}
use Rattle.running.specs.Acts.{HasDone}
use Rattle.runs.specs.Table.{LedTo}
use Rattle.runs.specs.queue.WrongActs.{idle_step, hearing_in_a_look, one_look}

pub idle_step-refused : (memory : Memory ℕ) (h : List (Event ℕ)) (views : List (View ℕ (Line ℕ))) → ¬ LedTo names (core ℕ 1 15) idle_step memory h views
idle_step-refused memory h views led = false≢true (sym led.proper.0)

pub hearing_in_a_look-refused : (memory : Memory ℕ) (h : List (Event ℕ)) (views : List (View ℕ (Line ℕ))) → ¬ LedTo names (core ℕ 1 15) hearing_in_a_look memory h views
hearing_in_a_look-refused memory h views led = false≢true led.proper.0

pub one_look-done : HasDone names (core ℕ 1 15) one_look 0 3 (Look true ∷ [])
one_look-done = record { steps_are = refl; answers_are = refl }

pub forgotten_answer-refused : ¬ HasDone names (core ℕ 1 15) one_look 0 3 []
forgotten_answer-refused done = let same : ◌≡◌ {A = ℕ} 0 1 = ap length done.answers_are in absurd (omega (arith, same))

pub forgotten_step-refused : ¬ HasDone names (core ℕ 1 15) one_look 0 2 (Look true ∷ [])
forgotten_step-refused done = let same : ◌≡◌ {A = ℕ} 2 3 = done.steps_are in absurd (omega (arith, same))

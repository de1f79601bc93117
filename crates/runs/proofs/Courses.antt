-- What is proved of the course of an operation under way bounds the steps that it has made: for each container's bound.
use Rattle.std.proofs.Common.{◌≡◌, ℕ, ◌+◌, ◌<◌, ◌∷◌, ◌++◌, Bool, true, false, refl, sym, ap, ◌∙◌, arith}
use Rattle.bounded_model.specs.declared.views.PassView.{PassView}
use Rattle.machine.specs.declared.seats.View.{View}
use Rattle.machine.specs.Seats.{Acts, acts_before, acts_now, pass_of}
use Rattle.running.specs.Machine.{Names, Machine}
use Rattle.running.specs.Acts.{Begins, Course, is_step, steps_in}
use Rattle.running.specs.Going.{Going}
use Rattle.running.specs.Rule.{line_in}
use Rattle.runs.specs.Made.{HasMade}
use Rattle.running.proofs.Acts.{sum_append, sum_same}
use Rattle.runs.proofs.Made.{course_in, course_steps, spent_in, spent_none}
use Rattle.runs.proofs.Same.{same_front}

-- A bound on the steps of an operation with a first line, since it was begun; and each course has it
module _ {T L O : Type 0} {names : Names L O} (m : Machine T L O names) (v : View T L) (IsBounded : L → Type 0) (since : (first : L) → IsBounded first → Acts L)
    (is : (first : L) (b : IsBounded first) → acts_now v ≡ since first b ++ ((pass_of v).number, Begins first) ∷ acts_before v)
    (bounded : (first l : L) → Course names m.core (acts_before v) (acts_now v) (pass_of v).number first l → names.is_idle l ≡ false → IsBounded first) where
  abbrev x : ℕ
  x = (pass_of v).number

  -- it bounds so many steps of this operation
  pub record Bounds (o : O) (count : ℕ) : Type 0 where
    pub rest : L
    pub bound : IsBounded (names.first o rest)
    pub steps : steps_in x (since (names.first o rest) bound) ≡ count

  -- it bounds more than n steps of this operation
  pub record BoundsMore (o : O) (n : ℕ) : Type 0 where
    pub rest : L
    pub bound : IsBounded (names.first o rest)
    pub more : n < steps_in x (since (names.first o rest) bound)

  -- the pass has counted more than n steps since the operation was begun, so the machine has made them
  pub bounds_seen : {o : O} {begun : PassView T} {l : L} → Going m o v begun l → (m.core.Peeks o → ⊥) → (n : ℕ) → begun.steps + n < (pass_of v).steps → BoundsMore o n
  bounds_seen {o} {begun} g none n more = by_test (names.is_idle (line_in names v)) refl
    where
      by_test : (b : Bool) → names.is_idle (line_in names v) ≡ b → BoundsMore o n
      by_test true e = absurd (let same = spent_none m g e in omega (arith, same, more))
      by_test false e =
          let k = course_in m g e in
          let first : L = names.first o k.0 in
          let b = bounded first (line_in names v) k.1 e in
          let in_all : steps_in x (acts_now v) ≡ steps_in x (since first b ++ (x, Begins first) ∷ acts_before v) = ap (steps_in x) (is first b) in
          let parts = sum_append is_step x (since first b) ((x, Begins first) ∷ acts_before v) in
          let begin = sum_same is_step x (Begins first) (acts_before v) in
          let spent = spent_in m g e none in
          record { rest = k.0; bound = b; more = omega (arith, in_all, parts, begin, spent, more) }

  module _ {o : O} {begun : PassView T} {l : L} (g : Going m o v begun l) (count : ℕ) (h : HasMade names o v count) where
    -- both count the acts since the same begin
    pub bounds : names.is_idle (line_in names v) ≡ false → Bounds o count
    bounds busy =
        let k = course_in m g busy in
        let b = bounded (names.first o k.0) (line_in names v) k.1 busy in
        let same = same_front (since (names.first o k.0) b) k.1.since ((x, Begins (names.first o k.0)) ∷ acts_before v) (sym (is (names.first o k.0) b) ∙ k.1.is) in
        record { rest = k.0; bound = b; steps = ap (steps_in x) same ∙ course_steps m k.1 (h.some busy).1 }

    -- one that has made a step is at a line
    pub bounds_some : 0 < count → Bounds o count
    bounds_some some = by_test (names.is_idle (line_in names v)) refl
      where
        by_test : (b : Bool) → names.is_idle (line_in names v) ≡ b → Bounds o count
        by_test true e = absurd (let none = h.none e in omega (arith, none, some))
        by_test false e = bounds e

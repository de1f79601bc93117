-- Operations that are made step by step.
use Rattle.std.specs.Prelude.{◌≡◌, ◌+◌}
use Rattle.bounded_model.specs.declared.answers.Stepped.{Stepped}
use Rattle.bounded_model.specs.declared.answers.Stepped.TheVariants.{Again, Done}
use Rattle.bounded_model.specs.declared.views.PassView.{PassView}
use Rattle.bounded_model.specs.Histories.{Later}

-- an operation under way: its pass as the operation was begun, and as it is now
pub record Underway (T : Type 0) : Type 0 where
  pub begun : PassView T
  pub now : PassView T

-- an operation that was begun has made no step
abbrev pub no_step : {T : Type 0} → PassView T → Underway T
no_step v = record { begun = v; now = v }

-- a pass has made exactly one step more, and what it has seen has only grown
pub record OneStep {T : Type 0} (v w : PassView T) : Type 0 where
  pub number : w.number ≡ v.number
  pub steps : w.steps ≡ v.steps + 1
  pub seen : Later v.seen w.seen

-- an operation continues: it was begun as before, and its pass has made one step more
pub record GoesOn {T : Type 0} (before after : Underway T) : Type 0 where
  pub begun : after.begun ≡ before.begun
  pub step : OneStep before.now after.now

-- what a step answered: `goes` of an operation that continues, `ends` of a pass that is back and
-- the call's answer
abbrev pub MatchStepped : {O P A : Type 0} → Stepped O P A → (O → Type 0) → (P → A → Type 0) → Type 0
MatchStepped (Again next) goes ends = goes next
MatchStepped (Done back answer) goes ends = ends back answer

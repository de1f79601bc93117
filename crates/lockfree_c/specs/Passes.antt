-- What holds of a pass that has a share of its container, and what its calls do. `reading` says how the container is read.
use Rattle.std.specs.Prelude.{◌≡◌, ℕ, MatchOption}
use Rattle.bounded_model.specs.declared.commands.Command.{Command}
use Rattle.bounded_model.specs.declared.views.PassView.{PassView}
use Rattle.lockfree_c.specs.Calls.{Reading}
use Rattle.lockfree_c.specs.Codes.{bare}
use Rattle.lockfree_c.specs.Stages.{IsStage, Tries, TriesOn, Works}
use Rattle.lockfree_c.specs.declared.answers.Answer.{Answer}
use Rattle.lockfree_c.specs.declared.answers.TheConstants.{UNDER_WAY, NO_CALL}
use Rattle.lockfree_c.specs.declared.pass.PassOf.{PassOf}
use Rattle.lockfree_c.specs.declared.work.UnderWay.{UnderWay}
use Rattle.lockfree_c.specs.declared.work.UnderWay.TheVariants.{Nothing, Call, Work}
use Rattle.lockfree_c.specs.declared.work.Worked.{Worked}

module _ {C P O W : Type 0} where
  -- nothing changes, and C gets this code
  abbrev pub PassKept : ℕ → PassOf C P O W → PassOf C P O W → Answer → Type 0
  PassKept code p q a = (a ≡ bare code) × (q ≡ p)

  -- if the pass rests, this is done with it; if it is in a call, nothing changes
  abbrev pub IfRests : PassOf C P O W → PassOf C P O W → Answer → (P → Type 0) → Type 0
  IfRests p q a Does = MatchOption p.stage.resting (PassKept UNDER_WAY p q a) (λ by. (q.container.value ≡ p.container.value) × Does by)

  -- a work that is under way, or was just begun, is tried
  abbrev pub PassWorks : (Worked W P → Type 0) → PassOf C P O W → PassOf C P O W → Answer → Type 0
  PassWorks Made p q a = (q.container.value ≡ p.container.value) × Works Made q.stage a

  module _ {R : Type 0} (reading : C → Reading R P O W) where
    abbrev pub IsPass : PassOf C P O W → Type 0
    IsPass p = IsStage (reading p.container.value) p.stage

    -- a call of this pass, from what it had seen, tried for n steps, or to its end, after those that it makes at once
    abbrev pub PassCalled : ℕ → PassOf C P O W → Command ℕ → PassOf C P O W → Answer → Type 0
    PassCalled n p call q a = IfRests p q a (λ by. Tries (reading p.container.value) n ((reading p.container.value).pass by) call q.stage a)

    -- a work of this pass, from what it had seen, tried as this says
    abbrev pub PassBegan : (PassView ℕ → Worked W P → Type 0) → PassOf C P O W → PassOf C P O W → Answer → Type 0
    PassBegan Made p q a = IfRests p q a (λ by. Works (Made ((reading p.container.value).pass by)) q.stage a)

    -- the call that is under way, tried for n steps further
    abbrev pub PassTried : ℕ → PassOf C P O W → O → PassOf C P O W → Answer → Type 0
    PassTried n p op q a = (q.container.value ≡ p.container.value) × TriesOn (reading p.container.value) n op q.stage a

    abbrev pub GoesOn : UnderWay O W → ℕ → ℕ → PassOf C P O W → PassOf C P O W → Answer → Type 0
    GoesOn Nothing tries n p q a = PassKept NO_CALL p q a
    GoesOn (Call op) tries n p q a = PassTried n p op q a
    GoesOn (Work w) tries n p q a = PassWorks ((reading p.container.value).works_on tries w) p q a

    -- what is under way is tried further, with this number of tries, which allows a call n steps
    abbrev pub PassWentOn : ℕ → ℕ → PassOf C P O W → PassOf C P O W → Answer → Type 0
    PassWentOn tries n p q a = GoesOn p.stage.under_way tries n p q a

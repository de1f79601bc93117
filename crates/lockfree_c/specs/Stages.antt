-- Where a pass is, and how a call leaves it.
use Rattle.std.specs.Prelude.{◌≡◌, ℕ, ◌+◌, Some, None, MatchOption}
use Rattle.bounded_model.specs.declared.answers.Stepped.{Stepped}
use Rattle.bounded_model.specs.declared.answers.Stepped.TheVariants as stepped
use Rattle.bounded_model.specs.declared.commands.Command.{Command}
use Rattle.bounded_model.specs.declared.commands.Reply.{Reply}
use Rattle.bounded_model.specs.declared.views.PassView.{PassView}
use Rattle.lockfree_c.specs.Calls.{Reading, MakesSome, Tried, TriedFrom, TookAtLeast, TookAtMost, TookFor}
use Rattle.lockfree_c.specs.Codes.{Says, SaysWork, bare, saying, number_in, work_number}
use Rattle.lockfree_c.specs.declared.answers.Answer.{Answer}
use Rattle.lockfree_c.specs.declared.answers.TheConstants.{OK, BUSY, UNDER_WAY, NO_CALL, OTHER_HANDLE, VALUE}
use Rattle.lockfree_c.specs.declared.stage.Stage.{Stage}
use Rattle.lockfree_c.specs.declared.work.UnderWay.{UnderWay}
use Rattle.lockfree_c.specs.declared.work.UnderWay.TheVariants.{Nothing, Call, Work}
use Rattle.lockfree_c.specs.declared.work.Worked.{Worked}
use Rattle.lockfree_c.specs.declared.work.Worked.TheVariants.{Again, Value, Waits, Done}

-- why a pass does not make a call that its container does not have: it is in a work, or its container has no such call
abbrev pub refusal_at : {O W : Type 0} → UnderWay O W → ℕ
refusal_at (Work w) = UNDER_WAY
refusal_at u = OTHER_HANDLE

module _ {P O W : Type 0} where
  -- the pass is between its calls, and keeps the number of the last
  abbrev pub Rests : Stage P O W → P → ℕ → Type 0
  Rests s by n = (s.resting ≡ Some by) × (s.under_way ≡ Nothing) × (s.number ≡ n)

  -- it has this under way
  abbrev pub IsIn : Stage P O W → UnderWay O W → Type 0
  IsIn s u = (s.resting ≡ None) × (s.under_way ≡ u)

  -- how a tried call left its pass, and what C was answered
  abbrev pub LeftBy : Stepped O P (Reply ℕ) → Stage P O W → Answer → Type 0
  LeftBy (stepped.Again next) s a = IsIn s (Call next) × (a ≡ bare BUSY)
  LeftBy (stepped.Done back said) s a = Rests s back (number_in said) × Says said a

  -- how a tried work left it
  abbrev pub SettledBy : Worked W P → Stage P O W → Answer → Type 0
  SettledBy (Again next) s a = IsIn s (Work next) × (a ≡ bare BUSY)
  SettledBy (Value x next) s a = IsIn s (Work next) × (a ≡ saying VALUE x)
  SettledBy (Waits next) s a = IsIn s (Work next) × (a ≡ bare NO_CALL)
  SettledBy (Done back said) s a = Rests s back (work_number said) × SaysWork said a

  -- the number that a pass keeps; not while a call is under way
  abbrev pub SaysNumber : Stage P O W → Answer → Type 0
  SaysNumber s a = MatchOption s.resting (a ≡ bare UNDER_WAY) (λ by. a ≡ saying OK s.number)

  -- a work was tried
  abbrev pub Works : (Worked W P → Type 0) → Stage P O W → Answer → Type 0
  Works Made t a = (made : Worked W P) × Made made × SettledBy made t a

  module _ {R : Type 0} (r : Reading R P O W) where
    abbrev pub IsUnderWay : UnderWay O W → Type 0
    IsUnderWay Nothing = ⊥
    IsUnderWay (Call op) = MakesSome r op
    IsUnderWay (Work w) = r.is_work w

    -- either a pass rests, or it has a call or a work under way
    abbrev pub IsStage : Stage P O W → Type 0
    IsStage s = MatchOption s.resting (IsUnderWay s.under_way) (λ by. r.is_pass by × (s.under_way ≡ Nothing))

    -- a call that was begun as its pass was is tried: for at least n steps, if it does not end, and for at most n after those that it makes at once
    abbrev pub Tries : ℕ → PassView ℕ → Command ℕ → Stage P O W → Answer → Type 0
    Tries n begun call t a = (made : Stepped O P (Reply ℕ)) × TriedFrom r begun call made × TookAtLeast r n begun made × TookAtMost r (r.at_once call + n) begun made × LeftBy made t a

    -- a call that is under way is tried further, whichever it is: for n steps, or to its end
    abbrev pub TriesOn : ℕ → O → Stage P O W → Answer → Type 0
    TriesOn n op t a = (made : Stepped O P (Reply ℕ)) × Tried r op made × TookFor r n op made × LeftBy made t a

-- A tried call, or a tried work, leaves its pass at rest or with something under way.
use Rattle.std.proofs.Common.{sym, subst}
use Rattle.std.specs.Prelude.{◌≡◌, ℕ, Option, None, MatchOption}
use Rattle.bounded_model.specs.declared.answers.Stepped.{Stepped}
use Rattle.bounded_model.specs.declared.answers.Stepped.TheVariants as stepped
use Rattle.bounded_model.specs.declared.commands.Command.{Command}
use Rattle.bounded_model.specs.declared.commands.Reply.{Reply}
use Rattle.bounded_model.specs.declared.views.PassView.{PassView}
use Rattle.lockfree_c.specs.Calls.{IsWorked, MakesSome, Reading, Tried, TriedFrom}
use Rattle.lockfree_c.specs.Codes.{number_in, work_number}
use Rattle.lockfree_c.specs.Stages.{IsIn, IsStage, IsUnderWay, LeftBy, Rests, SettledBy}
use Rattle.lockfree_c.specs.declared.answers.Answer.{Answer}
use Rattle.lockfree_c.specs.declared.stage.Stage.{Stage}
use Rattle.lockfree_c.specs.declared.work.UnderWay.{UnderWay}
use Rattle.lockfree_c.specs.declared.work.UnderWay.TheVariants.{Nothing, Call, Work}
use Rattle.lockfree_c.specs.declared.work.Worked.{Worked}
use Rattle.lockfree_c.specs.declared.work.Worked.TheVariants.{Again, Value, Waits, Done}

module _ {R P O W : Type 0} (r : Reading R P O W) where
  abbrev pub At : Option P → UnderWay O W → Type 0
  At resting under_way = MatchOption resting (IsUnderWay r under_way) (λ by. r.is_pass by × (under_way ≡ Nothing))

  -- something is under way, or the pass is back
  pub is_in : (s : Stage P O W) (u : UnderWay O W) → IsIn s u → IsUnderWay r u → IsStage r s
  is_in s u in_it is = subst (λ x. At x s.under_way) (sym in_it.0) (subst (λ v. At None v) (sym in_it.1) is)

  pub is_back : (s : Stage P O W) (by : P) (n : ℕ) → Rests s by n → r.is_pass by → IsStage r s
  is_back s by n rests is = subst (λ x. At x s.under_way) (sym rests.0) (is, rests.1)

  pub stays : (begun : PassView ℕ) (call : Command ℕ) (made : Stepped O P (Reply ℕ)) (s : Stage P O W) (a : Answer) → TriedFrom r begun call made → LeftBy made s a → IsStage r s
  stays begun call (stepped.Again next) s a tried left = is_in s (Call next) left.0 (call, tried.0)
  stays begun call (stepped.Done back said) s a tried left = is_back s back (number_in said) left.0 tried.0

  -- a call that was under way was tried, whichever it is
  pub tries_on : (op : O) (made : Stepped O P (Reply ℕ)) (s : Stage P O W) (a : Answer) → MakesSome r op → Tried r op made → LeftBy made s a → IsStage r s
  tries_on op made s a makes tried left = stays (r.making op).begun makes.0 made s a (tried makes.0 makes.1) left

  pub settles : (made : Worked W P) (s : Stage P O W) (a : Answer) → IsWorked r made → SettledBy made s a → IsStage r s
  settles (Again next) s a is left = is_in s (Work next) left.0 is
  settles (Value x next) s a is left = is_in s (Work next) left.0 is
  settles (Waits next) s a is left = is_in s (Work next) left.0 is
  settles (Done back said) s a is left = is_back s back (work_number said) left.0 is

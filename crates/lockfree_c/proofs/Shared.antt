-- A call of a pass that was tried, or that its fast path left under way and that was then tried on; and a work of it.
use Rattle.std.proofs.Common.{subst, arith}
use Rattle.std.specs.Prelude.{◌≡◌, ℕ, ◌+◌, ◌≤◌, Some, MatchOption}
use Rattle.bounded_model.specs.declared.answers.Stepped.{Stepped}
use Rattle.bounded_model.specs.declared.answers.Stepped.TheVariants.{Again, Done}
use Rattle.bounded_model.specs.declared.commands.Command.{Command}
use Rattle.bounded_model.specs.declared.commands.Reply.{Reply}
use Rattle.bounded_model.specs.declared.views.PassView.{PassView}
use Rattle.lockfree_c.specs.Calls.{Reading, TookAtLeast, TookAtMost, TookFor, TriedFrom, WorkedFor}
use Rattle.lockfree_c.specs.Passes.{IfRests, PassBegan, PassCalled, PassKept, PassTried}
use Rattle.lockfree_c.specs.Stages.{LeftBy, Works}
use Rattle.lockfree_c.specs.declared.answers.Answer.{Answer}
use Rattle.lockfree_c.specs.declared.answers.TheConstants.{UNDER_WAY}
use Rattle.lockfree_c.specs.declared.pass.PassOf.{PassOf}
use Rattle.lockfree_c.specs.declared.work.Worked.{Worked}
use Rattle.lockfree_c.specs.declared.work.Worked.TheVariants as worked

-- no steps at the least are none
pub at_least : (m n : ℕ) → m + 0 ≤ n → m ≤ n
at_least m n e = omega (arith, e)

-- this was done since the pass rests
pub since_rests : {C P O W : Type 0} (p q : PassOf C P O W) (a : Answer) (by : P) (Does : P → Type 0) → Some by ≡ p.stage.resting
    → q.container.value ≡ p.container.value → Does by → IfRests p q a Does
since_rests p q a by Does rests same does =
    subst (λ x. MatchOption x (PassKept UNDER_WAY p q a) (λ b. (q.container.value ≡ p.container.value) × Does b)) rests (same, does)

module _ {C R P O W : Type 0} (reading : C → Reading R P O W) (n : ℕ) (p q : PassOf C P O W) (a : Answer) (by : P) (call : Command ℕ) where
  abbrev pub r : Reading R P O W
  r = reading p.container.value

  -- n steps of an operation that has made some already, as few as it makes at once
  at_least_more : (op : O) (made : Stepped O P (Reply ℕ)) → (r.pass by).steps ≤ (r.making op).now.steps → TookFor r n op made → TookAtLeast r n (r.pass by) made
  at_least_more op (Again next) least took = let e : (r.making next).now.steps ≡ (r.making op).now.steps + n = took in omega (arith, e, least)
  at_least_more op (Done back said) least took = tt

  at_most : (op : O) (made : Stepped O P (Reply ℕ)) → (r.making op).now.steps ≤ (r.pass by).steps + r.at_once call → TookFor r n op made
      → TookAtMost r (r.at_once call + n) (r.pass by) made
  at_most op (Again next) most took = let e : (r.making next).now.steps ≡ (r.making op).now.steps + n = took in omega (arith, e, most)
  at_most op (Done back said) most took = let e : (r.pass back).steps ≤ (r.making op).now.steps + n = took in omega (arith, e, most)

  pub ended : (back : P) (said : Reply ℕ) → Some by ≡ p.stage.resting → q.container.value ≡ p.container.value
      → TriedFrom r (r.pass by) call (Done back said) → TookAtMost r (r.at_once call) (r.pass by) (Done back said) → LeftBy (Done back said) q.stage a → PassCalled reading n p call q a
  ended back said rests same tried most left = since_rests p q a by _ rests same
      (Done back said, tried, tt, (let e : (r.pass back).steps ≤ (r.pass by).steps + r.at_once call = most in omega (arith, e)), left)

  pub tried_on : (op : O) → Some by ≡ p.stage.resting → r.is_making call op → (r.making op).begun ≡ r.pass by → (r.pass by).steps ≤ (r.making op).now.steps
      → (r.making op).now.steps ≤ (r.pass by).steps + r.at_once call → PassTried reading n p op q a → PassCalled reading n p call q a
  tried_on op rests is same least most went = let tries = went.1 in since_rests p q a by _ rests went.0
      (tries.0, subst (λ b. TriedFrom r b call tries.0) same (tries.1 call is), at_least_more op tries.0 least tries.2, at_most op tries.0 most tries.2, tries.3)

-- a work that its pass began was tried
pub began : {C R P O W : Type 0} (reading : C → Reading R P O W) (Made : PassView ℕ → Worked W P → Type 0) (p q : PassOf C P O W) (a : Answer) (by : P)
    → Some by ≡ p.stage.resting → q.container.value ≡ p.container.value → Works (Made ((reading p.container.value).pass by)) q.stage a → PassBegan reading Made p q a
began reading Made p q a by rests same works = since_rests p q a by (λ b. Works (Made ((reading p.container.value).pass b)) q.stage a) rests same works

-- a work that has made m steps at the most has made n more
module _ {P W : Type 0} (now : W → PassView ℕ) (pass : P → PassView ℕ) (m n : ℕ) (v w : PassView ℕ) (first : w.steps ≤ v.steps + m) where
  pub worked_after : (made : Worked W P) → WorkedFor now pass n w made → WorkedFor now pass (m + n) v made
  worked_after (worked.Again next) took = let e : (now next).steps ≤ w.steps + n = took in omega (arith, e, first)
  worked_after (worked.Value x next) took = let e : (now next).steps ≤ w.steps + n = took in omega (arith, e, first)
  worked_after (worked.Waits next) took = let e : (now next).steps ≤ w.steps + n = took in omega (arith, e, first)
  worked_after (worked.Done back said) took = let e : (pass back).steps ≤ w.steps + n = took in omega (arith, e, first)

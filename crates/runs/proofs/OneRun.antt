-- The runs of whole calls are older parts of one run, if what their passes kept of the acts was handed on.
use Rattle.std.proofs.Common.{◌≡◌, ℕ, List, [], ◌∷◌, ◌++◌, append_assoc, sym, ap, ◌∙◌, subst}
use mathlib.Core.Option.{Option}
use Rattle.std.specs.List.{AllByRecursion as Every}
use Rattle.bounded_model.specs.declared.history.Event.{Event}
use Rattle.bounded_model.specs.declared.views.PassView.{PassView}
use Rattle.bounded_model.specs.declared.views.RootView.{RootView}
use Rattle.bounded_model.specs.Histories.{Later}
use Rattle.bounded_model.specs.Machine.{Shape}
use Rattle.bounded_model.proofs.Histories.{Later-trans}
use Rattle.machine.specs.declared.seats.View.{View}
use Rattle.machine.specs.Seats.{Acts, Extends, acts_now, pass_of}
use Rattle.running.specs.Acts.{Begins}
use Rattle.running.specs.Ends.{IsRunAfter, state_at}
use Rattle.running.specs.Going.{HasRun}
use Rattle.running.specs.Machine.{Names, Machine}
use Rattle.running.specs.Since.{BeganSince}
use Rattle.step_core.specs.Linearizable.{Object}
use Rattle.runs.specs.Heard.{IsLinearizable}
use Rattle.runs.specs.InTime.{KnownCall, IsCallOf}
use Rattle.runs.specs.OneRun.{KeepsTime, OneRun}
use Rattle.runs.proofs.InTime.{in_one_order}
use Rattle.runs.proofs.Made.{same_since}

module _ {A : Type 0} where
  rest : List A → List A
  rest [] = []
  rest (x ∷ xs) = xs

  same_rest : (xs ys zs : List A) → xs ++ ys ≡ xs ++ zs → ys ≡ zs
  unfolding rest
  same_rest [] ys zs e = e
  same_rest (x ∷ xs) ys zs e = same_rest xs ys zs (ap rest e)

  same_behind : (a b : A) (xs ys : List A) → a ∷ xs ≡ b ∷ ys → xs ≡ ys
  unfolding rest
  same_behind a b xs ys e = ap rest e

-- what calls did within a history, they did within a later one
seen_later : {T : Type 0} (c : Shape) {h later : List (Event T)} → Later h later → (calls : List (KnownCall T)) → Every (IsCallOf c h) calls → Every (IsCallOf c later) calls
seen_later c longer [] each = tt
seen_later c longer (k ∷ calls) each = (record { did = each.0.did; seen = Later-trans each.0.seen longer }, seen_later c longer calls each.1)

pub extends_on : {L : Type 0} (a b c : Acts L) → Extends a b → Extends b c → Extends a c
extends_on {L = L} a b c e f = record { more = f.more ++ e.more; is = f.is ∙ ap (λ (l : Acts L). f.more ++ l) e.is ∙ sym (append_assoc f.more e.more a) }

module _ {T L O : Type 0} {names : Names L O} (m : Machine T L O names) where
  -- a call was begun after all that its pass kept then
  pub begun_after : (o : O) (v : View T L) (begun : PassView T) (l : L) (ran : HasRun m o v begun l) (kept : Acts L) → BeganSince kept (acts_now v) (pass_of v).number → Extends kept ran.before
  begun_after o v begun l ran kept b =
      let k = ran.course in
      let x : ℕ = (pass_of v).number in
      let older : Acts L = b.others ++ kept in
      let both : k.since ++ (x, Begins (names.first o ran.rest)) ∷ ran.before ≡ b.since ++ (x, Begins b.first) ∷ older = sym k.is ∙ sym ran.kept ∙ b.is in
      let same : k.since ≡ b.since = same_since x k.since b.since ran.before older (names.first o ran.rest) b.first k.once b.once both in
      let tails : (x, Begins (names.first o ran.rest)) ∷ ran.before ≡ (x, Begins b.first) ∷ older =
      same_rest b.since _ _ (subst (λ (s : Acts L). s ++ (x, Begins (names.first o ran.rest)) ∷ ran.before ≡ b.since ++ (x, Begins b.first) ∷ older) same both) in
      record { more = b.others; is = same_behind _ _ ran.before older tails }

  -- so it stands after each call whose acts its pass kept then
  pub stands_after : (o o' : O) (v w : View T L) (begun begun' : PassView T) (l l' : L) (first : HasRun m o v begun l) (second : HasRun m o' w begun' l') (kept : Acts L)
      → Extends (acts_now v) kept → BeganSince kept (acts_now w) (pass_of w).number → Extends first.now second.before
  stands_after o o' v w begun begun' l l' first second kept heard b =
      subst (λ (acts : Acts L). Extends acts second.before) first.kept (extends_on (acts_now v) kept second.before heard (begun_after o' w begun' l' second kept b))

  -- and in the run at the end, if the root was handed its acts
  pub stands_in_all : (o : O) (v : View T L) (begun : PassView T) (l : L) (ran : HasRun m o v begun l) (kept : Acts L) (r : RootView T) (left : List T) (all : IsRunAfter m kept r left) → Extends (acts_now v) kept → Extends ran.now all.run.acts
  stands_in_all o v begun l ran kept r left all heard = subst (λ (acts : Acts L). Extends acts all.run.acts) ran.kept (extends_on (acts_now v) kept all.run.acts heard all.extends)

  pub keeps_time : KeepsTime m
  keeps_time = record { begun = begun_after; in_time = stands_after }

  pub one_run : {C A : Type 0} (call_at : L → C) (answer : L → Option A) (object : Object T C A) (kept : Acts L) (r : RootView T) (left : List T) (all : IsRunAfter m kept r left) → IsLinearizable names m.core call_at answer object all.run.acts → OneRun m call_at answer object kept r left all
  one_run call_at answer object kept r left all calls = record {
    linearizable = calls;
    stands = λ o v was l ran heard. stands_in_all o v was l ran kept r left all heard;
    order = λ known each turns. in_one_order m.core.shape (state_at m all.run.acts).history known (seen_later m.core.shape all.run.begins known each) turns;
  }

-- Which acts are new after some steps of an operation.
use Rattle.std.proofs.Common.{◌≡◌, ℕ, ◌+◌, Bool, true, false, cond, [], ◌∷◌, ◌++◌, append_assoc, refl, sym, ap, ◌∙◌, subst, arith}
use Rattle.bounded_model.specs.declared.views.PassView.{PassView}
use Rattle.machine.specs.declared.seats.View.{View}
use Rattle.machine.specs.Seats.{Acts, acts_now, pass_of}
use Rattle.running.specs.Machine.{Names, Machine}
use Rattle.running.specs.Acts.{Doing, Begins, Steps as MadeStep, is_begin, sum_of}
use Rattle.running.specs.Rule.{line_in, line_now, quiet}
use Rattle.running.specs.Going.{Going, IsLine}
use Rattle.running.specs.Since.{StayedSince, NewActs, HasNew}
use Rattle.running.proofs.Acts.{sum_append, sum_same}

module _ {L : Type 0} where
  -- others' acts after those that were kept
  none_of : (f : Doing L → ℕ) (x : ℕ) (others kept all : Acts L) → all ≡ others ++ kept → sum_of f x all ≡ sum_of f x kept → sum_of f x others ≡ 0
  none_of f x others kept all is same = let s = sum_append f x others kept in let t = ap (sum_of f x) (sym is) in omega (arith, s, t, same)

  pub longer : (b : Bool) (kept mid now : Acts L) (x : ℕ) → NewActs b kept mid x → StayedSince mid now x → NewActs b kept now x
  longer true kept mid now x n s = record {
    first = n.first;
    others = n.others;
    since = s.since ++ n.since;
    is = s.is ∙ ap (λ (zs : Acts L). s.since ++ zs) n.is ∙ sym (append_assoc s.since n.since ((x, Begins n.first) ∷ (n.others ++ kept)));
    once = (let a = sum_append is_begin x s.since n.since in let b = s.once in let c = n.once in omega (arith, a, b, c));
    idle = n.idle;
  }
  longer false kept mid now x n s = record {
    since = s.since ++ n.since;
    is = s.is ∙ ap (λ (zs : Acts L). s.since ++ zs) n.is ∙ sym (append_assoc s.since n.since kept);
    once = (let a = sum_append is_begin x s.since n.since in let b = s.once in let c = n.once in omega (arith, a, b, c));
  }

module _ {T L O : Type 0} {names : Names L O} (m : Machine T L O names) where
  quiet_idle : (l : L) → names.is_idle (quiet names l) ≡ names.is_idle l
  quiet_idle l = by_test (names.is_idle l) refl
    where
      by_test : (b : Bool) → names.is_idle l ≡ b → names.is_idle (cond b (names.quiet l) l) ≡ b
      by_test true e = names.rests l
      by_test false e = e

  busy_now : (o : O) (l : L) → names.is_idle (line_now names o l) ≡ false
  busy_now o l = by_test (names.is_idle l) refl
    where
      by_test : (b : Bool) → names.is_idle l ≡ b → names.is_idle (cond b (names.first o l) l) ≡ false
      by_test true e = names.starts o l
      by_test false e = e

  -- an operation's next step is of a line in an operation
  pub going_busy : {o : O} {v : View T L} {begun : PassView T} {l : L} → Going m o v begun l → names.is_idle l ≡ false
  going_busy {o} g = ap names.is_idle (sym g.now) ∙ busy_now o g.at

  -- one step
  pub step_new : {v w : View T L} {l k : L} → IsLine m v w l k → HasNew names v w
  step_new {v} {w} {l} line = by_test (names.is_idle (line_in names v)) refl
    where
      by_test : (b : Bool) → names.is_idle (line_in names v) ≡ b → NewActs b (acts_now v) (acts_now w) (pass_of v).number
      by_test true e = record {
        first = l;
        others = line.knew.others;
        since = ((pass_of v).number, MadeStep) ∷ [];
        is = line.knows ∙ line.acts ∙ ap (λ (b : Bool). ((pass_of v).number, MadeStep) ∷ cond b (((pass_of v).number, Begins l) ∷ line.rule.led.acts) line.rule.led.acts) e
            ∙ ap (λ (zs : Acts L). ((pass_of v).number, MadeStep) ∷ ((pass_of v).number, Begins l) ∷ zs) line.knew.is;
        once = sum_same {L = L} is_begin (pass_of v).number MadeStep [];
        idle = λ f none deaf. none_of f (pass_of v).number line.knew.others (acts_now v) line.rule.led.acts line.knew.is (line.knew.same f none deaf);
      }
      by_test false e = record {
        since = ((pass_of v).number, MadeStep) ∷ line.knew.others;
        is = line.knows ∙ line.acts ∙ ap (λ (b : Bool). ((pass_of v).number, MadeStep) ∷ cond b (((pass_of v).number, Begins l) ∷ line.rule.led.acts) line.rule.led.acts) e
            ∙ ap (λ (zs : Acts L). ((pass_of v).number, MadeStep) ∷ zs) line.knew.is;
        once = sum_same {L = L} is_begin (pass_of v).number MadeStep line.knew.others ∙ ap (λ (k : ℕ). 0 + k) (none_of is_begin (pass_of v).number line.knew.others (acts_now v) line.rule.led.acts line.knew.is (line.knew.same is_begin refl refl)) ∙ refl;
      }

  -- after a step with which the operation goes on, further steps begin none
  pub step_on : (u v w : View T L) {l k : L} → IsLine m u v l k → names.is_idle k ≡ false → (pass_of v).number ≡ (pass_of u).number → HasNew names v w → HasNew names u w
  step_on u v w {k = k} line busy number n =
      longer (names.is_idle (line_in names u)) (acts_now u) (acts_now v) (acts_now w) (pass_of u).number (step_new line)
      (subst (λ (b : Bool). NewActs b (acts_now v) (acts_now w) (pass_of u).number) (ap names.is_idle line.stands ∙ quiet_idle k ∙ busy)
      (subst (λ (x : ℕ). NewActs (names.is_idle (line_in names v)) (acts_now v) (acts_now w) x) number n))

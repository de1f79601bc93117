-- The pure machine runs as the acts did.
use Rattle.std.proofs.Common.{◌≡◌, ℕ, zero, suc, ◌<◌, ⊎_elim, Bool, true, false, cond, List, [], ◌∷◌, ◌++◌, length, set, refl, sym, ap, ◌∙◌, subst, eq-eqb, ne_eqb, arith}
use Rattle.std.proofs.lemmas.List.{length-set}
use Rattle.std.specs.List.{AllByRecursion as Every}
use mathlib.Core.Option.{some}
use lib.ListN.{get_elem?}
use Rattle.bounded_model.specs.declared.history.Event.{Event}
use Rattle.machine.specs.Seats.{Acts}
use Rattle.machine.specs.Schedule.{Machine as Pure, Pass, State, Act, Begin, Step, Schedule, Outcome, having_begun, having_stepped, begun, stepped, acts, acts_at, next, run, start}
use Rattle.machine.proofs.Scheduled.{passes_after, start_at}
use Rattle.machine.proofs.Sums.{at_set}
use Rattle.running.specs.Machine.{Names, Machine}
use Rattle.running.specs.Acts.{Doing, Begins, Steps, Looks, Hears, Now, placed, after_act, played, IsAllowed}
use Rattle.running.specs.Acts as running
use Rattle.runs.specs.Runs.{Below, one, schedule_of, IsRunning, Shows}

pub at_some : {A : Type 0} (xs : List A) (p : ℕ) → p < length xs → (v : A) × (get_elem? xs p ≡ some v)
at_some [] p h = absurd (omega arith)
at_some (y ∷ ys) zero h = (y, refl)
at_some (y ∷ ys) (suc p) h = at_some ys p (omega arith)

module _ {M L C E : Type 0} (x : Pure M L C E) where
  pub run_append : (xs ys : Schedule C) (s : State M L C E) → run x (xs ++ ys) s ≡ run x ys (run x xs s)
  run_append [] ys s = refl
  run_append (a ∷ xs) ys s = run_append xs ys (next x s a)

module _ {T L O C : Type 0} {names : Names L O} (m : Machine T L O names) (x : Pure m.core.Memory L C (Event T)) (call_at : L → C) (is : IsRunning m x call_at) where
  abbrev S : Type 0
  S = State m.core.Memory L C (Event T)

  abbrev N : Type 0
  N = Now names m.core

  abbrev V : Type 0
  V = Pass L C (Event T)

  module _ (n : ℕ) (s : S) (k : N) (sh : Shows m x call_at n s k) (p : ℕ) (v : V) (at : get_elem? s.passes p ≡ some v) where
    mine : v.line ≡ k.line p
    mine = sh.lines p v at

    pub same_idle : x.is_idle v.line ≡ names.is_idle (k.line p)
    same_idle = is.idle v.line ∙ ap names.is_idle mine

    acts_so : (a : Act C) → next x s (p, a) ≡ acts x s p a v
    acts_so a = ap (acts_at x s p a) at

    set_lines : (v' : V) (l : L) → v'.line ≡ l → (q : ℕ) (u : V) → get_elem? (set s.passes p v') q ≡ some u → u.line ≡ placed k.line p l q
    set_lines v' l e q u at' = ⊎_elim
        (λ t. ap (λ (w : V). w.line) (sym t.1) ∙ e ∙ sym (ap (λ (b : Bool). cond b l (k.line q)) (eq-eqb q p t.0)))
        (λ t. sh.lines q u t.1 ∙ sym (ap (λ (b : Bool). cond b l (k.line q)) (ne_eqb q p t.0)))
        (at_set s.passes p q v' u at')

    begins_so : (first : L) → x.starts (call_at first) v.line ≡ first → Shows m x call_at n (acts x s p (Begin (call_at first)) v) (after_act names m.core k p (Begins first))
    begins_so first e = by_test (names.is_idle (k.line p)) same_idle
      where
        by_test : (b : Bool) → x.is_idle v.line ≡ b → Shows m x call_at n (acts x s p (Begin (call_at first)) v) (cond b (record { memory = k.memory; line = placed k.line p first; history = k.history }) k)
        by_test true i = subst (λ (b : Bool). Shows m x call_at n (cond b (begun x s p v (call_at first)) s) (record { memory = k.memory; line = placed k.line p first; history = k.history })) (sym i) (record {
          memory = sh.memory;
          history = sh.history;
          many = length-set s.passes p (having_begun x s v (call_at first)) ∙ sh.many;
          lines = set_lines (having_begun x s v (call_at first)) first e;
        })
        by_test false i = subst (λ (b : Bool). Shows m x call_at n (cond b (begun x s p v (call_at first)) s) k) (sym i) sh

    abbrev o : Outcome m.core.Memory L (Event T)
    o = x.step s.memory p v.line

    pub o_is : o ≡ record { memory = m.core.after k.memory p (k.line p); line = m.core.lands k.memory p (k.line p); events = m.core.adds k.memory p (k.line p) }
    o_is = (λ t. x.step (sh.memory t) p (mine t)) ∙ is.steps k.memory p (k.line p)

    steps_so : Shows m x call_at n (acts x s p Step v) (after_act names m.core k p Steps)
    steps_so = by_test (names.is_idle (k.line p)) same_idle
      where
        by_test : (b : Bool) → x.is_idle v.line ≡ b → Shows m x call_at n (acts x s p Step v) (cond b k (running.having_stepped names m.core k p (k.line p)))
        by_test true i = subst (λ (b : Bool). Shows m x call_at n (cond b s (stepped x s p v o)) k) (sym i) sh
        by_test false i = subst (λ (b : Bool). Shows m x call_at n (cond b s (stepped x s p v o)) (running.having_stepped names m.core k p (k.line p))) (sym i) (record {
          memory = ap (λ (y : Outcome m.core.Memory L (Event T)). y.memory) o_is;
          history = λ t. (o_is t).events ++ sh.history t;
          many = length-set s.passes p (having_stepped x s v o) ∙ sh.many;
          lines = set_lines (having_stepped x s v o) (m.core.lands k.memory p (k.line p)) (ap (λ (y : Outcome m.core.Memory L (Event T)). y.line) o_is);
        })

  pub shows_one : (n : ℕ) (s : S) (k : N) → Shows m x call_at n s k → (p : ℕ) → p < n → (a : Doing L) → IsAllowed names m.core a → Shows m x call_at n (run x (one call_at p a) s) (after_act names m.core k p a)
  shows_one n s k sh p low (Begins first) allowed =
      let there = at_some s.passes p (omega (arith, sh.many, low)) in
      let e : x.starts (call_at first) there.0.line ≡ first = subst (λ (l : L). x.starts (call_at l) there.0.line ≡ l) (sym allowed.2) (is.starts allowed.0 allowed.1 there.0.line) in
      subst (λ (z : S). Shows m x call_at n z (after_act names m.core k p (Begins first))) (sym (acts_so n s k sh p there.0 there.1 (Begin (call_at first)))) (begins_so n s k sh p there.0 there.1 first e)
  shows_one n s k sh p low Steps allowed =
      let there = at_some s.passes p (omega (arith, sh.many, low)) in
      subst (λ (z : S). Shows m x call_at n z (after_act names m.core k p Steps)) (sym (acts_so n s k sh p there.0 there.1 Step)) (steps_so n s k sh p there.0 there.1)
  shows_one n s k sh p low Looks allowed = sh
  shows_one n s k sh p low Hears allowed = sh

  pub shows_all : (n : ℕ) (done : Acts L) → Below n done → Every (λ a. IsAllowed names m.core a.1) done → Shows m x call_at n (run x (schedule_of call_at done) (start x n)) (played names m.core done)
  shows_all n [] low allowed = record {
    memory = is.first;
    history = refl;
    many = passes_after x n [];
    lines = λ p v at. ap (λ (u : V). u.line) (sym (start_at x n p v at)) ∙ is.rest p;
  }
  shows_all n (a ∷ older) low allowed =
      subst (λ (z : S). Shows m x call_at n z (played names m.core (a ∷ older))) (sym (run_append x (schedule_of call_at older) (one call_at a.0 a.1) (start x n)))
      (shows_one n (run x (schedule_of call_at older) (start x n)) (played names m.core older) (shows_all n older low.1 allowed.1) a.0 low.0 a.1 allowed.0)

-- Steps are paid for. A line has a weight, the steps that it has left while no other pass wins an exchange;
-- an exchange that is won has a price, by how much it can raise the weight of another line; and a line has a
-- harm, what the exchanges that its call may yet win cost another line. So a call costs its own weight, and
-- its harm once for each other pass that is in a call. A step that wins nothing costs nobody else.
use Rattle.std.proofs.Common.{◌≡◌, ◌≢◌, ℕ, zero, suc, ◌+◌, ◌*◌, ◌<◌, ◌≤◌, ◌==◌, not, Bool, true, false, cond, List, [], ◌∷◌, length, set, refl, sym, ap, ◌∙◌, subst, ⊎_elim, eq-eqb, arith}
use Rattle.std.proofs.Math.Nat.{add-mul, mul-add, mul-suc, mul-le-mul_left, mul-le-mul_right}
use Rattle.std.proofs.lemmas.Bool.{false≢true}
use Rattle.std.proofs.lemmas.Bool.Decides.{eqb_tells}
use mathlib.Core.Option.{Option, none, some, some-injective, some-ne-none}
use lib.ListN.{get_elem?}
use Rattle.machine.specs.Words.{total}
use Rattle.machine.specs.Schedule.{Machine, Pass, State, Act, Begin, Step, Schedule, stepped, begun, acts, acts_at, next, run, start, first_passes, having_begun, having_stepped}
use Rattle.machine.specs.Bound.{wins_at, IsStretch, is_busy, counted, own_steps, AtLine}
use Rattle.machine.specs.Progress.{IsAllowed, Only, steps_at, ends_at, costs_at, steps_made, calls_ended, calls_cost, others_win, in_call, AtOnce, SomeEnds}
use Rattle.machine.proofs.Tests.{cases, one_of}
use Rattle.machine.proofs.Sums.{total_set, at_set}
use Rattle.machine.proofs.Scheduled.{Holds, next_kept, set_other, set_same, same_passes}

-- sums over lists
module _ {V : Type 0} where
  all_total : (f f' g : V → ℕ) (xs : List V) → ((q : ℕ) (u : V) → get_elem? xs q ≡ some u → f' u ≤ f u + g u) → total f' xs ≤ total f xs + total g xs
  all_total f f' g [] h = omega arith
  all_total f f' g (x ∷ xs) h = omega (arith, h 0 x refl, all_total f f' g xs (λ q u at. h (suc q) u at))

  -- each but the one at p is raised by at most g
  others_total : (f f' g : V → ℕ) (xs : List V) (p : ℕ) (v : V) → get_elem? xs p ≡ some v → ((q : ℕ) (u : V) → get_elem? xs q ≡ some u → f' u ≤ f u + g u)
      → total f' xs + f v + g v ≤ total f xs + f' v + total g xs
  others_total f f' g [] p v at h = absurd (some-ne-none v (sym at))
  others_total f f' g (x ∷ xs) zero v at h =
      let is : x ≡ v = some-injective x v at in
      omega (arith, ap f is, ap f' is, ap g is, all_total f f' g xs (λ q u at'. h (suc q) u at'))
  others_total f f' g (x ∷ xs) (suc p) v at h = omega (arith, h 0 x refl, others_total f f' g xs p v at (λ q u at'. h (suc q) u at'))

  each_total : (idle : V → Bool) (d : ℕ) (xs : List V) → total (λ (u : V). cond (idle u) 0 d) xs ≡ d * total (λ (u : V). cond (idle u) 0 1) xs
  each_total idle d [] = omega arith
  each_total idle d (x ∷ xs) = by_test (idle x) (total (λ (u : V). cond (idle u) 0 1) xs) (each_total idle d xs)
    where
      by_test : (b : Bool) (t : ℕ) → total (λ (u : V). cond (idle u) 0 d) xs ≡ d * t → cond b 0 d + total (λ (u : V). cond (idle u) 0 d) xs ≡ d * (cond b 0 1 + t)
      by_test true t rest = omega (arith, rest)
      by_test false t rest = omega (arith, rest, mul-add d 1 t)

  at_most_all : (idle : V → Bool) (xs : List V) → total (λ (u : V). cond (idle u) 0 1) xs ≤ length xs
  at_most_all idle [] = omega arith
  at_most_all idle (x ∷ xs) = omega (arith, one_of (idle x) 0 1 1 (omega arith) (omega arith), at_most_all idle xs)

-- Weights, for the lines that count
module _ {M L C E : Type 0} (x : Machine M L C E) (Kept : State M L C E → Type 0) (Counts : L → Type 0) (weight : M → L → ℕ) (price : L → ℕ) where
  -- what the next step of a line costs each other pass
  abbrev pub spends : M → L → ℕ
  spends m l = cond (x.wins m l) (price l) 0

  -- an own step lowers the weight of a line, and the next line counts too; another pass's step raises it by
  -- no more than it spends
  pub record Weighs : Type 0 where
    pub holds : Holds x Kept
    pub falls : (s : State M L C E) (p : ℕ) (v : Pass L C E) → Kept s → get_elem? s.passes p ≡ some v → x.is_idle v.line ≡ false → Counts v.line
        → weight (x.step s.memory p v.line).memory (x.step s.memory p v.line).line < weight s.memory v.line
    pub counts : (s : State M L C E) (p : ℕ) (v : Pass L C E) → Kept s → get_elem? s.passes p ≡ some v → x.is_idle v.line ≡ false → Counts v.line → Counts (x.step s.memory p v.line).line
    pub raises : (s : State M L C E) (p q : ℕ) (u v : Pass L C E) → Kept s → get_elem? s.passes p ≡ some u → get_elem? s.passes q ≡ some v
        → weight (x.step s.memory q v.line).memory u.line ≤ weight s.memory u.line + spends s.memory v.line

  module _ (w : Weighs) where
    -- lines that count stay so
    abbrev pub AllCount : State M L C E → Type 0
    AllCount s = (q : ℕ) (u : Pass L C E) → get_elem? s.passes q ≡ some u → Counts u.line

    module _ (Q : C → Type 0) (starts : (l : L) (call : C) → Q call → Counts (x.starts call l)) where
      set_counts : (s : State M L C E) (p : ℕ) (v' : Pass L C E) → AllCount s → Counts v'.line → (q : ℕ) (u : Pass L C E) → get_elem? (set s.passes p v') q ≡ some u → Counts u.line
      set_counts s p v' all one q u at = ⊎_elim (λ t. subst (λ (y : Pass L C E). Counts y.line) t.1 one) (λ t. all q u t.1) (at_set s.passes p q v' u at)

      act_counts : (s : State M L C E) → Kept s → AllCount s → (p : ℕ) (a : Act C) (o : Option (Pass L C E)) → get_elem? s.passes p ≡ o → IsAllowed Q a → AllCount (acts_at x s p a o)
      act_counts s k all p a none at allowed = all
      act_counts s k all p (Begin call) (some v) at allowed =
          cases AllCount (x.is_idle v.line) (begun x s p v call) s (λ idle. set_counts s p (having_begun x s v call) all (starts v.line call allowed)) (λ busy. all)
      act_counts s k all p Step (some v) at allowed =
          let o = x.step s.memory p v.line in
          cases AllCount (x.is_idle v.line) s (stepped x s p v o) (λ idle. all) (λ busy. set_counts s p (having_stepped x s v o) all (w.counts s p v k at busy (all p v at)))

      pub all_count : (schedule : Schedule C) (s : State M L C E) → Kept s → Only Q schedule → AllCount s → AllCount (run x schedule s)
      all_count [] s k only all = all
      all_count (a ∷ more) s k only all = all_count more (next x s a) (next_kept x Kept w.holds s a k) only.1 (act_counts s k all a.0 a.1 (get_elem? s.passes a.0) refl only.0)

    -- how many steps a pass has left
    abbrev pub left_at : M → Option (Pass L C E) → ℕ
    left_at m none = 0
    left_at m (some v) = weight m v.line

    abbrev pub left : State M L C E → ℕ → ℕ
    left s p = left_at s.memory (get_elem? s.passes p)

    -- after an act that counts so many of p's own steps, so many fewer are left, but for what it lost
    record Falls (p own lost : ℕ) (s s' : State M L C E) : Type 0 where
      counts : AtLine Counts (get_elem? s'.passes p)
      falls : own + left s' p ≤ left s p + lost

    stays : (p lost : ℕ) (s : State M L C E) → AtLine Counts (get_elem? s.passes p) → Falls p 0 lost s s
    stays p lost s c = record { counts = c; falls = omega arith }

    module _ (dear : ℕ) (cheap : (l : L) → price l ≤ dear) where
      module _ (p : ℕ) (s : State M L C E) (k : Kept s) (c : AtLine Counts (get_elem? s.passes p)) where
        -- an act of another pass
        others : (q : ℕ) (a : Act C) (o : Option (Pass L C E)) → get_elem? s.passes q ≡ o → q ≢ p → Falls p 0 (dear * cond (wins_at x s.memory a o) 1 0) s (acts_at x s q a o)
        others q a none at ne = stays p (dear * cond (wins_at x s.memory a none) 1 0) s c
        others q (Begin call) (some v) at ne = cases (Falls p 0 (dear * 0) s) (x.is_idle v.line) (begun x s q v call) s
            (λ h. let same = set_other s.passes q p (having_begun x s v call) ne in
            record { counts = subst (AtLine Counts) (sym same) c; falls = omega (arith, ap (left_at s.memory) same) })
            (λ h. stays p (dear * 0) s c)
        others q Step (some v) at ne = cases (Falls p 0 (dear * cond (x.wins s.memory v.line) 1 0) s) (x.is_idle v.line) s (stepped x s q v (x.step s.memory q v.line))
            (λ h. stays p (dear * cond (x.wins s.memory v.line) 1 0) s c)
            (λ h.
            let o = x.step s.memory q v.line in
            let same = set_other s.passes q p (having_stepped x s v o) ne in
            record {
              counts = subst (AtLine Counts) (sym same) c;
              falls = omega (arith, ap (left_at o.memory) same, raised (get_elem? s.passes p) refl, one_price (x.wins s.memory v.line) (price v.line) (cheap v.line));
            })
          where
            raised : (u : Option (Pass L C E)) → get_elem? s.passes p ≡ u → left_at (x.step s.memory q v.line).memory u ≤ left_at s.memory u + spends s.memory v.line
            raised none at' = omega arith
            raised (some u) at' = w.raises s p q u v k at' at

            one_price : (b : Bool) (d : ℕ) → d ≤ dear → cond b d 0 ≤ dear * cond b 1 0
            one_price true d h = omega arith
            one_price false d h = omega arith

        -- p's own act, in the middle of a call
        own : (a : Act C) (v : Pass L C E) → get_elem? s.passes p ≡ some v → x.is_idle v.line ≡ false → Falls p (counted x a) 0 s (acts x s p a v)
        own (Begin call) v at busy = cases (Falls p 0 0 s) (x.is_idle v.line) (begun x s p v call) s (λ h. absurd (false≢true (sym busy ∙ h))) (λ h. stays p 0 s c)
        own Step v at busy = cases (Falls p 1 0 s) (x.is_idle v.line) s (stepped x s p v (x.step s.memory p v.line))
            (λ h. absurd (false≢true (sym busy ∙ h)))
            (λ h.
            let o = x.step s.memory p v.line in
            let mine : Counts v.line = subst (AtLine Counts) at c in
            let there = set_same s.passes p v (having_stepped x s v o) at in
            record {
              counts = subst (AtLine Counts) (sym there) (w.counts s p v k at busy mine);
              falls = omega (arith, w.falls s p v k at busy mine, ap (left_at o.memory) there, ap (left_at s.memory) at);
            })

        -- one act, whoever makes it, while the call goes on
        one_act : (a : ℕ × Act C) → is_busy x (get_elem? s.passes p) ≡ true
            → Falls p (cond (a.0 == p) (counted x a.1) 0) (dear * cond (a.0 == p) 0 (cond (wins_at x s.memory a.1 (get_elem? s.passes a.0)) 1 0)) s (next x s a)
        one_act (q, a) busy = ⊎_elim
            (λ t. rw t.0 (subst (λ (y : ℕ). Falls p (counted x a) (dear * 0) s (acts_at x s y a (get_elem? s.passes y))) (sym t.1) (mine (get_elem? s.passes p) refl busy)))
            (λ t. rw t.0 (others q a (get_elem? s.passes q) refl t.1))
            (eqb_tells q p)
          where
            mine : (o : Option (Pass L C E)) → get_elem? s.passes p ≡ o → is_busy x o ≡ true → Falls p (counted x a) (dear * 0) s (acts_at x s p a o)
            mine none at busy = absurd (false≢true busy)
            mine (some v) at busy = let f = own a v at (is_not (x.is_idle v.line) busy) in record { counts = f.counts; falls = omega (arith, f.falls) }
              where
                is_not : (b : Bool) → not b ≡ true → b ≡ false
                is_not true e = absurd (false≢true e)
                is_not false e = refl

      -- Each exchange that another pass wins costs a call that goes on so many steps at most, and nothing else
      -- that others do costs it any
      pub overtaken : (p : ℕ) (s : State M L C E) (schedule : Schedule C) → Kept s → AtLine Counts (get_elem? s.passes p) → own_steps x p schedule s ≤ left s p + dear * others_win x p schedule s
      overtaken p s [] k c = omega arith
      overtaken p s (a ∷ more) k c =
          goes (is_busy x (get_elem? s.passes p)) refl (λ one. overtaken p (next x s a) more (next_kept x Kept w.holds s a k) one)
        where
          goes : (b : Bool) → is_busy x (get_elem? s.passes p) ≡ b
              → (AtLine Counts (get_elem? (next x s a).passes p) → own_steps x p more (next x s a) ≤ left (next x s a) p + dear * others_win x p more (next x s a))
              → cond b (cond (a.0 == p) (counted x a.1) 0 + own_steps x p more (next x s a)) 0
              ≤ left s p + dear * cond b (cond (a.0 == p) 0 (cond (wins_at x s.memory a.1 (get_elem? s.passes a.0)) 1 0) + others_win x p more (next x s a)) 0
          goes true e rest =
              let f = one_act p s k c a e in
              omega (arith, f.falls, rest f.counts, mul-add dear (cond (a.0 == p) 0 (cond (wins_at x s.memory a.1 (get_elem? s.passes a.0)) 1 0)) (others_win x p more (next x s a)))
          goes false e rest = omega arith

      -- so while no other pass wins an exchange, a call makes no more steps than its weight
      pub unhindered : (p : ℕ) (s : State M L C E) (stretch : Schedule C) → Kept s → AtLine Counts (get_elem? s.passes p) → IsStretch x p stretch s → own_steps x p stretch s ≤ left s p
      unhindered p s stretch k c h =
          omega (arith, overtaken p s stretch k c, mul-le-mul_left {m = others_win x p stretch s} {n = 0} dear (none_win p s stretch h))
        where
          none_win : (p : ℕ) (s : State M L C E) (stretch : Schedule C) → IsStretch x p stretch s → others_win x p stretch s ≤ 0
          none_win p s [] h = omega arith
          none_win p s (a ∷ more) h = by_test (is_busy x (get_elem? s.passes p)) (none_win p (next x s a) more h.1)
            where
              one : (b c : Bool) → (a.0 == p) ≡ b → wins_at x s.memory a.1 (get_elem? s.passes a.0) ≡ c → cond b 0 (cond c 1 0) ≤ 0
              one true c e e' = omega arith
              one false true e e' = absurd (⊎_elim (λ same. false≢true (sym e ∙ eq-eqb a.0 p same)) (λ lost. false≢true (sym lost ∙ e')) h.0)
              one false false e e' = omega arith

              by_test : (b : Bool) → others_win x p more (next x s a) ≤ 0
                  → cond b (cond (a.0 == p) 0 (cond (wins_at x s.memory a.1 (get_elem? s.passes a.0)) 1 0) + others_win x p more (next x s a)) 0 ≤ 0
              by_test true rest = omega (arith, rest, one (a.0 == p) (wins_at x s.memory a.1 (get_elem? s.passes a.0)) refl refl)
              by_test false rest = omega arith

-- each line counts
abbrev pub AnyLine : {L : Type 0} → L → Type 0
AnyLine l = Unit {0}

pub any_line : {L C E : Type 0} (o : Option (Pass L C E)) → AtLine AnyLine o
any_line none = tt
any_line (some v) = tt

-- a schedule that begins what it likes
abbrev pub AnyCall : {C : Type 0} → C → Type 0
AnyCall call = Unit {0}

pub any_call : {C : Type 0} (schedule : Schedule C) → Only AnyCall schedule
any_call [] = tt
any_call ((p, Begin call) ∷ more) = (tt, any_call more)
any_call ((p, Step) ∷ more) = (tt, any_call more)

-- Harms, where all lines count
module _ {M L C E : Type 0} (x : Machine M L C E) (Kept : State M L C E → Type 0) (weight : M → L → ℕ) (price harm : L → ℕ) (alone harms : C → ℕ) where
  pub record Pays : Type 0 where
    pub weighs : Weighs x Kept AnyLine weight price
    pub idle : (m : M) (l : L) → x.is_idle l ≡ true → (weight m l ≡ 0) × (harm l ≡ 0)
    pub starts : (l : L) (call : C) → x.is_idle (x.starts call l) ≡ false
    pub begins : (m : M) (l : L) (call : C) → (weight m (x.starts call l) ≤ alone call) × (harm (x.starts call l) ≤ harms call)
    pub pays : (s : State M L C E) (p : ℕ) (v : Pass L C E) → Kept s → get_elem? s.passes p ≡ some v → x.is_idle v.line ≡ false
        → harm (x.step s.memory p v.line).line + spends x Kept AnyLine weight price s.memory v.line ≤ harm v.line

  -- where k other passes are in a call: what a pass has to spend, and all of them; and what a call costs
  module _ (y : Pays) (k : ℕ) where
    abbrev has : M → Pass L C E → ℕ
    has m u = weight m u.line + harm u.line * k

    abbrev purse : State M L C E → ℕ
    purse s = total (has s.memory) s.passes

    abbrev pub cost : C → ℕ
    cost call = alone call + harms call * k

    step_paid : (s : State M L C E) (p : ℕ) (v : Pass L C E) → Kept s → get_elem? s.passes p ≡ some v → x.is_idle v.line ≡ false → in_call x s ≤ suc k
        → 1 + purse (stepped x s p v (x.step s.memory p v.line)) ≤ purse s
    step_paid s p v keeps at busy few =
        let o = x.step s.memory p v.line in
        let v' : Pass L C E = having_stepped x s v o in
        let d : ℕ = spends x Kept AnyLine weight price s.memory v.line in
        let g : Pass L C E → ℕ = λ u. cond (x.is_idle u.line) 0 d in
        let mine : g v ≡ d = ap (λ (b : Bool). cond b 0 d) busy in
        omega (
          arith,
          mine,
          others_total (has s.memory) (has o.memory) g s.passes p v at (λ q u at'. omega (arith, raised (x.is_idle u.line) (weight s.memory u.line) (weight o.memory u.line) d (λ e. (y.idle o.memory u.line e).0) (y.weighs.raises s q p u v keeps at' at))),
          total_set (has o.memory) s.passes p v v' at,
          each_total (λ (u : Pass L C E). x.is_idle u.line) d s.passes,
          mul-le-mul_left {m = in_call x s} {n = suc k} d few,
          mul-suc d k,
          y.weighs.falls s p v keeps at busy tt,
          mul-le-mul_right {m = harm o.line + d} {n = harm v.line} k (y.pays s p v keeps at busy),
          add-mul (harm o.line) d k,
        )
      where
        raised : (b : Bool) (a a' d : ℕ) → (b ≡ true → a' ≡ 0) → a' ≤ a + d → a' ≤ a + cond b 0 d
        raised true a a' d z h = omega (arith, z refl)
        raised false a a' d z h = h

    begin_paid : (s : State M L C E) (p : ℕ) (v : Pass L C E) → get_elem? s.passes p ≡ some v → (call : C) → purse (begun x s p v call) ≤ purse s + cost call
    begin_paid s p v at call =
        let b = y.begins s.memory v.line call in
        omega (
          arith,
          total_set (has s.memory) s.passes p v (having_begun x s v call) at,
          b.0,
          mul-le-mul_right {m = harm (x.starts call v.line)} {n = harms call} k b.1,
        )

    module _ (s : State M L C E) (keeps : Kept s) where
      act_paid : (p : ℕ) (a : Act C) (o : Option (Pass L C E)) → get_elem? s.passes p ≡ o → in_call x s ≤ suc k
          → steps_at x a o + purse (acts_at x s p a o) ≤ purse s + costs_at x cost a o
      act_paid p a none at few = omega arith
      act_paid p (Begin call) (some v) at few = by_test (x.is_idle v.line) refl
        where
          by_test : (b : Bool) → x.is_idle v.line ≡ b → 0 + purse (cond b (begun x s p v call) s) ≤ purse s + cond b (cost call) 0
          by_test true e = omega (arith, begin_paid s p v at call)
          by_test false e = omega arith
      act_paid p Step (some v) at few = by_test (x.is_idle v.line) refl
        where
          by_test : (b : Bool) → x.is_idle v.line ≡ b → cond b 0 1 + purse (cond b s (stepped x s p v (x.step s.memory p v.line))) ≤ purse s + 0
          by_test true e = omega arith
          by_test false e = omega (arith, step_paid s p v keeps at e few)

      -- a pass is in a call from its begin to its end
      act_counted : (p : ℕ) (a : Act C) (o : Option (Pass L C E)) → get_elem? s.passes p ≡ o
          → costs_at x (λ call. 1) a o + in_call x s ≡ ends_at x s.memory p a o + in_call x (acts_at x s p a o)
      act_counted p a none at = refl
      act_counted p (Begin call) (some v) at = by_test (x.is_idle v.line) refl
        where
          by_test : (b : Bool) → x.is_idle v.line ≡ b → cond b 1 0 + in_call x s ≡ 0 + in_call x (cond b (begun x s p v call) s)
          by_test true e =
              let v' : Pass L C E = having_begun x s v call in
              let f : Pass L C E → ℕ = λ u. cond (x.is_idle u.line) 0 1 in
              let was : f v ≡ 0 = ap (λ (b : Bool). cond b 0 1) e in
              let is : f v' ≡ 1 = ap (λ (b : Bool). cond b 0 1) (y.starts v.line call) in
              omega (arith, total_set f s.passes p v v' at, was, is)
          by_test false e = refl
      act_counted p Step (some v) at = by_test (x.is_idle v.line) refl
        where
          by_test : (b : Bool) → x.is_idle v.line ≡ b
              → 0 + in_call x s ≡ cond b 0 (cond (x.is_idle (x.step s.memory p v.line).line) 1 0) + in_call x (cond b s (stepped x s p v (x.step s.memory p v.line)))
          by_test true e = refl
          by_test false e =
              let o = x.step s.memory p v.line in
              let f : Pass L C E → ℕ = λ u. cond (x.is_idle u.line) 0 1 in
              let was : f v ≡ 1 = ap (λ (b : Bool). cond b 0 1) e in
              omega (arith, total_set f s.passes p v (having_stepped x s v o) at, was, one (x.is_idle o.line))
            where
              one : (b : Bool) → cond b 0 1 + cond b 1 0 ≡ 1
              one true = refl
              one false = refl

    -- In every schedule the steps that are made are paid for: out of what the passes had to spend, and by
    -- what the calls cost that are begun
    paid : (schedule : Schedule C) (s : State M L C E) → Kept s → AtOnce x (suc k) schedule s → steps_made x schedule s + purse (run x schedule s) ≤ purse s + calls_cost x cost schedule s
    paid [] s keeps few = omega arith
    paid (a ∷ more) s keeps few =
        omega (arith, act_paid s keeps a.0 a.1 (get_elem? s.passes a.0) refl few.0, paid more (next x s a) (next_kept x Kept y.weighs.holds s a keeps) few.1)

    -- at the start nobody has anything to spend
    pub all_paid : (passes : ℕ) (schedule : Schedule C) → Kept (start x passes) → ((p : ℕ) → x.is_idle (x.rest p) ≡ true) → AtOnce x (suc k) schedule (start x passes)
        → steps_made x schedule (start x passes) ≤ calls_cost x cost schedule (start x passes)
    all_paid passes schedule keeps idle few =
        omega (arith, paid schedule (start x passes) keeps few, nothing 0 passes)
      where
        nothing : (p n : ℕ) → total (has x.first) (first_passes x p n) ≡ 0
        nothing p zero = refl
        nothing p (suc n) = let none = y.idle x.first (x.rest p) (idle p) in omega (arith, nothing (p + 1) n, none.0, ap (λ (h : ℕ). h * k) none.1)

    -- calls that are begun end, or are still made at the end
    counted_calls : (schedule : Schedule C) (s : State M L C E) → Kept s → AtOnce x (suc k) schedule s → calls_cost x (λ call. 1) schedule s + in_call x s ≤ calls_ended x schedule s + suc k
    counted_calls [] s keeps few = omega (arith, few)
    counted_calls (a ∷ more) s keeps few =
        omega (arith, act_counted s keeps a.0 a.1 (get_elem? s.passes a.0) refl, counted_calls more (next x s a) (next_kept x Kept y.weighs.holds s a keeps) few.1)

    module _ (Q : C → Type 0) (most : ℕ) (calls_small : (call : C) → Q call → cost call ≤ most) where
      costs_small : (schedule : Schedule C) (s : State M L C E) → Only Q schedule → calls_cost x cost schedule s ≤ most * calls_cost x (λ call. 1) schedule s
      costs_small [] s only = omega arith
      costs_small (a ∷ more) s only =
          omega (
            arith,
            one (a.1) (get_elem? s.passes a.0) only.0,
            mul-add most (costs_at x (λ call. 1) a.1 (get_elem? s.passes a.0)) (calls_cost x (λ call. 1) more (next x s a)),
            costs_small more (next x s a) only.1,
          )
        where
          one : (b : Act C) (o : Option (Pass L C E)) → IsAllowed Q b → costs_at x cost b o ≤ most * costs_at x (λ call. 1) b o
          one b none allowed = omega arith
          one (Begin call) (some v) allowed = by_test (x.is_idle v.line)
            where
              by_test : (t : Bool) → cond t (cost call) 0 ≤ most * cond t 1 0
              by_test true = omega (arith, calls_small call allowed)
              by_test false = omega arith
          one Step (some v) allowed = omega arith

      module _ (s : State M L C E) (keeps : Kept s) (small : (p : ℕ) (u : Pass L C E) → get_elem? s.passes p ≡ some u → has s.memory u ≤ most) where
        purse_small : purse s ≤ most * in_call x s
        purse_small =
            omega (
              arith,
              all_total (λ (u : Pass L C E). 0) (has s.memory) (λ (u : Pass L C E). cond (x.is_idle u.line) 0 most) s.passes (λ q u at. one (x.is_idle u.line) q u refl at),
              each_total (λ (u : Pass L C E). x.is_idle u.line) most s.passes,
              none s.passes,
            )
          where
            none : (us : List (Pass L C E)) → total (λ (u : Pass L C E). 0) us ≡ 0
            none [] = refl
            none (u ∷ us) = omega (arith, none us)

            one : (b : Bool) (q : ℕ) (u : Pass L C E) → x.is_idle u.line ≡ b → get_elem? s.passes q ≡ some u → has s.memory u ≤ 0 + cond b 0 most
            one true q u e at = let z = y.idle s.memory u.line e in omega (arith, z.0, ap (λ (h : ℕ). h * k) z.1)
            one false q u e at = omega (arith, small q u at)

        -- So calls end: each that does, and each of the k + 1 passes that may be in a call, is good for so many
        -- steps at most
        pub calls_end : (schedule : Schedule C) → Only Q schedule → AtOnce x (suc k) schedule s → steps_made x schedule s ≤ most * (calls_ended x schedule s + suc k)
        calls_end schedule only few =
            let begun_calls = calls_cost x (λ call. 1) schedule s in
            omega (
              arith,
              paid schedule s keeps few,
              costs_small schedule s only,
              purse_small,
              mul-add most begun_calls (in_call x s),
              mul-le-mul_left {m = begun_calls + in_call x s} {n = calls_ended x schedule s + suc k} most (counted_calls schedule s keeps few),
            )

        -- and where no more passes are than these, some call ends among so many steps
        pub some_ends : (schedule : Schedule C) → Only Q schedule → length s.passes ≡ suc k → SomeEnds x (most * suc k) schedule s
        some_ends schedule only passes many =
            by_count (calls_ended x schedule s) (calls_end schedule only (all_at_once schedule s passes))
          where
            all_at_once : (schedule : Schedule C) (s : State M L C E) → length s.passes ≡ suc k → AtOnce x (suc k) schedule s
            all_at_once [] s few = omega (arith, few, at_most_all (λ (u : Pass L C E). x.is_idle u.line) s.passes)
            all_at_once (a ∷ more) s few = (
              omega (arith, few, at_most_all (λ (u : Pass L C E). x.is_idle u.line) s.passes),
              all_at_once more (next x s a) (next_kept x (λ (t : State M L C E). length t.passes ≡ suc k) (same_passes x (suc k)) s a few),
            )

            by_count : (ended : ℕ) → steps_made x schedule s ≤ most * (ended + suc k) → 0 < ended
            by_count zero bound = omega (arith, many, bound, mul-add most 0 (suc k))
            by_count (suc ended) bound = omega arith

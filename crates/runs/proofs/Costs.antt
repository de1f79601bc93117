-- What the steps and the calls of a schedule come to among the acts, and what the answers are worth.
use Rattle.std.proofs.Common.{◌≡◌, ◌≢◌, ⊎_elim, ℕ, suc, ◌+◌, ◌<◌, ◌≤◌, cond, Bool, true, false, List, [], ◌∷◌, ◌++◌, length, refl, sym, ap, ◌∙◌, subst, eq-eqb, ne_eqb, arith}
use Rattle.std.specs.List.{AllByRecursion as Every}
use mathlib.Core.Option.{Option, none, some}
use lib.ListN.{get_elem?}
use Rattle.bounded_model.specs.declared.history.Event.{Event}
use Rattle.bounded_model.specs.declared.views.Answered.{Answered}
use Rattle.bounded_model.specs.declared.views.Answered.TheVariants.{Heard}
use Rattle.machine.specs.Seats.{Acts}
use Rattle.machine.specs.Words.{total}
use Rattle.machine.specs.Schedule.{Machine as Pure, Pass, State, Outcome, Begin, Step, Schedule, having_begun, having_stepped, begun, stepped, acts_at, next, run, start}
use Rattle.machine.specs.Progress.{steps_at, costs_at, steps_made, calls_cost, AtOnce}
use Rattle.machine.proofs.Scheduled.{next_kept, same_passes, set_same}
use Rattle.machine.proofs.Tests.{same_or_not}
use Rattle.running.specs.Machine.{Names, Machine}
use Rattle.running.specs.Acts.{Doing, Begins, Steps, Looks, Hears, Now, placed, is_begin, is_step, sum_of, after_act, played, IsAllowed, IsProper, AllProper, AllFresh, answers_at, answers_after, answers_in}
use Rattle.running.proofs.Acts.{sum_same}
use Rattle.runs.proofs.Points.{line_other}
use Rattle.runs.specs.Runs.{Below, one, schedule_of, IsRunning, Shows}
use Rattle.runs.specs.Work.{in_all, is_look, is_hear}
use Rattle.runs.proofs.Link.{at_some, run_append, same_idle, o_is, shows_all}
use Rattle.runs.proofs.Count.{same_there}

module _ {M L C E : Type 0} (x : Pure M L C E) where
  idle_or_not : (xs : List (Pass L C E)) → total (λ v. cond (x.is_idle v.line) 0 1) xs ≤ length xs
  idle_or_not [] = omega arith
  idle_or_not (v ∷ xs) = let r = idle_or_not xs in one (x.is_idle v.line) r
    where
      one : (b : Bool) → total (λ v. cond (x.is_idle v.line) 0 1) xs ≤ length xs → cond b 0 1 + total (λ v. cond (x.is_idle v.line) 0 1) xs ≤ suc (length xs)
      one true r = omega (arith, r)
      one false r = omega (arith, r)

  -- so many passes as there are may be in a call at once
  pub at_once : (n most : ℕ) → n ≤ most → (schedule : Schedule C) (s : State M L C E) → length s.passes ≡ n → AtOnce x most schedule s
  at_once n most le [] s many = omega (arith, le, many, idle_or_not s.passes)
  at_once n most le (a ∷ more) s many = (
    omega (arith, le, many, idle_or_not s.passes),
    at_once n most le more (next x s a) (next_kept x (λ (t : State M L C E). length t.passes ≡ n) (same_passes x n) s a many),
  )

  steps_append : (xs ys : Schedule C) (s : State M L C E) → steps_made x (xs ++ ys) s ≡ steps_made x xs s + steps_made x ys (run x xs s)
  steps_append [] ys s = omega arith
  steps_append (a ∷ xs) ys s = omega (arith, steps_append xs ys (next x s a))

  cost_append : (cost : C → ℕ) (xs ys : Schedule C) (s : State M L C E) → calls_cost x cost (xs ++ ys) s ≡ calls_cost x cost xs s + calls_cost x cost ys (run x xs s)
  cost_append cost [] ys s = omega arith
  cost_append cost (a ∷ xs) ys s = omega (arith, cost_append cost xs ys (next x s a))

-- what a begin costs
abbrev pub priced : {L : Type 0} → (L → ℕ) → Doing L → ℕ
priced cost (Begins first) = cost first
priced cost Steps = 0
priced cost Looks = 0
priced cost Hears = 0

module _ {T L O C : Type 0} {names : Names L O} (m : Machine T L O names) (x : Pure m.core.Memory L C (Event T)) (call_at : L → C) (is : IsRunning m x call_at) where
  abbrev S : Type 0
  S = State m.core.Memory L C (Event T)

  abbrev Allowed : Acts L → Type 0
  Allowed acts = Every (λ a. IsAllowed names m.core a.1) acts

  module _ (n : ℕ) (s : S) (k : Now names m.core) (sh : Shows m x call_at n s k) (p : ℕ) (low : p < n) where
    abbrev there : (v : Pass L C (Event T)) × (get_elem? s.passes p ≡ some v)
    there = at_some s.passes p (omega (arith, sh.many, low))

    idle : x.is_idle there.0.line ≡ names.is_idle (k.line p)
    idle = same_idle m x call_at is n s k sh p there.0 there.1

    one_step : (d : Doing L) → IsProper names m.core k p d → steps_made x (one call_at p d) s ≡ is_step d
    one_step (Begins first) proper = ap (λ o. steps_at x (Begin (call_at first)) o + 0) there.1
    one_step Steps proper = ap (λ o. steps_at x Step o + 0) there.1 ∙ ap (λ (b : Bool). cond b 0 1 + 0) (idle ∙ proper)
    one_step Looks proper = refl
    one_step Hears proper = refl

    one_cost : (cost : C → ℕ) (d : Doing L) → IsProper names m.core k p d → calls_cost x cost (one call_at p d) s ≡ priced (λ l. cost (call_at l)) d
    one_cost cost (Begins first) proper = ap (λ o. costs_at x cost (Begin (call_at first)) o + 0) there.1 ∙ ap (λ (b : Bool). cond b (cost (call_at first)) 0 + 0) (idle ∙ proper) ∙ omega arith
    one_cost cost Steps proper = ap (λ o. costs_at x cost Step o + 0) there.1
    one_cost cost Looks proper = refl
    one_cost cost Hears proper = refl

  -- the steps of the schedule are those among the acts, and its calls those that the acts have begun
  pub all_steps : (n : ℕ) (acts : Acts L) → Below n acts → Allowed acts → AllProper names m.core acts → steps_made x (schedule_of call_at acts) (start x n) ≡ in_all is_step acts
  all_steps n [] low allowed proper = refl
  all_steps n (a ∷ older) low allowed proper =
      let s = run x (schedule_of call_at older) (start x n) in
      let r = all_steps n older low.1 allowed.1 proper.1 in
      let e = steps_append x (schedule_of call_at older) (one call_at a.0 a.1) (start x n) in
      let o = one_step n s (played names m.core older) (shows_all m x call_at is n older low.1 allowed.1) a.0 low.0 a.1 proper.0 in
      omega arith

  pub all_costs : (cost : C → ℕ) (n : ℕ) (acts : Acts L) → Below n acts → Allowed acts → AllProper names m.core acts → calls_cost x cost (schedule_of call_at acts) (start x n) ≡ in_all (priced (λ l. cost (call_at l))) acts
  all_costs cost n [] low allowed proper = refl
  all_costs cost n (a ∷ older) low allowed proper =
      let s = run x (schedule_of call_at older) (start x n) in
      let r = all_costs cost n older low.1 allowed.1 proper.1 in
      let e = cost_append x cost (schedule_of call_at older) (one call_at a.0 a.1) (start x n) in
      let o = one_cost n s (played names m.core older) (shows_all m x call_at is n older low.1 allowed.1) a.0 low.0 cost a.1 proper.0 in
      omega arith

  -- Of each pass: what it has begun, and what it has heard, is what its calls have answered, and the operation that it is in
  abbrev pub open_at : L → ℕ
  open_at l = cond (names.is_idle l) 0 1

  abbrev pub answered : ℕ → Acts L → List (Answered T)
  answered p acts = answers_in names m.core p acts

  abbrev pub calls : ℕ → Acts L → ℕ
  calls p acts = sum_of is_begin p acts + sum_of is_hear p acts

  abbrev Balanced : ℕ → Acts L → Type 0
  Balanced p acts = calls p acts ≡ length (answered p acts) + open_at ((played names m.core acts).line p)

  abbrev now_begun : Now names m.core → ℕ → L → Now names m.core
  now_begun k p first = record { memory = k.memory; line = placed k.line p first; history = k.history }

  abbrev after_step : Now names m.core → ℕ → Now names m.core
  after_step k p = record { memory = m.core.after k.memory p (k.line p); line = placed k.line p (m.core.lands k.memory p (k.line p)); history = m.core.adds k.memory p (k.line p) ++ k.history }

  one_answer : (k : Now names m.core) (p : ℕ) (d : Doing L) (answers : List (Answered T)) → IsAllowed names m.core d → IsProper names m.core k p d
      → is_begin d + is_hear d + (length answers + open_at (k.line p)) ≡ length (answers_after names m.core k p d answers) + open_at ((after_act names m.core k p d).line p)
  one_answer k p (Begins first) answers allowed proper =
      let line : (after_act names m.core k p (Begins first)).line p ≡ first = ap (λ (b : Bool). (cond b (now_begun k p first) k).line p) proper ∙ ap (λ (b : Bool). cond b first (k.line p)) (eq-eqb p p refl) in
      let busy : open_at first ≡ 1 = ap open_at allowed.2 ∙ ap (λ (b : Bool). cond b 0 1) (names.starts allowed.0 allowed.1) in
      let was : open_at (k.line p) ≡ 0 = ap (λ (b : Bool). cond b 0 1) proper in
      omega (arith, ap open_at line, busy, was)
  one_answer k p Steps answers allowed proper =
      let to : L = m.core.lands k.memory p (k.line p) in
      let line : (after_act names m.core k p Steps).line p ≡ to = ap (λ (b : Bool). (cond b k (after_step k p)).line p) proper ∙ ap (λ (b : Bool). cond b to (k.line p)) (eq-eqb p p refl) in
      let was : open_at (k.line p) ≡ 1 = ap (λ (b : Bool). cond b 0 1) proper in
      let replies : answers_after names m.core k p Steps answers ≡ answers_at names m.core answers to = ap (λ (b : Bool). cond b answers (answers_at names m.core answers to)) proper in
      omega (arith, ap open_at line, was, ap (λ (said : List (Answered T)). length said) replies, at_end (names.is_idle to) (m.core.reply to))
    where
      at_end : (b : Bool) (a : Answered T) → length answers + 1 ≡ length (cond b (a ∷ answers) answers) + cond b 0 1
      at_end true a = omega arith
      at_end false a = refl
  one_answer k p Looks answers allowed proper = omega arith
  one_answer k p Hears answers allowed proper = omega arith

  balanced_mine : (a : ℕ × Doing L) (older : Acts L) → IsAllowed names m.core a.1 → IsProper names m.core (played names m.core older) a.0 a.1 → Balanced a.0 older → Balanced a.0 (a ∷ older)
  balanced_mine a older allowed proper before =
      let k : Now names m.core = played names m.core older in
      omega (
        arith,
        before,
        sum_same {L = L} is_begin a.0 a.1 older,
        sum_same {L = L} is_hear a.0 a.1 older,
        ap (λ (b : Bool). length (cond b (answers_after names m.core k a.0 a.1 (answered a.0 older)) (answered a.0 older))) (eq-eqb a.0 a.0 refl),
        one_answer k a.0 a.1 (answered a.0 older) allowed proper,
      )

  balanced_other : (p : ℕ) (a : ℕ × Doing L) (older : Acts L) → p ≢ a.0 → Balanced p older → Balanced p (a ∷ older)
  balanced_other p a older ne before =
      let k : Now names m.core = played names m.core older in
      omega (
        arith,
        before,
        ap (λ (b : Bool). cond b (is_begin a.1) 0) (ne_eqb p a.0 ne),
        ap (λ (b : Bool). cond b (is_hear a.1) 0) (ne_eqb p a.0 ne),
        ap (λ (b : Bool). length (cond b (answers_after names m.core k a.0 a.1 (answered p older)) (answered p older))) (ne_eqb p a.0 ne),
        ap open_at (line_other m k p a.0 a.1 ne),
      )

  pub balanced : ((p : ℕ) → names.is_idle (m.core.rest p) ≡ true) → (p : ℕ) (acts : Acts L) → Allowed acts → AllProper names m.core acts → Balanced p acts
  balanced fresh p [] allowed proper = let e : open_at (m.core.rest p) ≡ 0 = ap (λ (b : Bool). cond b 0 1) (fresh p) in omega (arith, e)
  balanced fresh p (a ∷ older) allowed proper = ⊎_elim
      (λ same. subst (λ (q : ℕ). Balanced q older → Balanced q (a ∷ older)) (sym same) (balanced_mine a older allowed.0 proper.0) (balanced fresh p older allowed.1 proper.1))
      (λ ne. balanced_other p a older ne (balanced fresh p older allowed.1 proper.1))
      (same_or_not p a.0)

  -- Of each pass: what its calls cost, with what it has heard, is at most what its answers are worth, and its call under way
  module _ (n : ℕ) (cost : C → ℕ) (fee : Answered T → ℕ) (some_fee : 0 < fee Heard)
      (worth : (acts : Acts L) → Below n acts → Allowed acts → AllFresh names m.core acts → (p : ℕ) (v : Pass L C (Event T)) (call : C) → get_elem? (run x (schedule_of call_at acts) (start x n)).passes p ≡ some v → v.call ≡ some call → x.is_idle v.line ≡ true → cost call ≤ fee (m.core.reply v.line)) where
    abbrev price : L → ℕ
    price l = cost (call_at l)

    abbrev after : Acts L → S
    after acts = run x (schedule_of call_at acts) (start x n)

    abbrev cost_of : Option C → ℕ
    cost_of none = 0
    cost_of (some call) = cost call

    abbrev due : Option (Pass L C (Event T)) → ℕ
    due none = 0
    due (some v) = cond (x.is_idle v.line) 0 (cost_of v.call)

    abbrev spent : ℕ → Acts L → ℕ
    spent p acts = sum_of (priced price) p acts + sum_of is_hear p acts

    abbrev Covered : ℕ → Acts L → Type 0
    Covered p acts = spent p acts ≤ total fee (answered p acts) + due (get_elem? (after acts).passes p)

    worth_of : (call : Option C) (a : ℕ) → ((c : C) → call ≡ some c → cost c ≤ a) → cost_of call ≤ a
    worth_of none a h = omega arith
    worth_of (some c) a h = h c refl

    one_covers : (older : Acts L) (p : ℕ) (d : Doing L) → Below n ((p, d) ∷ older) → Allowed ((p, d) ∷ older) → AllFresh names m.core ((p, d) ∷ older) → AllProper names m.core ((p, d) ∷ older)
        → priced price d + is_hear d + (total fee (answered p older) + due (get_elem? (after older).passes p))
        ≤ total fee (answers_after names m.core (played names m.core older) p d (answered p older)) + due (get_elem? (after ((p, d) ∷ older)).passes p)
    one_covers older p (Begins first) low allowed fresh proper =
        let k : Now names m.core = played names m.core older in
        let s : S = after older in
        let sh = shows_all m x call_at is n older low.1 allowed.1 in
        let there = at_some s.passes p (omega (arith, sh.many, low.0)) in
        let v : Pass L C (Event T) = there.0 in
        let v' : Pass L C (Event T) = having_begun x s v (call_at first) in
        let idle : x.is_idle v.line ≡ true = same_idle m x call_at is n s k sh p v there.1 ∙ proper.0 in
        let starts : v'.line ≡ first = subst (λ (l : L). x.starts (call_at l) v.line ≡ l) (sym allowed.0.2) (is.starts allowed.0.0 allowed.0.1 v.line) in
        let busy : x.is_idle v'.line ≡ false = ap x.is_idle starts ∙ is.idle first ∙ ap names.is_idle allowed.0.2 ∙ names.starts allowed.0.0 allowed.0.1 in
        let to : after ((p, Begins first) ∷ older) ≡ begun x s p v (call_at first) = run_append x (schedule_of call_at older) (one call_at p (Begins first)) (start x n) ∙ ap (acts_at x s p (Begin (call_at first))) there.1 ∙ ap (λ (b : Bool). cond b (begun x s p v (call_at first)) s) idle in
        let was : due (get_elem? s.passes p) ≡ 0 = ap due there.1 ∙ ap (λ (b : Bool). cond b 0 (cost_of v.call)) idle in
        let will : due (get_elem? (after ((p, Begins first) ∷ older)).passes p) ≡ price first = ap (λ (z : S). due (get_elem? z.passes p)) to ∙ ap due (set_same s.passes p v v' there.1) ∙ ap (λ (b : Bool). cond b 0 (price first)) busy in
        omega (arith, was, will)
    one_covers older p Steps low allowed fresh proper =
        let k : Now names m.core = played names m.core older in
        let s : S = after older in
        let sh = shows_all m x call_at is n older low.1 allowed.1 in
        let there = at_some s.passes p (omega (arith, sh.many, low.0)) in
        let v : Pass L C (Event T) = there.0 in
        let o : Outcome m.core.Memory L (Event T) = x.step s.memory p v.line in
        let v' : Pass L C (Event T) = having_stepped x s v o in
        let idle : x.is_idle v.line ≡ false = same_idle m x call_at is n s k sh p v there.1 ∙ proper.0 in
        let to : L = m.core.lands k.memory p (k.line p) in
        let line : v'.line ≡ to = ap (λ (y : Outcome m.core.Memory L (Event T)). y.line) (o_is m x call_at is n s k sh p v there.1) in
        let goes : after ((p, Steps) ∷ older) ≡ stepped x s p v o = run_append x (schedule_of call_at older) (one call_at p Steps) (start x n) ∙ ap (acts_at x s p Step) there.1 ∙ ap (λ (b : Bool). cond b s (stepped x s p v o)) idle in
        let here : get_elem? (after ((p, Steps) ∷ older)).passes p ≡ some v' = ap (λ (z : S). get_elem? z.passes p) goes ∙ set_same s.passes p v v' there.1 in
        let was : due (get_elem? s.passes p) ≡ cost_of v.call = ap due there.1 ∙ ap (λ (b : Bool). cond b 0 (cost_of v.call)) idle in
        let will : due (get_elem? (after ((p, Steps) ∷ older)).passes p) ≡ cond (names.is_idle to) 0 (cost_of v.call) = ap due here ∙ ap (λ (b : Bool). cond b 0 (cost_of v.call)) (is.idle v'.line ∙ ap names.is_idle line) in
        let replies : answers_after names m.core k p Steps (answered p older) ≡ answers_at names m.core (answered p older) to = ap (λ (b : Bool). cond b (answered p older) (answers_at names m.core (answered p older) to)) proper.0 in
        let paid : names.is_idle to ≡ true → cost_of v.call ≤ fee (m.core.reply to) = λ ends. subst (λ (l : L). cost_of v.call ≤ fee (m.core.reply l)) line
        (worth_of v.call (fee (m.core.reply v'.line)) (λ c e. worth ((p, Steps) ∷ older) low allowed fresh p v' c here e (is.idle v'.line ∙ ap names.is_idle line ∙ ends))) in
        omega (arith, was, will, ap (λ (said : List (Answered T)). total fee said) replies, at_end (names.is_idle to) (m.core.reply to) (answered p older) (cost_of v.call) paid)
      where
        at_end : (b : Bool) (a : Answered T) (answers : List (Answered T)) (c : ℕ) → (b ≡ true → c ≤ fee a) → total fee answers + c ≤ total fee (cond b (a ∷ answers) answers) + cond b 0 c
        at_end true a answers c h = let e = h refl in omega arith
        at_end false a answers c h = omega arith
    one_covers older p Looks low allowed fresh proper = let e = ap (λ (z : S). due (get_elem? z.passes p)) (run_append x (schedule_of call_at older) (one call_at p Looks) (start x n)) in omega (arith, e)
    one_covers older p Hears low allowed fresh proper = let e = ap (λ (z : S). due (get_elem? z.passes p)) (run_append x (schedule_of call_at older) (one call_at p Hears) (start x n)) in omega (arith, e, some_fee)

    other_stays : (older : Acts L) (p q : ℕ) (d : Doing L) → q ≢ p → get_elem? (after ((q, d) ∷ older)).passes p ≡ get_elem? (after older).passes p
    other_stays older p q (Begins first) ne = ap (λ (z : S). get_elem? z.passes p) (run_append x (schedule_of call_at older) (one call_at q (Begins first)) (start x n)) ∙ same_there x p (after older) q (Begin (call_at first)) ne (get_elem? (after older).passes q)
    other_stays older p q Steps ne = ap (λ (z : S). get_elem? z.passes p) (run_append x (schedule_of call_at older) (one call_at q Steps) (start x n)) ∙ same_there x p (after older) q Step ne (get_elem? (after older).passes q)
    other_stays older p q Looks ne = ap (λ (z : S). get_elem? z.passes p) (run_append x (schedule_of call_at older) (one call_at q Looks) (start x n))
    other_stays older p q Hears ne = ap (λ (z : S). get_elem? z.passes p) (run_append x (schedule_of call_at older) (one call_at q Hears) (start x n))

    covered_mine : (a : ℕ × Doing L) (older : Acts L) → Below n (a ∷ older) → Allowed (a ∷ older) → AllFresh names m.core (a ∷ older) → AllProper names m.core (a ∷ older) → Covered a.0 older → Covered a.0 (a ∷ older)
    covered_mine a older low allowed fresh proper before =
        let k : Now names m.core = played names m.core older in
        omega (
          arith,
          before,
          sum_same {L = L} (priced price) a.0 a.1 older,
          sum_same {L = L} is_hear a.0 a.1 older,
          ap (λ (b : Bool). total fee (cond b (answers_after names m.core k a.0 a.1 (answered a.0 older)) (answered a.0 older))) (eq-eqb a.0 a.0 refl),
          one_covers older a.0 a.1 low allowed fresh proper,
        )

    covered_other : (p : ℕ) (a : ℕ × Doing L) (older : Acts L) → p ≢ a.0 → Covered p older → Covered p (a ∷ older)
    covered_other p a older ne before =
        let k : Now names m.core = played names m.core older in
        omega (
          arith,
          before,
          ap (λ (b : Bool). cond b (priced price a.1) 0) (ne_eqb p a.0 ne),
          ap (λ (b : Bool). cond b (is_hear a.1) 0) (ne_eqb p a.0 ne),
          ap (λ (b : Bool). total fee (cond b (answers_after names m.core k a.0 a.1 (answered p older)) (answered p older))) (ne_eqb p a.0 ne),
          ap due (other_stays older p a.0 a.1 (λ e. ne (sym e))),
        )

    pub covered : (p : ℕ) (acts : Acts L) → Below n acts → Allowed acts → AllFresh names m.core acts → AllProper names m.core acts → Covered p acts
    covered p [] low allowed fresh proper = omega arith
    covered p (a ∷ older) low allowed fresh proper = ⊎_elim
        (λ same. subst (λ (q : ℕ). Covered q older → Covered q (a ∷ older)) (sym same) (covered_mine a older low allowed fresh proper) (covered p older low.1 allowed.1 fresh.1 proper.1))
        (λ ne. covered_other p a older ne (covered p older low.1 allowed.1 fresh.1 proper.1))
        (same_or_not p a.0)

    pub nothing_due : (p : ℕ) (acts : Acts L) → Below n acts → Allowed acts → names.is_idle ((played names m.core acts).line p) ≡ true → due (get_elem? (after acts).passes p) ≡ 0
    nothing_due p acts low allowed rests = by_pass_at (get_elem? (after acts).passes p) refl
      where
        by_pass_at : (o : Option (Pass L C (Event T))) → get_elem? (after acts).passes p ≡ o → due o ≡ 0
        by_pass_at none e = refl
        by_pass_at (some v) e = ap (λ (b : Bool). cond b 0 (cost_of v.call)) (is.idle v.line ∙ ap names.is_idle ((shows_all m x call_at is n acts low allowed).lines p v e) ∙ rests)

  -- a machine that has no loads besides makes none
  pub no_looks : (m.core.Reads → ⊥) → (acts : Acts L) → AllProper names m.core acts → in_all is_look acts ≡ 0
  no_looks never [] proper = refl
  no_looks never (a ∷ older) proper = omega (arith, one_look a.1 proper.0, no_looks never older proper.1)
    where
      one_look : (d : Doing L) → IsProper names m.core (played names m.core older) a.0 d → is_look d ≡ 0
      one_look (Begins first) p = refl
      one_look Steps p = refl
      one_look Looks p = absurd (never p)
      one_look Hears p = refl

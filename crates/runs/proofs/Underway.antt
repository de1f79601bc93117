-- An operation under way: the steps that its pass has made since it was begun are those of the pass's call in the pure machine.
use Rattle.std.proofs.Common.{◌≡◌, ◌⊎◌, ℕ, ◌+◌, ◌<◌, ◌==◌, Bool, true, false, not, cond, List, [], ◌∷◌, ◌++◌, append_assoc, append-nil, refl, sym, ap, ◌∙◌, subst, ⊎_elim, eq-eqb, arith}
use Rattle.std.proofs.lemmas.Bool.Decides.{eqb_tells}
use Rattle.std.specs.List.{AllByRecursion as Every}
use mathlib.Core.Option.{some}
use lib.ListN.{get_elem?}
use Rattle.bounded_model.specs.declared.history.Event.{Event}
use Rattle.machine.specs.Seats.{Acts}
use Rattle.machine.specs.Schedule.{Machine as Pure, Pass, State, Begin, Step, Schedule, run, start}
use Rattle.machine.specs.Bound.{is_busy, counted, own_steps}
use Rattle.running.specs.Machine.{Names, Machine}
use Rattle.running.specs.Acts.{Doing, Begins, Steps, Looks, Hears, is_step, is_begin, steps_in, begins_in, Now, placed, after_act, played, IsProper, AllProper, IsAllowed, Course}
use Rattle.running.proofs.Acts.{sum_append}
use Rattle.runs.specs.Runs.{Below, one, schedule_of, IsRunning, Shows}
use Rattle.runs.proofs.Link.{at_some, run_append, shows_all}
use Rattle.runs.proofs.Count.{begun_by, all_own, own_others, own_one, sum_by, sums_same}

every_older : {A : Type 0} (P : A → Type 0) (xs ys : List A) → Every P (xs ++ ys) → Every P ys
every_older P [] ys e = e
every_older P (x ∷ xs) ys e = every_older P xs ys e.1

module _ {L C : Type 0} (call : L → C) where
  schedule_append : (xs ys : Acts L) → schedule_of call (xs ++ ys) ≡ schedule_of call ys ++ schedule_of call xs
  schedule_append [] ys = sym (append-nil (schedule_of call ys))
  schedule_append (a ∷ xs) ys = ap (λ (s : Schedule C). s ++ one call a.0 a.1) (schedule_append xs ys) ∙ append_assoc (schedule_of call ys) (schedule_of call xs) (one call a.0 a.1)

none_of : (b : Bool) → ◌≡◌ {A = ℕ} (cond b 0 0) 0
none_of true = refl
none_of false = refl

-- Acts of which each does something, and in which pass p begins nothing: all its steps in them are of the call that it is in as they begin, also if
-- that call ends
module _ {T L O C : Type 0} {names : Names L O} (m : Machine T L O names) (x : Pure m.core.Memory L C (Event T)) (call_at : L → C) (is : IsRunning m x call_at) (p passes : ℕ) (known : p < passes) (older : Acts L) where
  abbrev from : State m.core.Memory L C (Event T)
  from = run x (schedule_of call_at older) (start x passes)

  abbrev own : Schedule C → ℕ
  own schedule = own_steps x p schedule from

  module _ (since : Acts L) (low : Below passes (since ++ older)) (allowed : Every (λ a. IsAllowed names m.core a.1) (since ++ older)) where
    abbrev on : Schedule C
    on = schedule_of call_at since

    on_is : run x on from ≡ run x (schedule_of call_at (since ++ older)) (start x passes)
    on_is = sym (run_append x (schedule_of call_at older) on (start x passes)) ∙ ap (λ (z : Schedule C). run x z (start x passes)) (sym (schedule_append call_at since older))

    in_call_still : names.is_idle ((played names m.core (since ++ older)).line p) ≡ false → is_busy x (get_elem? (run x on from).passes p) ≡ true
    in_call_still busy =
        let sh = shows_all m x call_at is passes (since ++ older) low allowed in
        let there = at_some (run x (schedule_of call_at (since ++ older)) (start x passes)).passes p (omega (arith, sh.many, known)) in
        ap (λ (z : State m.core.Memory L C (Event T)). is_busy x (get_elem? z.passes p)) on_is ∙ ap (is_busy x) there.1 ∙ ap not (is.idle there.0.line ∙ ap names.is_idle (sh.lines p there.0 there.1) ∙ busy)

    none_begun_on : begins_in p since ≡ 0 → sum_by x p begun_by on ≡ 0
    none_begun_on none_begun_by = sums_same x p call_at begun_by is_begin (λ first. refl) refl refl refl since ∙ none_begun_by

    one_more : (q : ℕ) (d : Doing L) → IsProper names m.core (played names m.core (since ++ older)) q d → cond (p == q) (is_begin d) 0 + begins_in p since ≡ 0 → own on ≡ steps_in p since
        → own (on ++ one call_at q d) ≡ cond (p == q) (is_step d) 0 + steps_in p since
    one_more q (Begins first) proper none_begun_by so_far = ⊎_elim
        (λ t. absurd (omega (arith, ap {B = ℕ} (λ (b : Bool). cond b 1 0) t.0, none_begun_by)))
        (λ t. omega (arith, ap {B = ℕ} (λ (b : Bool). cond b 0 0) t.0, own_others x p on q (Begin (call_at first)) from (λ e. t.1 (sym e)), so_far))
        (eqb_tells p q)
    one_more q Steps proper none_begun_by so_far = ⊎_elim
        (λ t. let busy = subst (λ (r : ℕ). names.is_idle ((played names m.core (since ++ older)).line r) ≡ false) (sym t.1) proper in
        let last = own_one x p on from (in_call_still busy) (none_begun_on (omega (arith, none_begun_by))) in
        omega (arith, ap {B = ℕ} (λ (b : Bool). cond b 1 0) t.0, subst (λ (r : ℕ). own (on ++ (r, Step) ∷ []) ≡ own on + 1) t.1 last, so_far))
        (λ t. omega (arith, ap {B = ℕ} (λ (b : Bool). cond b 1 0) t.0, own_others x p on q Step from (λ e. t.1 (sym e)), so_far))
        (eqb_tells p q)
    one_more q Looks proper none_begun_by so_far = omega (arith, none_of (p == q), ap own (append-nil on), so_far)
    one_more q Hears proper none_begun_by so_far = omega (arith, none_of (p == q), ap own (append-nil on), so_far)

  pub steps_all : (since : Acts L) → Below passes (since ++ older) → Every (λ a. IsAllowed names m.core a.1) (since ++ older) → AllProper names m.core (since ++ older) → begins_in p since ≡ 0 → own (schedule_of call_at since) ≡ steps_in p since
  steps_all [] low allowed proper none_begun_by = refl
  steps_all (a ∷ since) low allowed proper none_begun_by =
      one_more since low.1 allowed.1 a.0 a.1 proper.0 none_begun_by (steps_all since low.1 allowed.1 proper.1 (omega (arith, none_begun_by)))

module _ {T L O C : Type 0} {names : Names L O} (m : Machine T L O names) (x : Pure m.core.Memory L C (Event T)) (call_at : L → C) (is : IsRunning m x call_at) (p : ℕ) (before now : Acts L) (first l : L)
    (k : Course names m.core before now p first l) (passes : ℕ) (low : Below passes now) where
  abbrev older : Acts L
  older = (p, Begins first) ∷ before

  abbrev S : Type 0
  S = State m.core.Memory L C (Event T)

  abbrev s : S
  s = run x (schedule_of call_at older) (start x passes)

  abbrev run_on : Schedule C
  run_on = schedule_of call_at k.since

  ends_at : run x run_on s ≡ run x (schedule_of call_at now) (start x passes)
  ends_at = sym (run_append x (schedule_of call_at older) run_on (start x passes))
      ∙ ap (λ (z : Schedule C). run x z (start x passes)) (sym (schedule_append call_at k.since older) ∙ ap (schedule_of call_at) (sym k.is))

  low_older : Below passes older
  low_older = every_older (λ a. a.0 < passes) k.since older (subst (Below passes) k.is low)

  shows : Shows m x call_at passes (run x (schedule_of call_at now) (start x passes)) (played names m.core now)
  shows = shows_all m x call_at is passes now low k.allowed

  -- it is in a call
  still_busy : names.is_idle l ≡ false → is_busy x (get_elem? (run x run_on s).passes p) ≡ true
  still_busy busy =
      let there = at_some (run x (schedule_of call_at now) (start x passes)).passes p (omega (arith, shows.many, low_older.0)) in
      ap (λ (z : S). is_busy x (get_elem? z.passes p)) ends_at ∙ ap (is_busy x) there.1
      ∙ ap not (is.idle there.0.line ∙ ap names.is_idle (shows.lines p there.0 there.1 ∙ k.at) ∙ busy)

  -- the operation goes on, or each of the acts does something
  abbrev pub Counts : Type 0
  Counts = (names.is_idle l ≡ false) ⊎ AllProper names m.core now

  steps_so_far : names.is_idle l ≡ false → own_steps x p run_on s ≡ steps_in p k.since
  steps_so_far busy = all_own x p run_on s (still_busy busy) (sums_same x p call_at begun_by is_begin (λ first. refl) refl refl refl k.since ∙ k.once)
      ∙ sums_same x p call_at (counted x) is_step (λ first. refl) refl refl refl k.since

  pub steps_are_own : Counts → own_steps x p run_on s ≡ steps_in p k.since
  steps_are_own counts = ⊎_elim steps_so_far
      (λ proper. steps_all m x call_at is p passes low_older.0 older k.since (subst (Below passes) k.is low) (subst (Every (λ a. IsAllowed names m.core a.1)) k.is k.allowed) (subst (AllProper names m.core) k.is proper) k.once)
      counts

  abbrev begun_now : Now names m.core → Now names m.core
  begun_now y = record { memory = y.memory; line = placed y.line p first; history = y.history }

  pub line_begun : (y : Now names m.core) → names.is_idle (y.line p) ≡ true → (after_act names m.core y p (Begins first)).line p ≡ first
  line_begun y e = ap (λ (b : Bool). (cond b (begun_now y) y).line p) e ∙ ap (λ (b : Bool). cond b first (y.line p)) (eq-eqb p p refl)

  -- and as it was begun its pass was at its first line
  pub begins_at : (v : Pass L C (Event T)) → get_elem? s.passes p ≡ some v → v.line ≡ first
  begins_at v at = (shows_all m x call_at is passes older low_older (every_older (λ a. IsAllowed names m.core a.1) k.since older (subst (Every (λ a. IsAllowed names m.core a.1)) k.is k.allowed))).lines p v at ∙ line_begun (played names m.core before) k.rested

  -- The same from any point of the operation on, of the acts `later` behind it
  module _ (later earlier : Acts L) (cut : k.since ≡ later ++ earlier) where
    abbrev behind : Acts L
    behind = earlier ++ older

    abbrev point : S
    point = run x (schedule_of call_at behind) (start x passes)

    ends_later : run x (schedule_of call_at later) point ≡ run x (schedule_of call_at now) (start x passes)
    ends_later = sym (run_append x (schedule_of call_at behind) (schedule_of call_at later) (start x passes))
        ∙ ap (λ (z : Schedule C). run x z (start x passes))
        (sym (schedule_append call_at later behind) ∙ ap (schedule_of call_at) (sym (append_assoc later earlier older) ∙ ap (λ (a : Acts L). a ++ older) (sym cut) ∙ sym k.is))

    busy_later : names.is_idle l ≡ false → is_busy x (get_elem? (run x (schedule_of call_at later) point).passes p) ≡ true
    busy_later busy =
        let there = at_some (run x (schedule_of call_at now) (start x passes)).passes p (omega (arith, shows.many, low_older.0)) in
        ap (λ (z : S). is_busy x (get_elem? z.passes p)) ends_later ∙ ap (is_busy x) there.1
        ∙ ap not (is.idle there.0.line ∙ ap names.is_idle (shows.lines p there.0 there.1 ∙ k.at) ∙ busy)

    pub none_begun : (begins_in p later ≡ 0) × (begins_in p earlier ≡ 0)
    none_begun = let sum = sum_append is_begin p later earlier in let once = ap (begins_in p) (sym cut) ∙ k.once in (omega (arith, sum, once), omega (arith, sum, once))

    later_so_far : names.is_idle l ≡ false → own_steps x p (schedule_of call_at later) point ≡ steps_in p later
    later_so_far busy = all_own x p (schedule_of call_at later) point (busy_later busy) (sums_same x p call_at begun_by is_begin (λ first. refl) refl refl refl later ∙ none_begun.0)
        ∙ sums_same x p call_at (counted x) is_step (λ first. refl) refl refl refl later

    cut_now : now ≡ later ++ behind
    cut_now = k.is ∙ ap (λ (a : Acts L). a ++ older) cut ∙ append_assoc later earlier older

    pub later_are_own : Counts → own_steps x p (schedule_of call_at later) point ≡ steps_in p later
    later_are_own counts = ⊎_elim later_so_far
        (λ proper. steps_all m x call_at is p passes low_older.0 behind later (subst (Below passes) cut_now low) (subst (Every (λ a. IsAllowed names m.core a.1)) cut_now k.allowed) (subst (AllProper names m.core) cut_now proper) none_begun.0)
        counts

    -- there its pass was at the line that its acts had led it to
    pub at_point : (v : Pass L C (Event T)) → get_elem? point.passes p ≡ some v → v.line ≡ (played names m.core behind).line p
    at_point v at =
        let split : now ≡ later ++ behind = k.is ∙ ap (λ (a : Acts L). a ++ older) cut ∙ append_assoc later earlier older in
        (shows_all m x call_at is passes behind (every_older (λ a. a.0 < passes) later behind (subst (Below passes) split low))
        (every_older (λ a. IsAllowed names m.core a.1) later behind (subst (Every (λ a. IsAllowed names m.core a.1)) split k.allowed))).lines p v at

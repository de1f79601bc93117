-- A machine's rule holds in every schedule, and with it what each line says of the histories that its
-- pass had seen at the begin of its call and has seen by now. Proved once, for every machine.
use Rattle.std.proofs.Common.{◌≡◌, ◌≢◌, ℕ, zero, suc, ◌+◌, true, false, List, [], ◌∷◌, ◌++◌, map, set, replicate, refl, sym, ap, ◌∙◌, subst, ⊎_elim}
use Rattle.std.proofs.lemmas.List.{map-set}
use mathlib.Core.Option.{Option, none, some}
use lib.ListN.{get_elem?}
use Rattle.bounded_model.specs.declared.history.Event.{Event}
use Rattle.bounded_model.specs.Histories.{Later, own}
use Rattle.bounded_model.proofs.Histories.{Later-refl, Later-trans, own-between}
use Rattle.machine.specs.Schedule.{Machine, Pass, State, stepped, begun, start, first_passes, having_begun, having_stepped}
use Rattle.machine.specs.Seen.{Knows}
use Rattle.machine.proofs.Ahead.{Ahead}
use Rattle.machine.proofs.Scheduled.{Holds, first_lines, start_at}
use Rattle.machine.proofs.Sums.{at_set, at_map}

-- A rule of memories, the lines of all passes and histories; and a story, what the line of pass p says,
-- which began this call at the history `begun`, and has seen `seen` by now
pub record Told {T M L C : Type 0} (x : Machine M L C (Event T)) (Rule : M → List L → List (Event T) → Type 0) (Story : ℕ → Option C → L → List (Event T) → List (Event T) → Type 0) : Type 0 where
  -- a begin keeps the rule and starts a story
  pub begins : (m : M) (lines : List L) (h : List (Event T)) (p : ℕ) (l : L) (call : C) → Rule m lines h → get_elem? lines p ≡ some l → x.is_idle l ≡ true → Rule m (set lines p (x.starts call l)) h
  pub begins_story : (p : ℕ) (l : L) (call : C) (seen : List (Event T)) → x.is_idle l ≡ true → Story p (some call) (x.starts call l) seen seen
  -- a step keeps the rule and goes on with it
  pub steps : (m : M) (lines : List L) (h : List (Event T)) (p : ℕ) (l : L) → Rule m lines h → get_elem? lines p ≡ some l → x.is_idle l ≡ false
      → Rule (x.step m p l).memory (set lines p (x.step m p l).line) ((x.step m p l).events ++ h)
  pub steps_story : (m : M) (lines : List L) (h : List (Event T)) (p : ℕ) (call : Option C) (l : L) (b seen : List (Event T)) → Rule m lines h → get_elem? lines p ≡ some l → x.is_idle l ≡ false
      → Later b seen → Ahead p seen h → Story p call l b seen → Story p call (x.step m p l).line b ((x.step m p l).events ++ h)
  -- its events are the pass's own
  pub apart : (m : M) (h : List (Event T)) (p q : ℕ) (l : L) → q ≢ p → own q ((x.step m p l).events ++ h) ≡ own q h

module _ {T M L C : Type 0} (x : Machine M L C (Event T)) (Rule : M → List L → List (Event T) → Type 0) (Story : ℕ → Option C → L → List (Event T) → List (Event T) → Type 0) where
  abbrev lines_of : List (Pass L C (Event T)) → List L
  lines_of passes = map (λ v. v.line) passes

  pub here : (s : State M L C (Event T)) (p : ℕ) (v : Pass L C (Event T)) → get_elem? s.passes p ≡ some v → get_elem? (lines_of s.passes) p ≡ some v.line
  here s p v e = at_map (λ (u : Pass L C (Event T)). u.line) s.passes p v e

  -- the rule, without the stories
  abbrev pub Rules : State M L C (Event T) → Type 0
  Rules s = Rule s.memory (map (λ v. v.line) s.passes) s.history

  pub rule_holds : Told x Rule Story → Holds x Rules
  rule_holds t = record {
    begins = λ s p v k e idle call.
        let u : Pass L C (Event T) = having_begun x s v call in
        with_line s u s.memory s.history p (t.begins s.memory (lines_of s.passes) s.history p v.line call k (here s p v e) idle);
    steps = λ s p v k e busy.
        let o = x.step s.memory p v.line in
        let u : Pass L C (Event T) = having_stepped x s v o in
        with_line s u o.memory (o.events ++ s.history) p (t.steps s.memory (lines_of s.passes) s.history p v.line k (here s p v e) busy);
  }
    where
      with_line : (s : State M L C (Event T)) (u : Pass L C (Event T)) (m : M) (h : List (Event T)) (p : ℕ) → Rule m (set (lines_of s.passes) p u.line) h → Rule m (lines_of (set s.passes p u)) h
      with_line s u m h p k = subst (λ (ls : List L). Rule m ls h) (sym (map-set (λ (w : Pass L C (Event T)). w.line) s.passes p u)) k

  -- what holds of the state of the machine between any two acts
  pub record Stays (s : State M L C (Event T)) : Type 0 where
    pub rule : Rules s
    pub knows : (p : ℕ) (v : Pass L C (Event T)) → get_elem? s.passes p ≡ some v → Knows p v s.history
    pub story : (p : ℕ) (v : Pass L C (Event T)) → get_elem? s.passes p ≡ some v → Story p v.call v.line v.begun v.seen

  -- what a pass has seen, and what has happened since
  pub ahead : (p : ℕ) (v : Pass L C (Event T)) (h : List (Event T)) → Knows p v h → Ahead p v.seen h
  ahead p v h k = record { rest = k.now.more; is = k.now.is; none_own = own-between p k.now.more v.seen (ap (own p) (sym k.now.is) ∙ k.own_events) }

  module _ (t : Told x Rule Story) (s : State M L C (Event T)) (p : ℕ) (v : Pass L C (Event T)) (k : Stays s) (e : get_elem? s.passes p ≡ some v) where
    -- pass p becomes u, in a longer history
    one_changed : (u : Pass L C (Event T)) (m : M) (h : List (Event T)) → Rule m (lines_of (set s.passes p u)) h → Knows p u h → Story p u.call u.line u.begun u.seen
        → ((q : ℕ) (w : Pass L C (Event T)) → q ≢ p → Knows q w s.history → Knows q w h) → Stays (record { memory = m; passes = set s.passes p u; history = h })
    one_changed u m h rule mine told others = record {
      rule = rule;
      knows = λ q w at. ⊎_elim
          (λ a. subst (λ (y : ℕ). Knows y w h) (sym a.0) (subst (λ (y : Pass L C (Event T)). Knows p y h) a.1 mine))
          (λ a. others q w a.0 (k.knows q w a.1))
          (at_set s.passes p q u w at);
      story = λ q w at. ⊎_elim
          (λ a. subst (λ (y : ℕ). Story y w.call w.line w.begun w.seen) (sym a.0) (subst (λ (y : Pass L C (Event T)). Story p y.call y.line y.begun y.seen) a.1 told))
          (λ a. k.story q w a.1)
          (at_set s.passes p q u w at);
    }

    begun_stays : x.is_idle v.line ≡ true → (call : C) → Stays (begun x s p v call)
    begun_stays idle call =
        one_changed (having_begun x s v call) s.memory s.history
        ((rule_holds t).begins s p v k.rule e idle call)
        (record { before = Later-refl s.history; now = Later-refl s.history; own_events = refl })
        (t.begins_story p v.line call s.history idle)
        (λ q w ne old. old)

    stepped_stays : x.is_idle v.line ≡ false → Stays (stepped x s p v (x.step s.memory p v.line))
    stepped_stays busy =
        let o = x.step s.memory p v.line in
        let newer : List (Event T) = o.events ++ s.history in
        let know = k.knows p v e in
        let grows : Later s.history newer = record { more = o.events; is = refl } in
        one_changed (having_stepped x s v o) o.memory newer
        ((rule_holds t).steps s p v k.rule e busy)
        (record { before = Later-trans know.before (Later-trans know.now grows); now = Later-refl newer; own_events = refl })
        (t.steps_story s.memory (lines_of s.passes) s.history p v.call v.line v.begun v.seen k.rule (here s p v e) busy know.before (ahead p v s.history know) (k.story p v e))
        (λ q w ne old. record { before = old.before; now = Later-trans old.now grows; own_events = t.apart s.memory s.history p q v.line ne ∙ old.own_events })

  pub stays_holds : Told x Rule Story → Holds x Stays
  stays_holds t = record { begins = λ s p v k e. begun_stays t s p v k e; steps = λ s p v k e. stepped_stays t s p v k e }

  lines_first : (p k : ℕ) → lines_of (first_passes x p k) ≡ first_lines x p k
  lines_first p zero = refl
  lines_first p (suc k) = ap (λ (ls : List L). x.rest p ∷ ls) (lines_first (p + 1) k)

  -- they are alike where each pass starts at one line
  alike : (l : L) → ((p : ℕ) → x.rest p ≡ l) → (p k : ℕ) → replicate k l ≡ first_lines x p k
  alike l same p zero = refl
  alike l same p (suc k) = λ i. sym (same p) i ∷ alike l same (p + 1) k i

  pub start_rules : (passes : ℕ) → Rule x.first (first_lines x 0 passes) [] → Rules (start x passes)
  start_rules passes rule = subst (λ (ls : List L). Rule x.first ls []) (sym (lines_first 0 passes)) rule

  pub start_stays : (passes : ℕ) → Rule x.first (first_lines x 0 passes) [] → ((p : ℕ) → Story p none (x.rest p) [] []) → Stays (start x passes)
  start_stays passes rule story = record {
    rule = start_rules passes rule;
    knows = λ p v e. subst (λ (u : Pass L C (Event T)). Knows p u []) (start_at x passes p v e) (record { before = Later-refl []; now = Later-refl []; own_events = refl });
    story = λ p v e. subst (λ (u : Pass L C (Event T)). Story p u.call u.line u.begun u.seen) (start_at x passes p v e) (story p);
  }

  -- the same where each pass starts at one line
  module _ (l : L) (same : (p : ℕ) → x.rest p ≡ l) (passes : ℕ) (rule : Rule x.first (replicate passes l) []) where
    pub start_rules_alike : Rules (start x passes)
    start_rules_alike = start_rules passes (subst (λ (ls : List L). Rule x.first ls []) (alike l same 0 passes) rule)

    pub start_stays_alike : ((p : ℕ) → Story p none l [] []) → Stays (start x passes)
    start_stays_alike story = start_stays passes (subst (λ (ls : List L). Rule x.first ls []) (alike l same 0 passes) rule) (λ p. subst (λ (k : L). Story p none k [] []) (sym (same p)) (story p))

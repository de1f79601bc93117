-- A step of a pass, a load that belongs to no line, a cut and a union of seats, after the acts that led to a table.
use Rattle.std.proofs.Common.{◌≡◌, ◌≢◌, ℕ, ◌+◌, ◌<◌, ◌≤◌, ◌⊎◌, inl, inr, ⊎_elim, Bool, true, false, cond, zero, suc, lt_of_not-le, List, [], ◌∷◌, ◌++◌, append_assoc, append-nil, length, set, refl, sym, ap, ◌∙◌, subst, ne_eqb, eq-eqb, arith}
use Rattle.std.proofs.lemmas.Bool.{false≢true}
use Rattle.std.specs.List.{AllByRecursion as Every}
use mathlib.Core.Option.{some, some-injective, some-ne-none}
use lib.ListN.{get_elem?}
use Rattle.bounded_model.specs.declared.history.Event.{Event}
use Rattle.bounded_model.specs.declared.views.Answered.{Answered}
use Rattle.bounded_model.specs.declared.views.Answered.TheVariants.{Heard}
use Rattle.bounded_model.specs.declared.views.PassView.{PassView}
use Rattle.bounded_model.specs.declared.views.RootView.{RootView}
use Rattle.bounded_model.specs.declared.views.Work.{Work}
use Rattle.bounded_model.specs.Histories.{own as own_events}
use Rattle.machine.specs.declared.seats.Begun.{Begun}
use Rattle.machine.specs.declared.seats.Handed.{Handed}
use Rattle.machine.specs.declared.seats.View.{View}
use Rattle.machine.specs.declared.seats.View.TheVariants.{AtRoot, AtPass, AtMeeting, AtNote, AtHearing, Left}
use Rattle.machine.specs.Seats.{Acts, Extends, Owns, IsJoined, Knows, Seated, at_rest, new_pass, rested, stepped, hearing, looked, left_of, right_of, both_of, first_view, nothing}
use Rattle.machine.proofs.Sums.{at_set}
use Rattle.machine.proofs.Scheduled.{set_other, set_same}
use Rattle.machine.proofs.Tests.{same_or_not}
use Rattle.machine.proofs.Seating.{at_end, left_owns, both_owns, only_first}
use Rattle.machine.proofs.SeatedCalls.{KnowsActs}
use Rattle.running.specs.Machine.{Names, Machine, IsQuiet}
use Rattle.running.specs.Laws.{Laws}
use Rattle.running.specs.Rule.{line_now, going_now, quiet, view_after, MayCut, MayLook, MayUnite}
use Rattle.running.specs.Acts.{Doing, Begins, Steps, Looks, Hears, placed, counted, sum_of, made, Now, having_stepped, after_act, played, IsAllowed, AllProper, AllFresh, answers_at, answers_after, answers_in, HasDone, Worked, Counts, Seen, Knew, Sees, IsSame, IsAt, Follows, IsOwned, Led, begun_acts, acts_after}

-- a seat that is changed, and another
set_there : {A : Type 0} (xs : List A) (i : ℕ) (x y : A) → get_elem? xs i ≡ some x → get_elem? (set xs i y) i ≡ some y
set_there xs i x y e = set_same xs i x y e

nothing_more : (k : ℕ) → 0 + k ≡ k
nothing_more k = omega arith

module _ {L : Type 0} where
  placed_same : (line : ℕ → L) (p : ℕ) (l : L) → placed line p l p ≡ l
  placed_same line p l = ap (λ (b : Bool). cond b l (line p)) (eq-eqb p p refl)

  placed_other : (line : ℕ → L) (p : ℕ) (l : L) (q : ℕ) → q ≢ p → placed line p l q ≡ line q
  placed_other line p l q ne = ap (λ (b : Bool). cond b l (line q)) (ne_eqb q p ne)

  module _ (f : Doing L → ℕ) where
    pub sum_same : (x : ℕ) (d : Doing L) (acts : Acts L) → sum_of f x ((x, d) ∷ acts) ≡ f d + sum_of f x acts
    sum_same x d acts = ap (λ (b : Bool). cond b (f d) 0 + sum_of f x acts) (eq-eqb x x refl)

    pub sum_append : (x : ℕ) (xs ys : Acts L) → sum_of f x (xs ++ ys) ≡ sum_of f x xs + sum_of f x ys
    sum_append x [] ys = sym (nothing_more (sum_of f x ys))
    sum_append x (a ∷ xs) ys = let r = sum_append x xs ys in omega arith

    pub sum_other : (x p : ℕ) (d : Doing L) (acts : Acts L) → x ≢ p → sum_of f x ((p, d) ∷ acts) ≡ sum_of f x acts
    sum_other x p d acts ne = ap (λ (b : Bool). cond b (f d) 0 + sum_of f x acts) (ne_eqb x p ne) ∙ nothing_more (sum_of f x acts)

module _ {T L O : Type 0} {names : Names L O} (m : Machine T L O names) where
  abbrev N : Type 0
  N = Now names m.core

  abbrev state : Acts L → N
  state acts = played names m.core acts

  abbrev Fits : Acts L → View T L → Type 0
  Fits acts v = Follows names m.core (state acts).line acts v

  abbrev Allowed : Acts L → Type 0
  Allowed acts = Every (λ a. IsAllowed names m.core a.1) acts

  abbrev Proper : Acts L → Type 0
  Proper acts = AllProper names m.core acts

  abbrev Fresh : Acts L → Type 0
  Fresh acts = AllFresh names m.core acts

  -- a line is at rest as it is once its operation has ended
  pub idle_quiet : (l : L) → IsQuiet names m.core l → names.is_idle l ≡ true
  idle_quiet l q = ap names.is_idle (sym q) ∙ names.rests l

  quiet_idle : (l : L) → names.is_idle (quiet names l) ≡ names.is_idle l
  quiet_idle l = by_test (names.is_idle l) refl
    where
      by_test : (b : Bool) → names.is_idle l ≡ b → names.is_idle (cond b (names.quiet l) l) ≡ b
      by_test true e = names.rests l
      by_test false e = e

  quiet_same : (l : L) → IsSame names m.core l (quiet names l)
  quiet_same l = record { idle = sym (quiet_idle l); busy = λ busy. sym (ap (λ (b : Bool). cond b (names.quiet l) l) (sym (quiet_idle l) ∙ busy)) }

  -- an idle pass is at an idle line
  idle_same : (k l : L) → names.is_idle k ≡ true → names.is_idle l ≡ true → IsSame names m.core k l
  idle_same k l e f = record { idle = e ∙ sym f; busy = λ busy. absurd (false≢true (sym busy ∙ f)) }

  -- a seat changes to one that answers for the same numbers at least
  module _ (views : List (View T L)) (id : ℕ) (v w : View T L) (mine : get_elem? views id ≡ some v) where
    pub owned_set : ((x : ℕ) → Owns v x → Owns w x) → (x : ℕ) → IsOwned names m.core views x → IsOwned names m.core (set views id w) x
    owned_set keeps x o = ⊎_elim
        (λ e. record { seat = id; view = w; there = set_there views id v w mine; owns = keeps x (subst (λ (u : View T L). Owns u x) (some-injective o.view v (sym o.there ∙ ap (get_elem? views) e ∙ mine)) o.owns) })
        (λ ne. record { seat = o.seat; view = o.view; there = set_other views id o.seat w (λ e. ne (sym e)) ∙ o.there; owns = o.owns })
        (same_or_not o.seat id)

  pub front_there : (xs ys : List (View T L)) (i : ℕ) (v : View T L) → get_elem? xs i ≡ some v → get_elem? (xs ++ ys) i ≡ some v
  front_there [] ys i v e = absurd (some-ne-none v (sym e))
  front_there (x ∷ xs) ys zero v e = e
  front_there (x ∷ xs) ys (suc i) v e = front_there xs ys i v e

  pub last_there : (xs : List (View T L)) (v : View T L) → get_elem? (xs ++ v ∷ []) (length xs) ≡ some v
  last_there [] v = refl
  last_there (x ∷ xs) v = last_there xs v

  looked_keeps : (h : List (Event T)) (acts : Acts L) (v : View T L) (x : ℕ) → Owns v x → Owns (looked h acts v) x
  looked_keeps h acts (AtRoot r ks heard l) x o = o
  looked_keeps h acts v x o = o

  same_or_less : (a b : ℕ) → (a ≤ b) → (b ≡ a) ⊎ (a + 1 ≤ b)
  same_or_less a b h = ⊎_elim (λ e. inl e) (λ ne. inr (let l : a < b = lt_of_not-le (λ le. ne (omega arith)) in omega arith)) (same_or_not b a)

  splits_owns : (v : View T L) (x : ℕ) → Owns v x → Owns (left_of names.shares v) x ⊎ Owns (right_of names.shares v) x
  splits_owns (AtRoot r ks heard l) x (inl le) = ⊎_elim (λ e. inr e) (λ l. inl (inl l)) (same_or_less r.given x le)
  splits_owns (AtRoot r ks heard l) x (inr j) = inl (inr j)
  splits_owns (AtPass p begun l) x o = inl o
  splits_owns (AtMeeting p xs k q ys l) x o = o
  splits_owns (AtNote told) x o = absurd o
  splits_owns (AtHearing p xs l told) x o = inl o
  splits_owns Left x o = absurd o

  pub both_keeps : (v w : View T L) (x : ℕ) → Owns v x → Owns (both_of names.shares v w) x
  both_keeps (AtRoot r ks heard l) (AtPass p begun k) x (inl le) = inl le
  both_keeps (AtRoot r ks heard l) (AtPass p begun k) x (inr j) = inr (inr j)
  both_keeps (AtPass p begun l) (AtPass q begun' l') x o = inl o
  both_keeps (AtPass p begun l) (AtNote told) x o = o
  both_keeps v w x o = o

  -- what a seat takes in, where it may
  pub root_takes : (v w : View T L) (r : RootView T) (ks : Acts L) (q : PassView T) (b : Begun T L) (k l : L) → v ≡ AtRoot r ks nothing k → w ≡ AtPass q b l → (x : ℕ) → Owns w x → Owns (both_of names.shares v w) x
  root_takes v w r ks q b k l ev ew x o = subst (λ (u : View T L). Owns (both_of names.shares u w) x) (sym ev) (subst (λ (u : View T L). Owns u x → Owns (both_of names.shares (AtRoot r ks nothing k) u) x) (sym ew) (λ o. inr (inl o)) o)

  pub pass_takes : (v w : View T L) (p q : PassView T) (a b : Begun T L) (k l : L) → v ≡ AtPass p a k → w ≡ AtPass q b l → (x : ℕ) → Owns w x → Owns (both_of names.shares v w) x
  pass_takes v w p q a b k l ev ew x o = subst (λ (u : View T L). Owns (both_of names.shares u w) x) (sym ev) (subst (λ (u : View T L). Owns u x → Owns (both_of names.shares (AtPass p a k) u) x) (sym ew) (λ o. inr o) o)

  pub note_takes : (v w : View T L) (told : Handed T L) → w ≡ AtNote told → (x : ℕ) → Owns w x → Owns (both_of names.shares v w) x
  note_takes v w told ew x o = absurd (subst (λ (u : View T L). Owns u x → ⊥) (sym ew) (λ o. o) o)

  abbrev Replies : ℕ → Acts L → List (Answered T)
  Replies x acts = answers_in names m.core x acts

  replies_same : (x : ℕ) (d : Doing L) (acts : Acts L) → Replies x ((x, d) ∷ acts) ≡ answers_after names m.core (state acts) x d (Replies x acts)
  replies_same x d acts = ap (λ (b : Bool). cond b (answers_after names m.core (state acts) x d (Replies x acts)) (Replies x acts)) (eq-eqb x x refl)

  replies_other : (x p : ℕ) (d : Doing L) (acts : Acts L) → x ≢ p → Replies x ((p, d) ∷ acts) ≡ Replies x acts
  replies_other x p d acts ne = ap (λ (b : Bool). cond b (answers_after names m.core (state acts) p d (Replies x acts)) (Replies x acts)) (ne_eqb x p ne)

  -- acts of pass p change nothing of others
  pub record Spares (p : ℕ) (acts acts' : Acts L) : Type 0 where
    newer : Acts L
    is : acts' ≡ newer ++ acts
    lines : (x : ℕ) → x ≢ p → (state acts').line x ≡ (state acts).line x
    counts : (f : Doing L → ℕ) (x : ℕ) → x ≢ p → sum_of f x acts' ≡ sum_of f x acts
    replies : (x : ℕ) → x ≢ p → Replies x acts' ≡ Replies x acts

  still_done : (p : ℕ) (acts acts' : Acts L) → Spares p acts acts' → (x steps : ℕ) (answers : List (Answered T)) → x ≢ p → HasDone names m.core acts x steps answers → HasDone names m.core acts' x steps answers
  still_done p acts acts' sp x steps answers ne d = record { steps_are = d.steps_are ∙ sym (sp.counts counted x ne); answers_are = d.answers_are ∙ sym (sp.replies x ne) }

  still_worked : (p : ℕ) (acts acts' : Acts L) → Spares p acts acts' → (account : List (ℕ × List (Event T))) → ((x : ℕ) → IsJoined x account → x ≢ p) → (works : List (Work T))
      → Every (Worked names m.core acts account) works → Every (Worked names m.core acts' account) works
  still_worked p acts acts' sp account off [] d = tt
  still_worked p acts acts' sp account off (w ∷ works) d = ((d.0.0, still_done p acts acts' sp w.number w.steps w.answers (off w.number d.0.0) d.0.1), still_worked p acts acts' sp account off works d.1)

  worked_more : (acts : Acts L) (account : List (ℕ × List (Event T))) (a : ℕ × List (Event T)) (works : List (Work T)) → Every (Worked names m.core acts account) works → Every (Worked names m.core acts (a ∷ account)) works
  worked_more acts account a [] d = tt
  worked_more acts account a (w ∷ works) d = ((inr d.0.0, d.0.1), worked_more acts account a works d.1)

  still_seen : (p : ℕ) (acts acts' : Acts L) → Spares p acts acts' → (now : Acts L) (x : ℕ) → x ≢ p → Seen names m.core acts now x → Seen names m.core acts' now x
  still_seen p acts acts' sp now x ne s = record {
    others = sp.newer ++ s.others;
    is = sp.is ∙ ap (λ (k : Acts L). sp.newer ++ k) s.is ∙ sym (append_assoc sp.newer s.others now);
    same = λ f none. sp.counts f x ne ∙ s.same f none;
  }

  still_knew : (p : ℕ) (acts acts' : Acts L) → Spares p acts acts' → (now : Acts L) (x : ℕ) → x ≢ p → Knew names m.core acts now x → Knew names m.core acts' now x
  still_knew p acts acts' sp now x ne s = record {
    others = sp.newer ++ s.others;
    is = sp.is ∙ ap (λ (k : Acts L). sp.newer ++ k) s.is ∙ sym (append_assoc sp.newer s.others now);
    same = λ f none deaf. sp.counts f x ne ∙ s.same f none deaf;
  }

  still_extends : (p : ℕ) (acts acts' kept : Acts L) → Spares p acts acts' → Extends kept acts → Extends kept acts'
  still_extends p acts acts' kept sp e = record { more = sp.newer ++ e.more; is = sp.is ∙ ap (λ (k : Acts L). sp.newer ++ k) e.is ∙ sym (append_assoc sp.newer e.more kept) }

  -- what a pass knows is an older part of the acts
  knew_part : (acts now : Acts L) (x : ℕ) → Knew names m.core acts now x → Extends now acts
  knew_part acts now x k = record { more = k.others; is = k.is }

  -- a pass that has done nothing may be given any older part of them
  knew_any : (acts kept : Acts L) (x : ℕ) → Knew names m.core acts [] x → Extends kept acts → Knew names m.core acts kept x
  knew_any acts kept x k e = record {
    others = e.more;
    is = e.is;
    same = λ f none deaf. let a : sum_of f x acts ≡ 0 = k.same f none deaf in let b : sum_of f x acts ≡ sum_of f x e.more + sum_of f x kept = ap (sum_of f x) e.is ∙ sum_append f x e.more kept in omega (arith, a, b);
  }

  knew_all : (acts : Acts L) (x : ℕ) → Knew names m.core acts acts x
  knew_all acts x = record { others = []; is = refl; same = λ f none deaf. refl }

  pub spared : (p : ℕ) (acts acts' : Acts L) → Spares p acts acts' → (v : View T L) → ((x : ℕ) → Owns v x → x ≢ p) → Fits acts v → Fits acts' v
  spared p acts acts' sp v off f = record { lines = λ x o. subst (λ (k : L). IsAt names m.core k v) (sym (sp.lines x (off x o))) (f.lines x o); counts = same v off f.counts; sees = seen v off f.sees }
    where
      same : (v : View T L) → ((x : ℕ) → Owns v x → x ≢ p) → Counts names m.core acts v → Counts names m.core acts' v
      same (AtRoot r ks heard l) off c = (λ x le. still_done p acts acts' sp x 0 [] (off x (inl le)) (c.0 x le), still_worked p acts acts' sp r.account (λ x j. off x (inr j)) r.works c.1)
      same (AtPass q begun l) off c = still_done p acts acts' sp q.number q.steps q.answers (off q.number refl) c
      same (AtMeeting q xs k q' ys l) off c = (still_done p acts acts' sp q.number q.steps q.answers (off q.number (inl refl)) c.0, still_done p acts acts' sp q'.number q'.steps q'.answers (off q'.number (inr refl)) c.1)
      same (AtNote told) off c = tt
      same (AtHearing q xs l told) off c = still_done p acts acts' sp q.number q.steps q.answers (off q.number refl) c
      same Left off c = tt

      seen : (v : View T L) → ((x : ℕ) → Owns v x → x ≢ p) → Sees names m.core acts v → Sees names m.core acts' v
      seen (AtPass q begun l) off c = (λ busy. still_seen p acts acts' sp begun.now q.number (off q.number refl) (c.0 busy), still_knew p acts acts' sp begun.now q.number (off q.number refl) c.1)
      seen (AtRoot r ks heard l) off c = (λ x le. still_knew p acts acts' sp [] x (off x (inl le)) (c.0 x le), still_extends p acts acts' ks sp c.1, still_extends p acts acts' heard.acts sp c.2)
      seen (AtMeeting q xs k q' ys l) off c = (c.0, still_knew p acts acts' sp xs q.number (off q.number (inl refl)) c.1, still_knew p acts acts' sp ys q'.number (off q'.number (inr refl)) c.2)
      seen (AtNote told) off c = still_extends p acts acts' told.acts sp c
      seen (AtHearing q xs l told) off c = (c.0, still_knew p acts acts' sp xs q.number (off q.number refl) c.1, still_extends p acts acts' told.acts sp c.2)
      seen Left off c = tt

  -- a pass that is at this line, or begins an operation there, makes a step
  module _ (x : ℕ) (l : L) (o : O) (acts : Acts L) (h : List (Event T)) where
    abbrev s : N
    s = state acts

    abbrev now : L
    now = line_now names o l

    abbrev began_by : Acts L
    began_by = begun_acts names m.core x l now acts

    abbrev t : N
    t = state began_by

    abbrev pub acts' : Acts L
    acts' = acts_after names m.core x l now acts

    pub busy_now : names.is_idle now ≡ false
    busy_now = by_test (names.is_idle l) refl
      where
        by_test : (b : Bool) → names.is_idle l ≡ b → names.is_idle (cond b (names.first o l) l) ≡ false
        by_test true e = names.starts o l
        by_test false e = e

    pub record Began (k : Acts L) : Type 0 where
      memory : (state k).memory ≡ s.memory
      history : (state k).history ≡ s.history
      line : (state k).line x ≡ now
      spares : Spares x acts k
      allowed : Allowed k
      proper : Proper k
      counts : (f : Doing L → ℕ) → f (Begins now) ≡ 0 → sum_of f x k ≡ sum_of f x acts
      replies : Replies x k ≡ Replies x acts

    module _ (at : IsSame names m.core (s.line x) l) (allowed : Allowed acts) (proper : Proper acts) where
      same_idle : names.is_idle (s.line x) ≡ names.is_idle l
      same_idle = at.idle

      abbrev begun_state : N
      begun_state = record { memory = s.memory; line = placed s.line x now; history = s.history }

      began : Began began_by
      began = by_test (names.is_idle l) refl
        where
          by_test : (b : Bool) → names.is_idle l ≡ b → Began (cond b ((x, Begins now) ∷ acts) acts)
          by_test true e =
              let is : after_act names m.core s x (Begins now) ≡ begun_state = ap (λ (b : Bool). cond b begun_state s) (same_idle ∙ e) in
              record {
                memory = ap (λ (k : N). k.memory) is;
                history = ap (λ (k : N). k.history) is;
                line = ap (λ (k : N). k.line x) is ∙ placed_same s.line x now;
                spares = record { newer = (x, Begins now) ∷ []; is = refl; lines = λ y ne. ap (λ (k : N). k.line y) is ∙ placed_other s.line x now y ne; counts = λ f y ne. sum_other f y x (Begins now) acts ne; replies = λ y ne. replies_other y x (Begins now) acts ne };
                allowed = ((o, l, ap (λ (b : Bool). cond b (names.first o l) l) e), allowed);
                proper = (same_idle ∙ e, proper);
                counts = λ f none. sum_same f x (Begins now) acts ∙ ap (λ (k : ℕ). k + sum_of f x acts) none ∙ nothing_more (sum_of f x acts);
                replies = replies_same x (Begins now) acts;
              }
          by_test false e = record {
            memory = refl;
            history = refl;
            line = at.busy e ∙ sym (ap (λ (b : Bool). cond b (names.first o l) l) e);
            spares = record { newer = []; is = refl; lines = λ y ne. refl; counts = λ f y ne. refl; replies = λ y ne. refl };
            allowed = allowed;
            proper = proper;
            counts = λ f none. refl;
            replies = refl;
          }

      stepped_so : after_act names m.core t x Steps ≡ having_stepped names m.core t x (t.line x)
      stepped_so = ap (λ (b : Bool). cond b t (having_stepped names m.core t x (t.line x))) (ap names.is_idle began.line ∙ busy_now)

      -- what the step comes to
      pub record After (memory : m.core.Memory) : Type 0 where
        memory_after : (state acts').memory ≡ m.core.after memory x now
        history_after : (state acts').history ≡ m.core.adds memory x now ++ h
        line_after : (state acts').line x ≡ m.core.lands memory x now
        spares : Spares x acts acts'
        allowed_after : Allowed acts'
        proper_after : Proper acts'
        counts : made x acts' ≡ 1 + made x acts
        replies : Replies x acts' ≡ answers_at names m.core (Replies x acts) (m.core.lands memory x now)

      step_after : (memory : m.core.Memory) → s.memory ≡ memory → s.history ≡ h → After memory
      step_after memory is story =
          let to : t.memory ≡ memory = began.memory ∙ is in
          record {
            memory_after = ap (λ (k : N). k.memory) stepped_so ∙ (λ i. m.core.after (to i) x (began.line i));
            history_after = ap (λ (k : N). k.history) stepped_so ∙ (λ i. m.core.adds (to i) x (began.line i) ++ (began.history ∙ story) i);
            line_after = ap (λ (k : N). k.line x) stepped_so ∙ placed_same t.line x (m.core.lands t.memory x (t.line x)) ∙ (λ i. m.core.lands (to i) x (began.line i));
            spares = record {
              newer = (x, Steps) ∷ began.spares.newer;
              is = ap (λ (k : Acts L). (x, Steps) ∷ k) began.spares.is;
              lines = λ y ne. ap (λ (k : N). k.line y) stepped_so ∙ placed_other t.line x (m.core.lands t.memory x (t.line x)) y ne ∙ began.spares.lines y ne;
              counts = λ f y ne. sum_other f y x Steps began_by ne ∙ began.spares.counts f y ne;
              replies = λ y ne. replies_other y x Steps began_by ne ∙ began.spares.replies y ne;
            };
            allowed_after = (tt, began.allowed);
            proper_after = (ap names.is_idle began.line ∙ busy_now, began.proper);
            counts = sum_same counted x Steps began_by ∙ ap (λ (k : ℕ). 1 + k) (began.counts counted refl);
            replies = replies_same x Steps began_by
                ∙ ap (λ (b : Bool). cond b (Replies x began_by) (answers_at names m.core (Replies x began_by) (m.core.lands t.memory x (t.line x)))) (ap names.is_idle began.line ∙ busy_now)
                ∙ (λ i. answers_at names m.core (began.replies i) (m.core.lands (to i) x (began.line i)));
          }

  -- a step of the seat id, made on the table
  module _ (memory : m.core.Memory) (views : List (View T L)) (h : List (Event T)) (id : ℕ) (p : PassView T) (from : Begun T L) (l : L) (o : O) (led : Led names m.core memory views h) (mine : get_elem? views id ≡ some (AtPass p from l)) (seated : Seated m.core.shape m.core.holding h views) where
    abbrev now_at : L
    now_at = line_now names o l

    abbrev newer : List (Event T)
    newer = m.core.adds memory p.number now_at ++ h

    abbrev pub after_acts : Acts L
    after_acts = acts_after names m.core p.number l now_at led.acts

    abbrev out : L
    out = m.core.lands memory p.number now_at

    abbrev going : Begun T L
    going = going_now names p from l led.acts after_acts

    abbrev view_now : View T L
    view_now = view_after names (stepped newer (answers_at names m.core p.answers out) p) going out

    pub my : Fits led.acts (AtPass p from l)
    my = led.each id (AtPass p from l) mine

    pub sees_now : names.is_idle l ≡ false → Seen names m.core led.acts from.now p.number
    sees_now = my.sees.0

    pub knew_now : Knew names m.core led.acts from.now p.number
    knew_now = my.sees.1

    pub rested_now : names.is_idle l ≡ true → names.is_idle ((state led.acts).line p.number) ≡ true
    rested_now e = same_idle p.number l o led.acts h (my.lines p.number refl) led.allowed led.proper ∙ e

    pub a : After p.number l o led.acts h (my.lines p.number refl) led.allowed led.proper memory
    a = step_after p.number l o led.acts h (my.lines p.number refl) led.allowed led.proper memory led.memory_is led.history_is

    pub ran_now : (state after_acts).line p.number ≡ out
    ran_now = a.line_after

    pub counted_now : p.steps ≡ made p.number led.acts
    counted_now = my.counts.steps_are

    pub counts_now : made p.number after_acts ≡ 1 + made p.number led.acts
    counts_now = a.counts

    -- whether its operation goes on or has ended, it knows all acts now
    now_is : (b : Bool) → (cond b (rested (stepped newer (answers_at names m.core p.answers out) p) after_acts) going).now ≡ after_acts
    now_is true = refl
    now_is false = refl

    pub own : Fits after_acts view_now
    own = record {
      lines = λ y same. subst (λ (k : L). IsSame names m.core k (quiet names out)) (sym (ap (state after_acts).line same ∙ a.line_after)) (quiet_same out);
      counts = record {
        steps_are = let c : p.steps ≡ made p.number led.acts = my.counts.steps_are in let d = a.counts in omega arith;
        answers_are = ap (λ (told : List (Answered T)). answers_at names m.core told out) my.counts.answers_are ∙ sym a.replies;
      };
      sees = (
        λ busy. subst (λ (k : Acts L). Seen names m.core after_acts k p.number) (sym (now_is (names.is_idle out))) (record { others = []; is = refl; same = λ f none. refl }),
        subst (λ (k : Acts L). Knew names m.core after_acts k p.number) (sym (now_is (names.is_idle out))) (record { others = []; is = refl; same = λ f none deaf. refl }),
      );
    }

    -- what an operation begins with that is begun by this step
    abbrev pub IsFreeNow : Type 0
    IsFreeNow = names.is_idle l ≡ true → m.core.Free memory (state led.acts).line (names.first o l)

    pub fresh_after : IsFreeNow → Fresh after_acts
    fresh_after free = (tt, by_test (names.is_idle l) refl)
      where
        by_test : (b : Bool) → names.is_idle l ≡ b → Fresh (cond b ((p.number, Begins now_at) ∷ led.acts) led.acts)
        by_test true e = (
          subst (λ (k : m.core.Memory). m.core.Free k (state led.acts).line now_at) (sym led.memory_is)
              (subst (λ (b : Bool). m.core.Free memory (state led.acts).line (cond b (names.first o l) l)) (sym e) (free e)),
          led.fresh,
        )
        by_test false e = led.fresh

    abbrev pub led_step : IsFreeNow → (memory' : m.core.Memory) → m.core.after memory p.number now_at ≡ memory' → Led names m.core memory' (set views id view_now) newer
    led_step free memory' is = record {
      acts = after_acts;
      allowed = a.allowed_after;
      proper = a.proper_after;
      fresh = fresh_after free;
      memory_is = a.memory_after ∙ is;
      history_is = a.history_after;
      each = λ j v e. ⊎_elim
          (λ t. subst (Fits after_acts) t.1 own)
          (λ t. spared p.number led.acts after_acts a.spares v (λ y ov same. seated.apart j id v (AtPass p from l) t.0 t.1 mine y ov same) (led.each j v t.1))
          (at_set views id j view_now v e);
      owned = λ x. owned_set views id (AtPass p from l) view_now mine (λ y o. o) x (led.owned x);
    }

  -- a load that belongs to no line counts as a step of the seat's first pass
  abbrev pub looking : Acts L → View T L → Acts L
  looking acts (AtPass p begun l) = (p.number, Looks) ∷ acts
  looking acts (AtMeeting p xs k q ys l) = (p.number, Hears) ∷ acts
  looking acts (AtHearing p xs l told) = (p.number, Hears) ∷ acts
  looking acts v = acts

  module _ (acts : Acts L) where
    looking_state : (v : View T L) → state (looking acts v) ≡ state acts
    looking_state (AtPass p begun l) = refl
    looking_state v = refl

    looking_allowed : (v : View T L) → Allowed acts → Allowed (looking acts v)
    looking_allowed (AtPass p begun l) a = (tt, a)
    looking_allowed (AtMeeting p xs k q ys l) a = (tt, a)
    looking_allowed (AtHearing p xs l told) a = (tt, a)
    looking_allowed v a = a

    looking_proper : (v : View T L) → MayLook m v → Fits acts v → Proper acts → Proper (looking acts v)
    looking_proper (AtPass p begun l) may f a = (may, a)
    looking_proper (AtMeeting p xs k q ys l) may f a = (f.lines p.number (inl refl), a)
    looking_proper (AtHearing p xs l told) may f a = (f.lines p.number refl, a)
    looking_proper v may f a = a

    looking_fresh : (v : View T L) → Fresh acts → Fresh (looking acts v)
    looking_fresh (AtPass p begun l) a = (tt, a)
    looking_fresh (AtMeeting p xs k q ys l) a = (tt, a)
    looking_fresh (AtHearing p xs l told) a = (tt, a)
    looking_fresh v a = a

    one_more : (k n : ℕ) (d : ℕ) → k ≡ n → d ≡ 1 + n → k + 1 ≡ d
    one_more k n d e f = omega arith

    look_spares : (p : ℕ) → Spares p acts ((p, Looks) ∷ acts)
    look_spares p = record { newer = (p, Looks) ∷ []; is = refl; lines = λ y ne. refl; counts = λ f y ne. sum_other f y p Looks acts ne; replies = λ y ne. replies_other y p Looks acts ne }

    hear_spares : (p : ℕ) → Spares p acts ((p, Hears) ∷ acts)
    hear_spares p = record { newer = (p, Hears) ∷ []; is = refl; lines = λ y ne. refl; counts = λ f y ne. sum_other f y p Hears acts ne; replies = λ y ne. replies_other y p Hears acts ne }

    -- a pass that hears what others have done has made one step more
    hearing_done : (h : List (Event T)) (p : PassView T) → HasDone names m.core acts p.number p.steps p.answers
        → HasDone names m.core ((p.number, Hears) ∷ acts) p.number (hearing h p).steps (hearing h p).answers
    hearing_done h p d = record {
      steps_are = one_more p.steps (made p.number acts) _ d.steps_are (sum_same counted p.number Hears acts);
      answers_are = ap (λ (told : List (Answered T)). Heard ∷ told) d.answers_are ∙ sym (replies_same p.number Hears acts);
    }

    one_more_act : (kept : Acts L) (a : ℕ × Doing L) → Extends kept acts → Extends kept (a ∷ acts)
    one_more_act kept a e = record { more = a ∷ e.more; is = ap (λ (k : Acts L). a ∷ k) e.is }

    looking_own : (h : List (Event T)) (v : View T L) → Knows h v → Fits acts v → Fits (looking acts v) (looked h (looking acts v) v)
    looking_own h (AtRoot r ks heard l) knows f = record { lines = f.lines; counts = (f.counts.0, f.counts.1); sees = (f.sees.0, record { more = []; is = refl }, record { more = acts; is = sym (append-nil acts) }) }
    looking_own h (AtPass p begun l) knows f = record {
      lines = f.lines;
      counts = record {
        steps_are = one_more p.steps (made p.number acts) _ f.counts.steps_are (sum_same counted p.number Looks acts);
        answers_are = f.counts.answers_are ∙ sym (replies_same p.number Looks acts);
      };
      sees = (
        λ busy. let s = f.sees.0 busy in record {
          others = (p.number, Looks) ∷ s.others;
          is = ap (λ (k : Acts L). (p.number, Looks) ∷ k) s.is;
          same = λ f none. sum_same f p.number Looks acts ∙ ap (λ (k : ℕ). k + sum_of f p.number acts) none ∙ nothing_more (sum_of f p.number acts) ∙ s.same f none;
        },
        let s = f.sees.1 in record {
          others = (p.number, Looks) ∷ s.others;
          is = ap (λ (k : Acts L). (p.number, Looks) ∷ k) s.is;
          same = λ f none deaf. sum_same f p.number Looks acts ∙ ap (λ (k : ℕ). k + sum_of f p.number acts) none ∙ nothing_more (sum_of f p.number acts) ∙ s.same f none deaf;
        },
      );
    }
    looking_own h (AtMeeting p xs k q ys l) knows f = record {
      lines = f.lines;
      counts = (
        hearing_done h p f.counts.0,
        still_done p.number acts ((p.number, Hears) ∷ acts) (hear_spares p.number) q.number q.steps q.answers (λ e. knows.2 (sym e)) f.counts.1,
      );
      sees = (f.sees.0, knew_all ((p.number, Hears) ∷ acts) p.number, still_knew p.number acts ((p.number, Hears) ∷ acts) (hear_spares p.number) ys q.number (λ e. knows.2 (sym e)) f.sees.2);
    }
    looking_own h (AtNote told) knows f = record { lines = f.lines; counts = tt; sees = f.sees }
    looking_own h (AtHearing p xs l told) knows f = record { lines = f.lines; counts = hearing_done h p f.counts; sees = (f.sees.0, knew_all ((p.number, Hears) ∷ acts) p.number, one_more_act told.acts (p.number, Hears) f.sees.2) }
    looking_own h Left knows f = record { lines = f.lines; counts = tt; sees = tt }

    -- after the load the acts begin with all that the seat knows
    pub looking_knows : (v : View T L) → Sees names m.core acts v → KnowsActs (looking acts v) v
    looking_knows (AtRoot r ks heard l) s = (s.1, s.2)
    looking_knows (AtPass p begun l) s = tt
    looking_knows (AtMeeting p xs k q ys l) s = (one_more_act xs (p.number, Hears) (knew_part acts xs p.number s.1), one_more_act ys (p.number, Hears) (knew_part acts ys q.number s.2))
    looking_knows (AtNote told) s = tt
    looking_knows (AtHearing p xs l told) s = (one_more_act xs (p.number, Hears) (knew_part acts xs p.number s.1), one_more_act told.acts (p.number, Hears) s.2)
    looking_knows Left s = tt

    looking_other : (v w : View T L) → ((x : ℕ) → Owns w x → Owns v x → ⊥) → Fits acts w → Fits (looking acts v) w
    looking_other (AtPass p begun l) w off f = spared p.number acts ((p.number, Looks) ∷ acts) (look_spares p.number) w (λ y o same. off y o same) f
    looking_other (AtMeeting p xs k q ys l) w off f = spared p.number acts ((p.number, Hears) ∷ acts) (hear_spares p.number) w (λ y o same. off y o (inl same)) f
    looking_other (AtHearing p xs l told) w off f = spared p.number acts ((p.number, Hears) ∷ acts) (hear_spares p.number) w (λ y o same. off y o same) f
    looking_other (AtRoot r ks heard l) w off f = f
    looking_other (AtNote told) w off f = f
    looking_other Left w off f = f

    -- a pass between its operations
    rest_follows : (p : PassView T) (l : L) (xs : Acts L) → IsQuiet names m.core l → names.is_idle ((state acts).line p.number) ≡ true → HasDone names m.core acts p.number p.steps p.answers → Knew names m.core acts xs p.number → Fits acts (at_rest l p xs)
    rest_follows p l xs q idle counts knew = record {
      lines = λ y same. subst (λ (x : ℕ). IsSame names m.core ((state acts).line x) l) (sym same) (idle_same ((state acts).line p.number) l idle (idle_quiet l q));
      counts = counts;
      sees = (λ busy. absurd (false≢true (sym busy ∙ idle_quiet l q)), knew);
    }

    left_follows : (v : View T L) → Fits acts v → Fits acts (left_of names.shares v)
    left_follows (AtRoot r ks heard l) f = record { lines = λ y o. f.lines y (left_owns names.shares (AtRoot r ks heard l) y o); counts = (λ y le. f.counts.0 y (omega arith), f.counts.1); sees = (λ y le. f.sees.0 y (omega arith), f.sees.1, f.sees.2) }
    left_follows (AtPass p begun l) f = f
    left_follows (AtMeeting p xs k q ys l) f = rest_follows p k xs f.sees.0.0 (f.lines p.number (inl refl)) f.counts.0 f.sees.1
    left_follows (AtNote told) f = f
    left_follows (AtHearing p xs l told) f = rest_follows p l xs f.sees.0 (f.lines p.number refl) f.counts f.sees.1
    left_follows Left f = f

    right_follows : Laws names m.core → (v : View T L) → MayCut m v → Fits acts v → Fits acts (right_of names.shares v)
    right_follows laws (AtRoot r ks heard l) may f = rest_follows (new_pass r) (names.shares.gives l).1 ks (laws.gives_quiet may.0 l may.1 may.2) (f.lines r.given (inl (omega arith))) (f.counts.0 r.given (omega arith)) (knew_any acts ks r.given (f.sees.0 r.given (omega arith)) f.sees.1)
    right_follows laws (AtPass p begun l) may f = record { lines = λ y o. absurd o; counts = tt; sees = knew_part acts begun.now p.number f.sees.1 }
    right_follows laws (AtMeeting p xs k q ys l) may f = rest_follows q l ys f.sees.0.1 (f.lines q.number (inr refl)) f.counts.1 f.sees.2
    right_follows laws (AtNote told) may f = f
    right_follows laws (AtHearing p xs l told) may f = record { lines = λ y o. absurd o; counts = tt; sees = f.sees.2 }
    right_follows laws Left may f = f

    both_follows : (v w : View T L) → MayUnite m v w → Fits acts v → Fits acts w → Fits acts (both_of names.shares v w)
    both_follows (AtRoot r ks heard l) (AtPass p begun k) may f g = record {
      lines = λ y o. ⊎_elim (λ a. f.lines y a) (λ b. (g.lines y b).idle ∙ idle_quiet k may.1) (both_owns names.shares (AtRoot r ks heard l) (AtPass p begun k) y o);
      counts = (f.counts.0, ((inl refl, g.counts), worked_more acts r.account (p.number, own_events p.number p.seen) r.works f.counts.1));
      sees = (f.sees.0, f.sees.1, knew_part acts begun.now p.number g.sees.1);
    }
    both_follows (AtPass p begun k) (AtPass q begun' l) may f g = record {
      lines = λ y o. ⊎_elim (λ a. (f.lines y a).idle ∙ idle_quiet k may.0) (λ b. (g.lines y b).idle ∙ idle_quiet l may.1) o;
      counts = (f.counts, g.counts);
      sees = (may, f.sees.1, g.sees.1);
    }
    both_follows (AtPass p begun l) (AtNote told) may f g = record { lines = λ y o. (f.lines y o).idle ∙ idle_quiet l may; counts = f.counts; sees = (may, f.sees.1, g.sees) }
    both_follows v w may f g = absurd may

  module _ (memory : m.core.Memory) (views : List (View T L)) (h : List (Event T)) (led : Led names m.core memory views h) (seated : Seated m.core.shape m.core.holding h views) where
    pub led_look : (id : ℕ) (v : View T L) → MayLook m v → get_elem? views id ≡ some v → Led names m.core memory (set views id (looked h (looking led.acts v) v)) h
    led_look id v may mine = record {
      acts = looking led.acts v;
      allowed = looking_allowed led.acts v led.allowed;
      proper = looking_proper led.acts v may (led.each id v mine) led.proper;
      fresh = looking_fresh led.acts v led.fresh;
      memory_is = ap (λ (k : N). k.memory) (looking_state led.acts v) ∙ led.memory_is;
      history_is = ap (λ (k : N). k.history) (looking_state led.acts v) ∙ led.history_is;
      each = λ j w e. ⊎_elim
          (λ t. subst (Fits (looking led.acts v)) t.1 (looking_own led.acts h v (seated.each id v mine).knows (led.each id v mine)))
          (λ t. looking_other led.acts v w (λ y o o'. seated.apart j id w v t.0 t.1 mine y o o') (led.each j w t.1))
          (at_set views id j (looked h (looking led.acts v) v) w e);
      owned = λ x. owned_set views id v (looked h (looking led.acts v) v) mine (looked_keeps h (looking led.acts v) v) x (led.owned x);
    }

    pub led_split : Laws names m.core → (id : ℕ) (v : View T L) → MayCut m v → get_elem? views id ≡ some v → Led names m.core memory (set views id (left_of names.shares v) ++ right_of names.shares v ∷ []) h
    led_split laws id v may mine = record {
      acts = led.acts;
      allowed = led.allowed;
      proper = led.proper;
      fresh = led.fresh;
      memory_is = led.memory_is;
      history_is = led.history_is;
      each = λ j w e. ⊎_elim
          (λ t. ⊎_elim
          (λ u. subst (Fits led.acts) u.1 (left_follows led.acts v (led.each id v mine)))
          (λ u. led.each j w u.1)
          (at_set views id j (left_of names.shares v) w t))
          (λ t. subst (Fits led.acts) t.0 (right_follows led.acts laws v may (led.each id v mine)))
          (at_end (set views id (left_of names.shares v)) (right_of names.shares v) w j e);
      owned = λ x.
          let o = led.owned x in
          let right : View T L = right_of names.shares v in
          let left : List (View T L) = set views id (left_of names.shares v) in
          ⊎_elim
          (λ e. ⊎_elim
          (λ a. record { seat = id; view = left_of names.shares v; there = front_there left (right ∷ []) id (left_of names.shares v) (set_there views id v (left_of names.shares v) mine); owns = a })
          (λ b. record { seat = length left; view = right; there = last_there left right; owns = b })
          (splits_owns v x (subst (λ (u : View T L). Owns u x) (some-injective o.view v (sym o.there ∙ ap (get_elem? views) e ∙ mine)) o.owns)))
          (λ ne. record { seat = o.seat; view = o.view; there = front_there left (right ∷ []) o.seat o.view (set_other views id o.seat (left_of names.shares v) (λ e. ne (sym e)) ∙ o.there); owns = o.owns })
          (same_or_not o.seat id);
    }

    -- one seat takes in another
    pub led_join : (id other : ℕ) (v w : View T L) → get_elem? views id ≡ some v → get_elem? views other ≡ some w → MayUnite m v w → other ≢ id → ((x : ℕ) → Owns w x → Owns (both_of names.shares v w) x) → Led names m.core memory (set (set views id (both_of names.shares v w)) other Left) h
    led_join id other v w mine theirs may ne takes = record {
      acts = led.acts;
      allowed = led.allowed;
      proper = led.proper;
      fresh = led.fresh;
      memory_is = led.memory_is;
      history_is = led.history_is;
      each = λ j u e. ⊎_elim
          (λ t. subst (Fits led.acts) t.1 (record { lines = λ y o. absurd o; counts = tt; sees = tt }))
          (λ t. ⊎_elim
          (λ s. subst (Fits led.acts) s.1 (both_follows led.acts v w may (led.each id v mine) (led.each other w theirs)))
          (λ s. led.each j u s.1)
          (at_set views id j (both_of names.shares v w) u t.1))
          (at_set (set views id (both_of names.shares v w)) other j Left u e);
      owned = λ x.
          let o = led.owned x in
          let both : View T L = both_of names.shares v w in
          let mine_there : get_elem? (set (set views id both) other Left) id ≡ some both = set_other (set views id both) other id Left ne ∙ set_there views id v both mine in
          ⊎_elim
          (λ e. record { seat = id; view = both; there = mine_there; owns = both_keeps v w x (subst (λ (u : View T L). Owns u x) (some-injective o.view v (sym o.there ∙ ap (get_elem? views) e ∙ mine)) o.owns) })
          (λ off. ⊎_elim
          (λ e. record { seat = id; view = both; there = mine_there; owns = takes x (subst (λ (u : View T L). Owns u x) (some-injective o.view w (sym o.there ∙ ap (get_elem? views) e ∙ theirs)) o.owns) })
          (λ off'. record { seat = o.seat; view = o.view; there = set_other (set views id both) other o.seat Left (λ e. off' (sym e)) ∙ set_other views id o.seat both (λ e. off (sym e)) ∙ o.there; owns = o.owns })
          (same_or_not o.seat other))
          (same_or_not o.seat id);
    }

  -- a new container
  pub led_first : Laws names m.core → (memory : m.core.Memory) → m.core.first ≡ memory → Led names m.core memory (first_view m.core.stock ∷ []) []
  led_first laws memory is = record {
    acts = [];
    allowed = tt;
    proper = tt;
    fresh = tt;
    memory_is = is;
    history_is = refl;
    each = λ j v e. subst (Fits []) (only_first m.core.shape m.core.holding j (first_view m.core.stock) v e).1 (record { lines = λ y o. laws.fresh y; counts = (λ y le. record { steps_are = refl; answers_are = refl }, tt); sees = (λ y le. record { others = []; is = refl; same = λ f none deaf. refl }, record { more = []; is = refl }, record { more = []; is = refl }) });
    owned = λ x. record { seat = 0; view = first_view m.core.stock; there = refl; owns = inl (omega arith) };
  }

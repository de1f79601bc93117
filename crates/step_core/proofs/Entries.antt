-- Histories with linearization points: how such a course grows at its
-- end, and by a point put into it.
use Rattle.std.proofs.Common.{◌≡◌, ◌≢◌, ◌⊎◌, ℕ, ◌==◌, cond, List, [], ◌∷◌, ◌++◌, refl, sym, ap, ◌∙◌, subst, ⊎_elim, inl, inr, eq-eqb, ne_eqb}
use Rattle.std.proofs.lemmas.Bool.Decides.{eqb_tells}
use mathlib.Core.Option.{Option, none, some}
use Rattle.bounded_model.specs.declared.history.Event.{Event}
use Rattle.bounded_model.specs.declared.history.Event.TheVariants.{Hold, Free}
use Rattle.bounded_model.specs.Histories.{own, pass_of}
use Rattle.bounded_model.specs.Machine.{state, Needs, Legal}
use Rattle.bounded_model.proofs.Histories.{no_parts, own-mine, own-earlier, Later-cons}
use Rattle.step_core.specs.Linearizable.{Operation, Object, Entry, Invokes, Responds, Hand, Updates, Reads, Stage, Rests, Pending, TookEffect, MayHold, IsHand, without_points, events, stage, call_of, IsLinearization}

module _ {T : Type 0} where
  -- the events that are not of a hand alone
  abbrev pub visible : List (Event T) → List (Event T)
  visible [] = []
  visible (Hold p ∷ es) = visible es
  visible (Free p k ∷ es) = visible es
  visible (e ∷ es) = e ∷ visible es

  pub visible-append : (es fs : List (Event T)) → visible (es ++ fs) ≡ visible es ++ visible fs
  visible-append [] fs = refl
  visible-append (Hold p ∷ es) fs = visible-append es fs
  visible-append (Free p k ∷ es) fs = visible-append es fs
  visible-append (e ∷ es) fs = ap (λ (l : List (Event T)). e ∷ l) (visible-append es fs)

  -- an event is of a hand alone, or it is visible
  abbrev Shown : Event T → Type 0
  Shown e = (IsHand e × ((es : List (Event T)) → visible (e ∷ es) ≡ visible es)) ⊎ ((es : List (Event T)) → visible (e ∷ es) ≡ e ∷ visible es)

  shown : (e : Event T) → Shown e
  shown (Hold p) = inl (tt, λ es. refl)
  shown (Free p k) = inl (tt, λ es. refl)
  shown e = inr (λ es. refl)

  -- these events are all of pass p
  abbrev pub Mine : ℕ → List (Event T) → Type 0
  Mine p [] = Unit {0}
  Mine p (e ∷ es) = (pass_of e ≡ p) × Mine p es

  pub own_of_mine : (p : ℕ) (es : List (Event T)) → Mine p es → own p es ≡ es
  own_of_mine p [] mine = refl
  own_of_mine p (e ∷ es) mine = own-mine p e es mine.0 ∙ ap (λ (l : List (Event T)). e ∷ l) (own_of_mine p es mine.1)

  -- so they are if no other pass has one of them
  pub all_mine : (p : ℕ) (es : List (Event T)) → ((q : ℕ) → q ≢ p → own q es ≡ []) → Mine p es
  all_mine p [] no_others = tt
  all_mine p (e ∷ es) no_others = (⊎_elim (λ t. t.1) (λ t. other t.1) (eqb_tells (pass_of e) p), all_mine p es (λ q ne. own-earlier q (Later-cons e es) (no_others q ne)))
    where
      other : pass_of e ≢ p → pass_of e ≡ p
      other ne = let is : e ∷ own (pass_of e) es ≡ [] = sym (own-mine (pass_of e) e es refl) ∙ no_others (pass_of e) ne in cc

pub single : {X : Type 0} (xs : List X) (y z : X) → xs ++ y ∷ [] ≡ z ∷ [] → (xs ≡ []) × (y ≡ z)
single [] y z e = (refl, cc)
single (x ∷ xs) y z e =
    let rest : xs ++ y ∷ [] ≡ [] = cc in
    let none : y ∷ [] ≡ [] = (no_parts xs (y ∷ []) rest).1 in
    cc

-- two ways to cut one list: the first cut is not above the second, or not below it
abbrev Cuts : {X : Type 0} → List X → List X → List X → List X → Type 0
Cuts {X} young old a b = ((mid : List X) × (young ≡ a ++ mid) × (b ≡ mid ++ old)) ⊎ ((mid : List X) × (old ≡ mid ++ b) × (a ≡ young ++ mid))

pub cut : {X : Type 0} (young old a b : List X) → young ++ old ≡ a ++ b → Cuts young old a b
cut young old [] b e = inl (young, refl, sym e)
cut [] old (x ∷ a) b e = inr (x ∷ a, e, refl)
cut {X} (y ∷ young) old (x ∷ a) b e =
    let first : y ≡ x = cc in
    let rest : young ++ old ≡ a ++ b = cc in
    ⊎_elim
    (λ m. inl (m.0, (let is : young ≡ a ++ m.0 = m.1 in cc), m.2))
    (λ m. inr (m.0, m.1, (let is : a ≡ young ++ m.0 = m.2 in cc)))
    (cut young old a b rest)

module _ {T C A : Type 0} where
  -- an entry is not one of pass p
  abbrev pub Quiet : ℕ → Entry T C A → Type 0
  Quiet p (Invokes q call) = q ≢ p
  Quiet p (Responds q a) = q ≢ p
  Quiet p (Hand e) = Unit {0}
  Quiet p (Updates k e) = k.by ≢ p
  Quiet p (Reads k) = k.by ≢ p

  abbrev pub Quiets : ℕ → List (Entry T C A) → Type 0
  Quiets p [] = Unit {0}
  Quiets p (m ∷ course) = Quiet p m × Quiets p course

  pub quiet_append : (p : ℕ) (a b : List (Entry T C A)) → Quiets p a → Quiets p b → Quiets p (a ++ b)
  quiet_append p [] b qa qb = qb
  quiet_append p (m ∷ a) b qa qb = (qa.0, quiet_append p a b qa.1 qb)

  pub quiet_first : (p : ℕ) (a b : List (Entry T C A)) → Quiets p (a ++ b) → Quiets p a
  quiet_first p [] b q = tt
  quiet_first p (m ∷ a) b q = (q.0, quiet_first p a b q.1)

  pub quiet_last : (p : ℕ) (a b : List (Entry T C A)) → Quiets p (a ++ b) → Quiets p b
  quiet_last p [] b q = q
  quiet_last p (m ∷ a) b q = quiet_last p a b q.1

  pub without_points-append : (a b : List (Entry T C A)) → without_points (a ++ b) ≡ without_points a ++ without_points b
  without_points-append [] b = refl
  without_points-append (Invokes p call ∷ a) b = ap (λ (l : List (Entry T C A)). Invokes p call ∷ l) (without_points-append a b)
  without_points-append (Responds p x ∷ a) b = ap (λ (l : List (Entry T C A)). Responds p x ∷ l) (without_points-append a b)
  without_points-append (m ∷ a) b = without_points-append a b

  pub events-append : (a b : List (Entry T C A)) → events (a ++ b) ≡ events a ++ events b
  events-append [] b = refl
  events-append (Hand e ∷ a) b = ap (λ (l : List (Event T)). e ∷ l) (events-append a b)
  events-append (Updates k e ∷ a) b = ap (λ (l : List (Event T)). e ∷ l) (events-append a b)
  events-append (m ∷ a) b = events-append a b

  -- what makes no noise leaves a pass in its call
  pub call-silent : (p : ℕ) (a b : List (Entry T C A)) → without_points a ≡ [] → call_of p (a ++ b) ≡ call_of p b
  call-silent p [] b silent = refl
  call-silent p (Invokes q call ∷ a) b silent = cc
  call-silent p (Responds q x ∷ a) b silent = cc
  call-silent p (m ∷ a) b silent = call-silent p a b silent

  pub call-quiet : (p : ℕ) (a b : List (Entry T C A)) → Quiets p a → call_of p (a ++ b) ≡ call_of p b
  call-quiet p [] b q = refl
  call-quiet p (Invokes r call ∷ a) b q = rw (ne_eqb r p q.0) (call-quiet p a b q.1)
  call-quiet p (Responds r x ∷ a) b q = rw (ne_eqb r p q.0) (call-quiet p a b q.1)
  call-quiet p (m ∷ a) b q = call-quiet p a b q.1

  -- a hand may move at one time as at another, if the events and the call are the same
  pub may_hold : (o : Object T C A) (e : Event T) {h h' : List (Event T)} {c c' : Option C} → h ≡ h' → c ≡ c' → MayHold o e h c → MayHold o e h' c'
  may_hold o e {h} {h'} {c} {c'} same_events same_call m = subst (λ (x : Option C). MayHold o e h' x) same_call (subst (λ (x : List (Event T)). MayHold o e x c) same_events m)

  pub stage-quiet : (p : ℕ) (a b : List (Entry T C A)) → Quiets p a → stage p (a ++ b) ≡ stage p b
  stage-quiet p [] b q = refl
  stage-quiet p (Invokes r call ∷ a) b q = rw (ne_eqb r p q.0) (stage-quiet p a b q.1)
  stage-quiet p (Responds r x ∷ a) b q = rw (ne_eqb r p q.0) (stage-quiet p a b q.1)
  stage-quiet p (Hand e ∷ a) b q = stage-quiet p a b q.1
  stage-quiet p (Updates k e ∷ a) b q = rw (ne_eqb k.by p q.0) (stage-quiet p a b q.1)
  stage-quiet p (Reads k ∷ a) b q = rw (ne_eqb k.by p q.0) (stage-quiet p a b q.1)

  -- an operation that takes effect without an event is put between a and b
  module _ (k : Operation C A) where
    pub talk-insert : (a b : List (Entry T C A)) → without_points (a ++ Reads k ∷ b) ≡ without_points (a ++ b)
    talk-insert a b = without_points-append a (Reads k ∷ b) ∙ sym (without_points-append a b)

    pub events-insert : (a b : List (Entry T C A)) → events (a ++ Reads k ∷ b) ≡ events (a ++ b)
    events-insert a b = events-append a (Reads k ∷ b) ∙ sym (events-append a b)

    pub quiet_insert : (p : ℕ) → k.by ≢ p → (a b : List (Entry T C A)) → Quiets p (a ++ b) → Quiets p (a ++ Reads k ∷ b)
    quiet_insert p ne a b q = quiet_append p a (Reads k ∷ b) (quiet_first p a b q) (ne, quiet_last p a b q)

    pub stage-insert : (p : ℕ) → k.by ≢ p → (a b : List (Entry T C A)) → stage p (a ++ Reads k ∷ b) ≡ stage p (a ++ b)
    stage-insert p ne [] b = rw (ne_eqb k.by p ne) refl
    stage-insert p ne (Invokes q call ∷ a) b = ap (λ (s : Stage C A). cond (q == p) (Pending call) s) (stage-insert p ne a b)
    stage-insert p ne (Responds q x ∷ a) b = ap (λ (s : Stage C A). cond (q == p) Rests s) (stage-insert p ne a b)
    stage-insert p ne (Hand e ∷ a) b = stage-insert p ne a b
    stage-insert p ne (Updates j e ∷ a) b = ap (λ (s : Stage C A). cond (j.by == p) (TookEffect (some j.answer)) s) (stage-insert p ne a b)
    stage-insert p ne (Reads j ∷ a) b = ap (λ (s : Stage C A). cond (j.by == p) (TookEffect (some j.answer)) s) (stage-insert p ne a b)

    pub call-insert : (p : ℕ) (a b : List (Entry T C A)) → call_of p (a ++ Reads k ∷ b) ≡ call_of p (a ++ b)
    call-insert p [] b = refl
    call-insert p (Invokes q call ∷ a) b = ap (λ (s : Option C). cond (q == p) (some call) s) (call-insert p a b)
    call-insert p (Responds q x ∷ a) b = ap (λ (s : Option C). cond (q == p) none s) (call-insert p a b)
    call-insert p (m ∷ a) b = call-insert p a b

    pub run-insert : (o : Object T C A) (a b : List (Entry T C A)) → Quiets k.by a → stage k.by b ≡ Pending k.call → o.reads k (events b) → IsLinearization o (a ++ b) → IsLinearization o (a ++ Reads k ∷ b)
    run-insert o [] b quiet waits says r = (waits, says, r)
    run-insert o (Invokes q call ∷ a) b quiet waits says r = (stage-insert q (λ e. quiet.0 (sym e)) a b ∙ r.0, run-insert o a b quiet.1 waits says r.1)
    run-insert o (Responds q x ∷ a) b quiet waits says r =
        (stage-insert q (λ e. quiet.0 (sym e)) a b ∙ r.0, ap (λ (h : List (Event T)). (state o.shape h).hand q) (events-insert a b) ∙ r.1, run-insert o a b quiet.1 waits says r.2)
    run-insert o (Hand e ∷ a) b quiet waits says r =
        (r.0, may_hold o e (sym (events-insert a b)) (sym (call-insert (pass_of e) a b)) r.1, subst (λ (h : List (Event T)). Needs o.shape (state o.shape h) e) (sym (events-insert a b)) r.2, run-insert o a b quiet.1 waits says r.3)
    run-insert o (Updates j e ∷ a) b quiet waits says r = (
      stage-insert j.by (λ e. quiet.0 (sym e)) a b ∙ r.0,
      r.1,
      may_hold o e (sym (events-insert a b)) (sym (call-insert (pass_of e) a b)) r.2,
      subst (λ (h : List (Event T)). Needs o.shape (state o.shape h) e) (sym (events-insert a b)) r.3,
      run-insert o a b quiet.1 waits says r.4,
    )
    run-insert o (Reads j ∷ a) b quiet waits says r =
        (stage-insert j.by (λ e. quiet.0 (sym e)) a b ∙ r.0, subst (λ (h : List (Event T)). o.reads j h) (sym (events-insert a b)) r.1, run-insert o a b quiet.1 waits says r.2)

  -- a course is cut where its events are
  pub record Split (course : List (Entry T C A)) (a b : List (Event T)) : Type 0 where
    pub newer : List (Entry T C A)
    pub older : List (Entry T C A)
    pub is : course ≡ newer ++ older
    pub below : events older ≡ b

  with_first : {course : List (Entry T C A)} {a b a' b' : List (Event T)} (m : Entry T C A) → b ≡ b' → Split course a b → Split (m ∷ course) a' b'
  with_first m e s = record { newer = m ∷ s.newer; older = s.older; is = ap (λ (l : List (Entry T C A)). m ∷ l) s.is; below = s.below ∙ e }

  pub split : (a : List (Event T)) (course : List (Entry T C A)) (b : List (Event T)) → events course ≡ a ++ b → Split course a b
  split [] course b e = record { newer = []; older = course; is = refl; below = e }
  split (y ∷ a) [] b e = cc
  split (y ∷ a) (Hand z ∷ course) b e = let rest : events course ≡ a ++ b = cc in with_first (Hand z) refl (split a course b rest)
  split (y ∷ a) (Updates k z ∷ course) b e = let rest : events course ≡ a ++ b = cc in with_first (Updates k z) refl (split a course b rest)
  split (y ∷ a) (m ∷ course) b e = with_first m refl (split (y ∷ a) course b e)

  module _ (o : Object T C A) where
    -- a course grows by these events, and no operation takes effect
    pub record Grown (course : List (Entry T C A)) (es : List (Event T)) : Type 0 where
      pub more : List (Entry T C A)
      pub makes : events more ≡ es
      pub talks : without_points more ≡ []
      pub right : IsLinearization o (more ++ course)
      pub quiet : (q : ℕ) → Quiets q more

    -- a course grows by these events, and operation k takes effect
    pub record Placed (k : Operation C A) (course : List (Entry T C A)) (es : List (Event T)) : Type 0 where
      pub more : List (Entry T C A)
      pub makes : events more ≡ es
      pub talks : without_points more ≡ []
      pub right : IsLinearization o (more ++ course)
      pub has : stage k.by (more ++ course) ≡ TookEffect (some k.answer)
      pub quiet : (q : ℕ) → k.by ≢ q → Quiets q more

    -- these events hold no more at any time than the calls of a course may
    abbrev pub Fits : List (Entry T C A) → List (Event T) → Type 0
    Fits course [] = Unit {0}
    Fits course (e ∷ es) = MayHold o e (es ++ events course) (call_of (pass_of e) course) × Fits course es

    -- an event holds as much on top of a course as on top of the events that it has
    holds : (course more : List (Entry T C A)) (es : List (Event T)) (e : Event T) → events more ≡ es → without_points more ≡ [] → MayHold o e (es ++ events course) (call_of (pass_of e) course)
        → MayHold o e (events (more ++ course)) (call_of (pass_of e) (more ++ course))
    holds course more es e makes talks m = may_hold o e (sym (events-append more course ∙ ap (λ (l : List (Event T)). l ++ events course) makes)) (sym (call-silent (pass_of e) more course talks)) m

    -- an event is as legal on top of a course as on top of the events that it has
    needs : (course more : List (Entry T C A)) (es : List (Event T)) (e : Event T) → events more ≡ es → Needs o.shape (state o.shape (es ++ events course)) e → Needs o.shape (state o.shape (events (more ++ course))) e
    needs course more es e makes n = subst (λ (h : List (Event T)). Needs o.shape (state o.shape h) e) (sym (events-append more course ∙ ap (λ (l : List (Event T)). l ++ events course) makes)) n

    pub hands : (course : List (Entry T C A)) (es : List (Event T)) → visible es ≡ [] → Fits course es → Legal o.shape (es ++ events course) → IsLinearization o course → Grown course es
    hands course [] unseen fits l r = record { more = []; makes = refl; talks = refl; right = r; quiet = λ q. tt }
    hands course (e ∷ es) unseen fits l r = ⊎_elim
        (λ h. let g = hands course es (sym (h.1 es) ∙ unseen) fits.1 l.1 r in
        record {
          more = Hand e ∷ g.more;
          makes = ap (λ (x : List (Event T)). e ∷ x) g.makes;
          talks = g.talks;
          right = (h.0, holds course g.more es e g.makes g.talks fits.0, needs course g.more es e g.makes l.0, g.right);
          quiet = λ q. (tt, g.quiet q);
        })
        (λ h. let is : e ∷ visible es ≡ [] = sym (h es) ∙ unseen in cc)
        (shown e)

    pub place : (k : Operation C A) (course : List (Entry T C A)) (es : List (Event T)) (e : Event T) → visible es ≡ e ∷ [] → o.updates k e → stage k.by course ≡ Pending k.call → Fits course es → Legal o.shape (es ++ events course) → IsLinearization o course → Placed k course es
    place k course [] e one does waits fits l r = cc
    place k course (x ∷ es) e one does waits fits l r = ⊎_elim
        (λ h. let g = place k course es e (sym (h.1 es) ∙ one) does waits fits.1 l.1 r in
        record {
          more = Hand x ∷ g.more;
          makes = ap (λ (y : List (Event T)). x ∷ y) g.makes;
          talks = g.talks;
          right = (h.0, holds course g.more es x g.makes g.talks fits.0, needs course g.more es x g.makes l.0, g.right);
          has = g.has;
          quiet = λ q ne. (tt, g.quiet q ne);
        })
        (λ h. let is : x ∷ visible es ≡ e ∷ [] = sym (h es) ∙ one in
        let none : visible es ≡ [] = cc in
        let same : e ≡ x = cc in
        let g = hands course es none fits.1 l.1 r in
        record {
          more = Updates k x ∷ g.more;
          makes = ap (λ (y : List (Event T)). x ∷ y) g.makes;
          talks = g.talks;
          right = (stage-quiet k.by g.more course (g.quiet k.by) ∙ waits, subst (λ (y : Event T). o.updates k y) same does, holds course g.more es x g.makes g.talks fits.0, needs course g.more es x g.makes l.0, g.right);
          has = rw (eq-eqb k.by k.by refl) refl;
          quiet = λ q ne. (ne, g.quiet q);
        })
        (shown x)

-- An operation with a response has taken effect while it was pending; for near misses.
use Rattle.std.proofs.Common.{◌≡◌, ◌⊎◌, ℕ, List, [], ◌∷◌, ◌++◌, length, reverse, refl, sym, ap, ◌∙◌, subst, ⊎_elim, inl, inr, append_assoc, length-append, append-nil, arith}
use Rattle.std.proofs.lemmas.Bool.Decides.{eqb_tells}
use mathlib.Core.Option.{Option, none, some, some-injective, some-ne-none}
use Rattle.bounded_model.specs.declared.history.Event.{Event}
use Rattle.bounded_model.specs.declared.history.Event.TheVariants.{Hold, Put, Take, TakeAll}
use Rattle.bounded_model.specs.Gathers.{gather, put_of}
use Rattle.bounded_model.specs.declared.history.Order.{Order}
use Rattle.bounded_model.specs.declared.history.Order.TheVariants.{Fifo, Lifo}
use Rattle.bounded_model.specs.Histories.{Among, own}
use Rattle.bounded_model.specs.Justified.{Sometime}
use Rattle.bounded_model.specs.Machine.{Shape, state, put_on, without_first}
use Rattle.bounded_model.proofs.Gathering.{gather-append}
use Rattle.bounded_model.proofs.Histories.{no_parts, own-append}
use Rattle.step_core.specs.Linearizable.{Operation, Object, Entry, Invokes, Responds, Hand, Updates, Reads, Stage, Rests, Pending, TookEffect, without_points, events, stage, IsLinearizationWithAnyHands}
use Rattle.step_core.proofs.Entries.{events-append, without_points-append}

pub among_right : {B : Type 0} (b : B) (xs ys : List B) → Among b ys → Among b (xs ++ ys)
among_right b [] ys there = there
among_right b (x ∷ xs) ys there = inr (among_right b xs ys there)

pub among_left : {B : Type 0} (b : B) (xs ys : List B) → Among b xs → Among b (xs ++ ys)
among_left b [] ys there = absurd there
among_left b (x ∷ xs) ys there = ⊎_elim (λ e. inl e) (λ t. inr (among_left b xs ys t)) there

-- what held at some time between a history and itself holds of it
pub at_once : {T : Type 0} (h : List (Event T)) (P : List (Event T) → Type 0) → Sometime h h P → P h
at_once {T} h P s = subst P (itself s.until.more s.since.more s.at s.until.is s.since.is) s.holds
  where
    itself : (more less at : List (Event T)) → h ≡ more ++ at → at ≡ less ++ h → at ≡ h
    itself [] less at until since = sym until
    itself (e ∷ more) less at until since = absurd (omega (arith, ap length until, ap length since, length-append more at, length-append less h))

-- where nothing was put nothing is there
put_nothing : {T : Type 0} (order : Order) (values new : List T) → values ≡ [] → new ≡ [] → put_on order values new ≡ []
put_nothing Fifo values new e e' = ap (λ l. l ++ new) e ∙ e'
put_nothing Lifo values new e e' = ap (λ l. reverse l ++ values) e' ∙ e

none_there : {T : Type 0} (c : Shape) (h : List (Event T)) → gather put_of h ≡ [] → (state c h).values ≡ []
none_there c [] none_put = refl
none_there c (Put p vs n ∷ h) none_put =
    let two = no_parts (gather put_of h) vs none_put in
    put_nothing c.order (state c h).values vs (none_there c h two.0) two.1
none_there c (Take p v n ∷ h) none_put = ap without_first (none_there c h (sym (append-nil (gather put_of h)) ∙ none_put))
none_there c (TakeAll p vs n ∷ h) none_put = refl
none_there c (e ∷ h) none_put = none_there c h (sym (append-nil (gather put_of h)) ∙ none_put)

-- what pass 0 makes of a call, where it did nothing before
pub own_made : {T C : Type 0} (Makes : C → List (Event T) → Type 0) (call call' : C) (begun seen between : List (Event T)) → some call' ≡ some call → own 0 begun ≡ [] → seen ≡ between ++ begun → Makes call' (own 0 between) → Makes call (own 0 seen)
own_made Makes call call' begun seen between of new is made =
    let all : own 0 seen ≡ own 0 between = ap (own 0) is ∙ own-append 0 between begun ∙ ap (λ es. own 0 between ++ es) new ∙ append-nil (own 0 between) in
    subst (λ c. Makes c (own 0 seen)) (some-injective call' call of) (subst (Makes call') (sym all) made)

module _ {T C A : Type 0} (o : Object T C A) where
  abbrev Course : Type 0
  Course = List (Entry T C A)

  still_there : (e : Event T) (m : Entry T C A) (course : Course) → Among e (events course) → Among e (events (m ∷ course))
  still_there e (Hand e') course there = inr there
  still_there e (Updates k e') course there = inr there
  still_there e m course there = there

  -- an answer of a call is right after these events, or by one of those that come next
  abbrev pub Right : ℕ → C → A → List (Event T) → List (Event T) → Type 0
  Right p c a newer older =
      let k : Operation C A = record { by = p; call = c; answer = a } in
      (o.reads k older) ⊎ ((e : Event T) × (o.updates k e × Among e newer))

  -- an operation of pass p takes effect in a course, with this answer, while it is pending
  pub record Placed (p : ℕ) (answer : Option A) (course : Course) : Type 0 where
    pub k : Operation C A
    pub given : some k.answer ≡ answer
    pub newer : Course
    pub older : Course
    pub is : course ≡ newer ++ older
    pub right : Right k.by k.call k.answer (events newer) (events older)
    pub waits : stage p older ≡ Pending k.call
    pub run : IsLinearizationWithAnyHands o older

  -- a pending operation has its invocation
  record Asked (p : ℕ) (call : C) (course : Course) : Type 0 where
    since : Course
    before : Course
    is : course ≡ since ++ Invokes p call ∷ before
    run : IsLinearizationWithAnyHands o before

  -- what the stage of a pass says of its operation
  abbrev Found : ℕ → Stage C A → Course → Type 0
  Found p Rests course = Unit {0}
  Found p (Pending call) course = Asked p call course
  Found p (TookEffect x) course = Placed p x course

  -- and so in a longer course
  more : (p : ℕ) (s : Stage C A) (m : Entry T C A) (course : Course) → Found p s course → Found p s (m ∷ course)
  more p Rests m course f = tt
  more p (Pending call) m course f = record { since = m ∷ f.since; before = f.before; is = ap (λ (l : Course). m ∷ l) f.is; run = f.run }
  more p (TookEffect x) m course f = record {
    k = f.k;
    given = f.given;
    newer = m ∷ f.newer;
    older = f.older;
    is = ap (λ (l : Course). m ∷ l) f.is;
    right = ⊎_elim (λ says. inl says) (λ does. inr (does.0, (does.1.0, still_there does.0 m f.newer does.1.1))) f.right;
    waits = f.waits;
    run = f.run;
  }

  found : (p : ℕ) (course : Course) → IsLinearizationWithAnyHands o course → Found p (stage p course) course
  found p [] r = tt
  found p (Invokes q call ∷ course) r = ⊎_elim
      (λ t. rw t.0 (record { since = []; before = course; is = ap (λ (i : ℕ). Invokes i call ∷ course) t.1; run = r.1 }))
      (λ t. rw t.0 (more p (stage p course) (Invokes q call) course (found p course r.1)))
      (eqb_tells q p)
  found p (Responds q y ∷ course) r = ⊎_elim
      (λ t. rw t.0 tt)
      (λ t. rw t.0 (more p (stage p course) (Responds q y) course (found p course r.1)))
      (eqb_tells q p)
  found p (Hand e ∷ course) r = more p (stage p course) (Hand e) course (found p course r.2)
  found p (Updates k e ∷ course) r = ⊎_elim
      (λ t. let waits : stage p course ≡ Pending k.call = subst (λ (q : ℕ). stage q course ≡ Pending k.call) t.1 r.0 in
      rw t.0 (record { k = k; given = refl; newer = Updates k e ∷ []; older = course; is = refl; right = inr (e, (r.1, inl refl)); waits = waits; run = r.3 }))
      (λ t. rw t.0 (more p (stage p course) (Updates k e) course (found p course r.3)))
      (eqb_tells k.by p)
  found p (Reads k ∷ course) r = ⊎_elim
      (λ t. let waits : stage p course ≡ Pending k.call = subst (λ (q : ℕ). stage q course ≡ Pending k.call) t.1 r.0 in
      rw t.0 (record { k = k; given = refl; newer = Reads k ∷ []; older = course; is = refl; right = inl r.1; waits = waits; run = r.2 }))
      (λ t. rw t.0 (more p (stage p course) (Reads k) course (found p course r.2)))
      (eqb_tells k.by p)

  asked : (p : ℕ) (call : C) (course : Course) → IsLinearizationWithAnyHands o course → stage p course ≡ Pending call → Asked p call course
  asked p call course r waits = subst (λ (s : Stage C A). Found p s course) waits (found p course r)

  -- a response is that of an operation that has taken effect
  pub heard : (p : ℕ) (x : Option A) (course : Course) → IsLinearizationWithAnyHands o course → Among (Responds p x) (without_points course) → Placed p x course
  heard p x [] r there = absurd there
  heard p x (Invokes q call ∷ course) r there = ⊎_elim
      (λ e. let no : Responds p x ≡ Invokes q call = e in cc)
      (λ t. more p (TookEffect x) (Invokes q call) course (heard p x course r.1 t))
      there
  heard p x (Responds q y ∷ course) r there = ⊎_elim
      (λ e. let same : Responds p x ≡ Responds q y = e in
      let by : q ≡ p = cc in
      let answer : y ≡ x = cc in
      more p (TookEffect x) (Responds q y) course (subst (λ (s : Stage C A). Found p s course) (subst (λ (i : ℕ). stage i course ≡ TookEffect x) by (r.0 ∙ ap (λ (z : Option A). TookEffect z) answer)) (found p course r.1)))
      (λ t. more p (TookEffect x) (Responds q y) course (heard p x course r.1 t))
      there
  heard p x (Hand e ∷ course) r there = more p (TookEffect x) (Hand e) course (heard p x course r.2 there)
  heard p x (Updates k e ∷ course) r there = more p (TookEffect x) (Updates k e) course (heard p x course r.3 there)
  heard p x (Reads k ∷ course) r there = more p (TookEffect x) (Reads k) course (heard p x course r.2 there)

  -- so each response has an answer, and it is right
  pub none_heard : (p : ℕ) (course : Course) → IsLinearizationWithAnyHands o course → Among (Responds p none) (without_points course) → ⊥
  none_heard p course r there = let x = heard p none course r there in absurd (some-ne-none x.k.answer x.given)

  pub right_as : (p : ℕ) (a : A) (course : Course) (x : Placed p (some a) course) → Right x.k.by x.k.call a (events x.newer) (events x.older)
  right_as p a course x = subst (λ (b : A). Right x.k.by x.k.call b (events x.newer) (events x.older)) (some-injective x.k.answer a x.given) x.right

  -- and where none puts a value, it takes effect while there is none
  pub heard_of_none : (p : ℕ) (a : A) (course : Course) → IsLinearizationWithAnyHands o course → Among (Responds p (some a)) (without_points course) → gather put_of (events course) ≡ []
      → (by : ℕ) × (call : C) × (newer : List (Event T)) × (older : List (Event T)) × Right by call a newer older × ((state o.shape older).values ≡ [])
  heard_of_none p a course r there none_put =
      let x = heard p (some a) course r there in
      let parts : gather put_of (events x.older) ++ gather put_of (events x.newer) ≡ [] = sym (gather-append put_of (events x.newer) (events x.older)) ∙ ap (gather put_of) (sym (events-append x.newer x.older) ∙ ap events (sym x.is)) ∙ none_put in
      (x.k.by, x.k.call, events x.newer, events x.older, right_as p a course x, none_there o.shape (events x.older) (no_parts (gather put_of (events x.older)) (gather put_of (events x.newer)) parts).0)

  -- Pass 1 has completed an operation, and then pass 0: so that of pass 1 takes effect in the history at which that of
  -- pass 0 does
  pub record InOrder (x y : Option A) (course : Course) : Type 0 where
    pub later : Placed 0 x course
    pub before : Course
    pub earlier : Placed 1 y before
    pub since : List (Event T)
    pub is : events later.older ≡ since ++ events before

  pub in_order : (x y : Option A) (c d : C) (course : Course) → IsLinearizationWithAnyHands o course → without_points course ≡ Responds 0 x ∷ Invokes 0 c ∷ Responds 1 y ∷ Invokes 1 d ∷ [] → InOrder x y course
  in_order x y c d course r is =
      let later = heard 0 x course r (subst (Among (Responds 0 x)) (sym is) (inl refl)) in
      let begin = asked 0 later.k.call later.older later.run later.waits in
      let parts : without_points later.newer ++ (without_points begin.since ++ Invokes 0 later.k.call ∷ without_points begin.before) ≡ Responds 0 x ∷ Invokes 0 c ∷ Responds 1 y ∷ Invokes 1 d ∷ [] =
      ap (λ (l : Course). without_points later.newer ++ l) (sym (ap without_points begin.is ∙ without_points-append begin.since (Invokes 0 later.k.call ∷ begin.before))) ∙ sym (without_points-append later.newer later.older) ∙ sym (ap without_points later.is) ∙ is in
      let rest : without_points begin.before ≡ Responds 1 y ∷ Invokes 1 d ∷ [] = cut (without_points later.newer ++ without_points begin.since) later.k.call (without_points begin.before) (append_assoc (without_points later.newer) (without_points begin.since) (Invokes 0 later.k.call ∷ without_points begin.before) ∙ parts) in
      record {
        later = later;
        before = begin.before;
        earlier = heard 1 y begin.before begin.run (subst (Among (Responds 1 y)) (sym rest) (inl refl));
        since = events begin.since;
        is = ap events begin.is ∙ events-append begin.since (Invokes 0 later.k.call ∷ begin.before);
      }
    where
      cut : (xs : Course) (call : C) (zs : Course) → xs ++ Invokes 0 call ∷ zs ≡ Responds 0 x ∷ Invokes 0 c ∷ Responds 1 y ∷ Invokes 1 d ∷ [] → zs ≡ Responds 1 y ∷ Invokes 1 d ∷ []
      cut [] call zs e = cc
      cut (a ∷ []) call zs e = cc
      cut (a ∷ b ∷ []) call zs e = cc
      cut (a ∷ b ∷ f ∷ []) call zs e = let zero_is : ◌≡◌ {A = ℕ} 0 1 = cc in absurd (omega (arith, zero_is))
      cut (a ∷ b ∷ f ∷ g ∷ more) call zs e = let none : more ++ Invokes 0 call ∷ zs ≡ [] = cc in let no : Invokes 0 call ∷ zs ≡ [] = (no_parts more (Invokes 0 call ∷ zs) none).1 in cc

  -- Pass 1 has put the only value, and then pass 0 hears that there is none
  module _ (v : T) (no_value put_done : A) where
    abbrev pub one_value : List (Event T)
    one_value = Put 1 (v ∷ []) 0 ∷ Hold 1 ∷ []

    module _ (there : (state o.shape one_value).values ≡ v ∷ [])
        (is_empty : (p : ℕ) (c : C) (newer older : List (Event T)) → Right p c no_value newer older → (state o.shape older).values ≡ [])
        (was_put : (p : ℕ) (c : C) (newer older : List (Event T)) → Right p c put_done newer older → (vs : List T) × Among (Put p vs 0) newer) where
      -- its put is the last of all events, so all were there
      whole : (newer older : List (Event T)) (p : ℕ) (vs : List T) → newer ++ older ≡ one_value → Among (Put p vs 0) older → older ≡ one_value
      whole [] older p vs e among = e
      whole (a ∷ []) older p vs e among =
          let is : older ≡ Hold 1 ∷ [] = cc in
          absurd (⊎_elim (λ same. let no : Put p vs 0 ≡ Hold 1 = same in cc) (λ none. none) (subst (Among (Put p vs 0)) is among))
      whole (a ∷ b ∷ more) older p vs e among =
          let none : more ++ older ≡ [] = cc in
          absurd (subst (Among (Put p vs 0)) (no_parts more older none).1 among)

      pub stale : (take put : C) (course : Course) → IsLinearizationWithAnyHands o course → without_points course ≡ Responds 0 (some no_value) ∷ Invokes 0 take ∷ Responds 1 (some put_done) ∷ Invokes 1 put ∷ [] → events course ≡ one_value → ⊥
      stale take put course r same_calls same_history =
          let x = in_order (some no_value) (some put_done) take put course r same_calls in
          let later = x.later in
          let earlier = x.earlier in
          let made = was_put earlier.k.by earlier.k.call (events earlier.newer) (events earlier.older) (right_as 1 put_done x.before earlier) in
          let e : Event T = Put earlier.k.by made.0 0 in
          let before : Among e (events x.before) = subst (Among e) (sym (ap events earlier.is ∙ events-append earlier.newer earlier.older)) (among_left e (events earlier.newer) (events earlier.older) made.1) in
          let parts : events later.newer ++ events later.older ≡ one_value = sym (events-append later.newer later.older) ∙ ap events (sym later.is) ∙ same_history in
          let all : events later.older ≡ one_value = whole (events later.newer) (events later.older) earlier.k.by made.0 parts (subst (Among e) (sym x.is) (among_right e x.since (events x.before) before)) in
          let none = is_empty later.k.by later.k.call (events later.newer) (events later.older) (right_as 0 no_value course later) in
          let no : v ∷ [] ≡ [] = sym there ∙ ap (λ (h : List (Event T)). (state o.shape h).values) (sym all) ∙ none in
          cc

-- The operations of a linearization keep real time order, whatever the hands hold.
use Rattle.std.proofs.Common.{◌≡◌, ℕ, List, [], ◌∷◌, ◌++◌, refl, sym, ap, ◌∙◌, subst, ⊎_elim, inl, inr}
use Rattle.std.proofs.lemmas.Bool.Decides.{eqb_tells}
use mathlib.Core.Option.{Option, some}
use Rattle.bounded_model.specs.declared.history.Event.{Event}
use Rattle.step_core.specs.Linearizable.{Operation, Object, Entry, Invokes, Responds, Hand, Updates, Reads, Stage, Rests, Pending, TookEffect, without_points, stage, events, IsLinearization, IsLinearizationWithAnyHands, effective, pending_call, completed, KeepsRealTimeOrder}

module _ {T C A : Type 0} (o : Object T C A) where
  -- an older part of a run is a run
  pub run_before : (a b : List (Entry T C A)) → IsLinearization o (a ++ b) → IsLinearization o b
  run_before [] b r = r
  run_before (Invokes p call ∷ a) b r = run_before a b r.1
  run_before (Responds p x ∷ a) b r = run_before a b r.2
  run_before (Hand e ∷ a) b r = run_before a b r.3
  run_before (Updates k e ∷ a) b r = run_before a b r.4
  run_before (Reads k ∷ a) b r = run_before a b r.2

  -- also with any hands
  any_before : (a b : List (Entry T C A)) → IsLinearizationWithAnyHands o (a ++ b) → IsLinearizationWithAnyHands o b
  any_before [] b r = r
  any_before (Invokes p call ∷ a) b r = any_before a b r.1
  any_before (Responds p x ∷ a) b r = any_before a b r.1
  any_before (Hand e ∷ a) b r = any_before a b r.2
  any_before (Updates k e ∷ a) b r = any_before a b r.3
  any_before (Reads k ∷ a) b r = any_before a b r.2

  -- a linearization is one with any hands, for an object that takes each answer that this one takes
  pub with_any_hands : (reads : Operation C A → List (Event T) → Type 0) → ((k : Operation C A) (h : List (Event T)) → o.reads k h → reads k h) → (course : List (Entry T C A)) → IsLinearization o course → IsLinearizationWithAnyHands (record o { reads = reads }) course
  with_any_hands reads right [] r = tt
  with_any_hands reads right (Invokes p call ∷ course) r = (r.0, with_any_hands reads right course r.1)
  with_any_hands reads right (Responds p x ∷ course) r = (r.0, with_any_hands reads right course r.2)
  with_any_hands reads right (Hand e ∷ course) r = (r.0, r.2, with_any_hands reads right course r.3)
  with_any_hands reads right (Updates k e ∷ course) r = (r.0, r.1, r.3, with_any_hands reads right course r.4)
  with_any_hands reads right (Reads k ∷ course) r = (r.0, right k (events course) r.1, with_any_hands reads right course r.2)

  module _ (p : ℕ) where
    -- Where a pass is in a course, and where in its conversation; which operations of its have taken effect, and
    -- which it has completed
    abbrev AtStage : Stage C A → Stage C A → List (Option C × Option A) → List (Option C × Option A) → Type 0
    AtStage Rests talk calls heard = calls ≡ heard
    AtStage (Pending call) talk calls heard = (talk ≡ Pending call) × (calls ≡ heard)
    AtStage (TookEffect x) talk calls heard = (call : C) × (a : A) × (x ≡ some a) × (talk ≡ Pending call) × (calls ≡ (some call, x) ∷ heard)

    abbrev At : Stage C A → List (Entry T C A) → Type 0
    At s course = AtStage s (stage p (without_points course)) (effective p course) (completed p (without_points course))

    -- pass q is pass p, and there it is as its run says
    here : (q : ℕ) (s : Stage C A) (course : List (Entry T C A)) → q ≡ p → stage q course ≡ s → At (stage p course) course → At s course
    here q s course mine is w = subst (λ (u : Stage C A). At u course) (ap (λ (i : ℕ). stage i course) (sym mine) ∙ is) w

    where_it_is : (course : List (Entry T C A)) → IsLinearizationWithAnyHands o course → At (stage p course) course
    where_it_is [] r = refl
    where_it_is (Invokes q call ∷ course) r = ⊎_elim
        (λ t. rw t.0 (refl, here q Rests course t.1 r.0 (where_it_is course r.1)))
        (λ t. rw t.0 (where_it_is course r.1))
        (eqb_tells q p)
    where_it_is (Responds q x ∷ course) r = ⊎_elim
        (λ t. let w = here q (TookEffect x) course t.1 r.0 (where_it_is course r.1) in
        rw t.0 (w.4 ∙ ap (λ (s : Stage C A). (pending_call s, x) ∷ completed p (without_points course)) (sym w.3)))
        (λ t. rw t.0 (where_it_is course r.1))
        (eqb_tells q p)
    where_it_is (Hand e ∷ course) r = where_it_is course r.2
    where_it_is (Updates k e ∷ course) r = ⊎_elim
        (λ t. let w = here k.by (Pending k.call) course t.1 r.0 (where_it_is course r.3) in
        rw t.0 (k.call, k.answer, refl, w.0, ap (λ (l : List (Option C × Option A)). (some k.call, some k.answer) ∷ l) w.1))
        (λ t. rw t.0 (where_it_is course r.3))
        (eqb_tells k.by p)
    where_it_is (Reads k ∷ course) r = ⊎_elim
        (λ t. let w = here k.by (Pending k.call) course t.1 r.0 (where_it_is course r.2) in
        rw t.0 (k.call, k.answer, refl, w.0, ap (λ (l : List (Option C × Option A)). (some k.call, some k.answer) ∷ l) w.1))
        (λ t. rw t.0 (where_it_is course r.2))
        (eqb_tells k.by p)

    in_time : (s : Stage C A) (course : List (Entry T C A)) → At s course → KeepsRealTimeOrder p course
    in_time Rests course w = inl w
    in_time (Pending call) course w = inl w.1
    in_time (TookEffect x) course w = inr (w.0, w.1, w.3, w.4 ∙ ap (λ (y : Option A). (some w.0, y) ∷ completed p (without_points course)) w.2)

  -- wherever a course is cut
  pub keeps_time : (newer older : List (Entry T C A)) → IsLinearizationWithAnyHands o (newer ++ older) → (p : ℕ) → KeepsRealTimeOrder p older
  keeps_time newer older r p = in_time p (stage p older) older (where_it_is p older (any_before newer older r))

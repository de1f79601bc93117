-- What is in the hands of passes at each moment of a linearization, and what a refusal as full says of the values.
use Rattle.std.proofs.Common.{◌≡◌, ◌≢◌, ℕ, ◌+◌, ◌-◌, ◌≤◌, ◌==◌, Bool, cond, List, [], ◌∷◌, ◌++◌, length, refl, sym, ap, ◌∙◌, subst, ⊎_elim, eq-eqb, ne_eqb, arith}
use Rattle.std.proofs.lemmas.Bool.Decides.{eqb_tells}
use mathlib.Core.Option.{Option, none, some}
use Rattle.bounded_model.specs.declared.history.Event.{Event}
use Rattle.bounded_model.specs.declared.history.Event.TheVariants.{Hold, Put, Take, TakeAll, Free, Close, Shut}
use Rattle.bounded_model.specs.Histories.{pass_of}
use Rattle.bounded_model.specs.Justified.{IsFull}
use Rattle.bounded_model.specs.Machine.{State, state, after, Needs, Legal}
use Rattle.bounded_model.proofs.Hands.{with_hand-same, hand_within}
use Rattle.machine.specs.Words.{times, total}
use Rattle.step_core.specs.Linearizable.{Object, Entry, Invokes, Responds, Hand, Updates, Reads, Stage, Rests, Pending, TookEffect, most_of, MayHold, IsHand, without, without_points, events, stage, call_of, under_way, most_in_hand, IsLinearization}
use Rattle.step_core.proofs.Entries.{split}
use Rattle.step_core.proofs.Holding.{hand_other}
use Rattle.step_core.proofs.InTime.{run_before}

-- Sums over passes

not_in-without : (p : ℕ) (ps : List ℕ) → times p (without p ps) ≡ 0
not_in-without p [] = refl
not_in-without p (q ∷ ps) = ⊎_elim
    (λ t. rw t.0 (not_in-without p ps))
    (λ t. rw t.0 (omega (arith, ap {B = ℕ} (λ (b : Bool). cond b 1 0) (ne_eqb p q (λ e. t.1 (sym e))), not_in-without p ps)))
    (eqb_tells q p)

others-without : (p q : ℕ) (ps : List ℕ) → q ≢ p → times q (without p ps) ≡ times q ps
others-without p q [] ne = refl
others-without p q (r ∷ ps) ne = ⊎_elim
    (λ t. rw t.0 (omega (arith, ap {B = ℕ} (λ (b : Bool). cond b 1 0) (ne_eqb q r (λ e. ne (e ∙ t.1))), others-without p q ps ne)))
    (λ t. rw t.0 (ap (λ (k : ℕ). cond (q == r) 1 0 + k) (others-without p q ps ne)))
    (eqb_tells r p)

total-without : (f : ℕ → ℕ) (p : ℕ) (ps : List ℕ) → f p ≡ 0 → total f (without p ps) ≡ total f ps
total-without f p [] zero_there = refl
total-without f p (q ∷ ps) zero_there = ⊎_elim
    (λ t. rw t.0 (omega (arith, total-without f p ps zero_there, ap f t.1, zero_there)))
    (λ t. rw t.0 (ap (λ (k : ℕ). f q + k) (total-without f p ps zero_there)))
    (eqb_tells q p)

total_same : (f g : ℕ → ℕ) (p : ℕ) (ps : List ℕ) → ((q : ℕ) → q ≢ p → g q ≡ f q) → times p ps ≡ 0 → total g ps ≡ total f ps
total_same f g p [] others out = refl
total_same f g p (q ∷ ps) others out = ⊎_elim
    (λ t. absurd (omega (arith, ap {B = ℕ} (λ (b : Bool). cond b 1 0) t.0, out)))
    (λ t. omega (arith, others q (λ e. t.1 (sym e)), total_same f g p ps others (omega (arith, out))))
    (eqb_tells p q)

total_one : (f g : ℕ → ℕ) (p : ℕ) (ps : List ℕ) → ((q : ℕ) → q ≢ p → g q ≡ f q) → times p ps ≡ 1 → total g ps + f p ≡ total f ps + g p
total_one f g p [] others once = absurd (omega (arith, once))
total_one f g p (q ∷ ps) others once = ⊎_elim
    (λ t. omega (arith, ap f t.1, ap g t.1, total_same f g p ps others (omega (arith, ap {B = ℕ} (λ (b : Bool). cond b 1 0) t.0, once))))
    (λ t. omega (arith, others q (λ e. t.1 (sym e)), total_one f g p ps others (omega (arith, ap {B = ℕ} (λ (b : Bool). cond b 1 0) t.0, once))))
    (eqb_tells p q)

total_all : (f g : ℕ → ℕ) (ps : List ℕ) → ((q : ℕ) → f q ≤ g q) → total f ps ≤ total g ps
total_all f g [] each = omega arith
total_all f g (q ∷ ps) each = omega (arith, each q, total_all f g ps each)

total_below : (f g : ℕ → ℕ) (p : ℕ) (ps : List ℕ) → ((q : ℕ) → f q ≤ g q) → times p ps ≡ 1 → f p ≡ 0 → total f ps + g p ≤ total g ps
total_below f g p [] each once zero_there = absurd (omega (arith, once))
total_below f g p (q ∷ ps) each once zero_there = ⊎_elim
    (λ t. omega (arith, ap f t.1, ap g t.1, zero_there, total_all f g ps each))
    (λ t. omega (arith, each q, total_below f g p ps each (omega (arith, ap {B = ℕ} (λ (b : Bool). cond b 1 0) t.0, once)) zero_there))
    (eqb_tells p q)

pub total_count : (g : ℕ → ℕ) (ps : List ℕ) → ((q : ℕ) → g q ≤ 1) → total g ps ≤ length ps
total_count g [] each = omega arith
total_count g (q ∷ ps) each = omega (arith, each q, total_count g ps each)

abbrev is_in : {C : Type 0} → Option C → ℕ
is_in none = 0
is_in (some call) = 1

module _ {T C A : Type 0} (o : Object T C A) where
  abbrev Course : Type 0
  Course = List (Entry T C A)

  abbrev at : Course → State T
  at course = state o.shape (events course)

  -- a pass at rest is in no call, and one in an operation is in that call
  abbrev Agrees : Stage C A → Option C → Type 0
  Agrees Rests c = c ≡ none
  Agrees (Pending call) c = c ≡ some call
  Agrees (TookEffect x) c = (call : C) × (c ≡ some call)

  here : (p q : ℕ) (s : Stage C A) (course : Course) → q ≡ p → stage q course ≡ s → Agrees (stage p course) (call_of p course) → Agrees s (call_of p course)
  here p q s course mine is a = subst (λ (u : Stage C A). Agrees u (call_of p course)) (ap (λ (i : ℕ). stage i course) (sym mine) ∙ is) a

  agrees : (p : ℕ) (course : Course) → IsLinearization o course → Agrees (stage p course) (call_of p course)
  agrees p [] r = refl
  agrees p (Invokes q call ∷ course) r = ⊎_elim (λ t. rw t.0 refl) (λ t. rw t.0 (agrees p course r.1)) (eqb_tells q p)
  agrees p (Responds q x ∷ course) r = ⊎_elim (λ t. rw t.0 refl) (λ t. rw t.0 (agrees p course r.2)) (eqb_tells q p)
  agrees p (Hand e ∷ course) r = agrees p course r.3
  agrees p (Updates k e ∷ course) r = ⊎_elim
      (λ t. rw t.0 (k.call, here p k.by (Pending k.call) course t.1 r.0 (agrees p course r.4)))
      (λ t. rw t.0 (agrees p course r.4))
      (eqb_tells k.by p)
  agrees p (Reads k ∷ course) r = ⊎_elim
      (λ t. rw t.0 (k.call, here p k.by (Pending k.call) course t.1 r.0 (agrees p course r.2)))
      (λ t. rw t.0 (agrees p course r.2))
      (eqb_tells k.by p)

  in_none : (p : ℕ) (course : Course) → IsLinearization o course → stage p course ≡ Rests → call_of p course ≡ none
  in_none p course r is = subst (λ (s : Stage C A). Agrees s (call_of p course)) is (agrees p course r)

  in_call : (p : ℕ) (call : C) (course : Course) → IsLinearization o course → stage p course ≡ Pending call → call_of p course ≡ some call
  in_call p call course r is = subst (λ (s : Stage C A). Agrees s (call_of p course)) is (agrees p course r)

  -- the events of a linearization are legal
  pub legal : (course : Course) → IsLinearization o course → Legal o.shape (events course)
  legal [] r = tt
  legal (Invokes p call ∷ course) r = legal course r.1
  legal (Responds p x ∷ course) r = legal course r.2
  legal (Hand e ∷ course) r = (r.2, legal course r.3)
  legal (Updates k e ∷ course) r = (r.3, legal course r.4)
  legal (Reads k ∷ course) r = legal course r.2

  -- No pass has more cells in hand than the call that it is in may have, and one that is in no call has none
  moved : (course : Course) (e : Event T) (p : ℕ) → MayHold o e (events course) (call_of (pass_of e) course) → (at course).hand p ≤ most_of o (call_of p course) → (after o.shape (at course) e).hand p ≤ most_of o (call_of p course)
  moved course e p may before = ⊎_elim
      (λ t. subst (λ (q : ℕ). (after o.shape (at course) e).hand q ≤ most_of o (call_of q course)) t.1 may)
      (λ t. subst (λ (k : ℕ). k ≤ most_of o (call_of p course)) (sym (hand_other o.shape (at course) p e (λ same. t.1 (sym same)))) before)
      (eqb_tells (pass_of e) p)

  pub hands : (course : Course) → IsLinearization o course → (p : ℕ) → (at course).hand p ≤ most_of o (call_of p course)
  hands [] r p = omega arith
  hands (Invokes q call ∷ course) r p = ⊎_elim
      (λ t. rw t.0 (omega (arith, subst (λ (c : Option C). (at course).hand p ≤ most_of o c) (ap (λ (i : ℕ). call_of i course) (sym t.1) ∙ in_none q course r.1 r.0) (hands course r.1 p))))
      (λ t. rw t.0 (hands course r.1 p))
      (eqb_tells q p)
  hands (Responds q x ∷ course) r p = ⊎_elim
      (λ t. rw t.0 (omega (arith, ap (at course).hand (sym t.1) ∙ r.1)))
      (λ t. rw t.0 (hands course r.2 p))
      (eqb_tells q p)
  hands (Hand e ∷ course) r p = moved course e p r.1 (hands course r.3 p)
  hands (Updates k e ∷ course) r p = moved course e p r.2 (hands course r.4 p)
  hands (Reads k ∷ course) r p = hands course r.2 p

  -- each pass that is in a call stands once among those under way
  once : (course : Course) → IsLinearization o course → (p : ℕ) → times p (under_way course) ≡ is_in (call_of p course)
  once [] r p = refl
  once (Invokes q call ∷ course) r p = ⊎_elim
      (λ t. rw t.0 (omega (arith, ap {B = ℕ} (λ (b : Bool). cond b 1 0) (eq-eqb p q (sym t.1)), once course r.1 p, ap is_in (ap (λ (i : ℕ). call_of i course) (sym t.1) ∙ in_none q course r.1 r.0))))
      (λ t. rw t.0 (omega (arith, ap {B = ℕ} (λ (b : Bool). cond b 1 0) (ne_eqb p q (λ e. t.1 (sym e))), once course r.1 p)))
      (eqb_tells q p)
  once (Responds q x ∷ course) r p = ⊎_elim
      (λ t. rw t.0 (subst (λ (i : ℕ). times i (without q (under_way course)) ≡ 0) t.1 (not_in-without q (under_way course))))
      (λ t. rw t.0 (others-without q p (under_way course) (λ e. t.1 (sym e)) ∙ once course r.2 p))
      (eqb_tells q p)
  once (Hand e ∷ course) r p = once course r.3 p
  once (Updates k e ∷ course) r p = once course r.4 p
  once (Reads k ∷ course) r p = once course r.2 p

  -- an event changes the count of cells in hand as it changes its pass's hand
  balance : (s : State T) (e : Event T) → Needs o.shape s e → s.hand (pass_of e) ≤ s.held → (after o.shape s e).held + s.hand (pass_of e) ≡ s.held + (after o.shape s e).hand (pass_of e)
  balance s (Hold q) needs within = omega (arith, with_hand-same s.hand q (s.hand q + 1))
  balance s (Put q vs n) needs within = omega (arith, with_hand-same s.hand q (s.hand q - length vs), needs.2, within)
  balance s (Take q v n) needs within = omega (arith, with_hand-same s.hand q (s.hand q + 1))
  balance s (TakeAll q vs n) needs within = omega (arith, with_hand-same s.hand q (s.hand q + length vs))
  balance s (Free q k) needs within = omega (arith, with_hand-same s.hand q (s.hand q - k), needs.1, within)
  balance s (Close q) needs within = refl
  balance s (Shut q) needs within = refl

  -- all cells in hand are in those of the passes under way
  abbrev IsSum : Course → Type 0
  IsSum course = (at course).held ≡ total (at course).hand (under_way course)

  moved_sum : (course : Course) (r : IsLinearization o course) (e : Event T) → Needs o.shape (at course) e → MayHold o e (events course) (call_of (pass_of e) course) → IsSum course
      → (c : Option C) → call_of (pass_of e) course ≡ c → (after o.shape (at course) e).held ≡ total (after o.shape (at course) e).hand (under_way course)
  moved_sum course r e needs may before none is =
      let same = total_same (at course).hand (after o.shape (at course) e).hand (pass_of e) (under_way course) (λ q ne. hand_other o.shape (at course) q e ne) (once course r (pass_of e) ∙ ap is_in is) in
      let was : (at course).hand (pass_of e) ≤ 0 = subst (λ (c : Option C). (at course).hand (pass_of e) ≤ most_of o c) is (hands course r (pass_of e)) in
      let now : (after o.shape (at course) e).hand (pass_of e) ≤ 0 = subst (λ (c : Option C). (after o.shape (at course) e).hand (pass_of e) ≤ most_of o c) is may in
      omega (arith, same, was, now, before, balance (at course) e needs (hand_within o.shape (events course) (pass_of e) (legal course r)))
  moved_sum course r e needs may before (some call) is =
      let one = total_one (at course).hand (after o.shape (at course) e).hand (pass_of e) (under_way course) (λ q ne. hand_other o.shape (at course) q e ne) (once course r (pass_of e) ∙ ap is_in is) in
      omega (arith, one, before, balance (at course) e needs (hand_within o.shape (events course) (pass_of e) (legal course r)))

  sum : (course : Course) → IsLinearization o course → IsSum course
  sum [] r = refl
  sum (Invokes q call ∷ course) r =
      omega (arith, sum course r.1, subst (λ (c : Option C). (at course).hand q ≤ most_of o c) (in_none q course r.1 r.0) (hands course r.1 q))
  sum (Responds q x ∷ course) r = sum course r.2 ∙ sym (total-without (at course).hand q (under_way course) r.1)
  sum (Hand e ∷ course) r = moved_sum course r.3 e r.2 r.1 (sum course r.3) (call_of (pass_of e) course) refl
  sum (Updates k e ∷ course) r = moved_sum course r.4 e r.3 r.2 (sum course r.4) (call_of (pass_of e) course) refl
  sum (Reads k ∷ course) r = sum course r.2

  -- Where each cell holds a value or is in a hand, and a pass in a call has none: the values are at least as many as the cells without those
  -- that the other calls under way may have in hand
  pub full : (course : Course) → IsLinearization o course → (p : ℕ) (call : C) → stage p course ≡ Pending call → (at course).hand p ≡ 0 → IsFull o.shape (events course)
      → o.shape.capacity + o.most call ≤ length (at course).values + most_in_hand o course
  full course r p call asks holds_none is_full =
      let calls : call_of p course ≡ some call = in_call p call course r asks in
      let below = total_below (at course).hand (λ q. most_of o (call_of q course)) p (under_way course) (hands course r) (once course r p ∙ ap is_in calls) holds_none in
      omega (arith, below, sum course r, is_full, ap (most_of o) calls)

  -- a pass that is in no call has nothing in hand
  same_call : (p : ℕ) (course : Course) → call_of p (without_points course) ≡ call_of p course
  same_call p [] = refl
  same_call p (Invokes q call ∷ course) = ap (λ (c : Option C). cond (q == p) (some call) c) (same_call p course)
  same_call p (Responds q x ∷ course) = ap (λ (c : Option C). cond (q == p) none c) (same_call p course)
  same_call p (m ∷ course) = same_call p course

  pub rests_empty : (p : ℕ) (course : Course) → IsLinearization o course → call_of p (without_points course) ≡ none → (at course).hand p ≡ 0
  rests_empty p course r calls = omega (arith, subst (λ (c : Option C). (at course).hand p ≤ most_of o c) (sym (same_call p course) ∙ calls) (hands course r p))

  -- a hand moves only in a call
  pub hand_moves : (e : Event T) (course : Course) → IsLinearization o (Hand e ∷ course) → stage (pass_of e) course ≡ Rests → ⊥
  hand_moves e course r rests =
      let calls : call_of (pass_of e) course ≡ none = in_none (pass_of e) course r.3 rests in
      let was : (at course).hand (pass_of e) ≤ 0 = subst (λ (c : Option C). (at course).hand (pass_of e) ≤ most_of o c) calls (hands course r.3 (pass_of e)) in
      let now : (after o.shape (at course) e).hand (pass_of e) ≤ 0 = subst (λ (c : Option C). (after o.shape (at course) e).hand (pass_of e) ≤ most_of o c) calls r.1 in
      still e r.0 r.2 was now
    where
      still : (e : Event T) → IsHand e → Needs o.shape (at course) e → (at course).hand (pass_of e) ≤ 0 → (after o.shape (at course) e).hand (pass_of e) ≤ 0 → ⊥
      still (Hold q) hand needs was now = absurd (omega (arith, now, with_hand-same (at course).hand q ((at course).hand q + 1)))
      still (Free q k) hand needs was now = absurd (omega (arith, needs.0, needs.1, was))
      still e hand needs was now = absurd hand

  -- what is in hand at any time of a history that has a linearization
  pub hands_in : (few : ℕ) → ((call : C) → o.most call ≤ few) → (course : Course) → IsLinearization o course → (more older : List (Event T)) → events course ≡ more ++ older → (p : ℕ) → (state o.shape older).hand p ≤ few
  hands_in few each course r more older is p =
      let s = split more course older is in
      let before : IsLinearization o s.older = run_before o s.newer s.older (subst (IsLinearization o) s.is r) in
      subst (λ (h : List (Event T)). (state o.shape h).hand p ≤ few) s.below (at_most (call_of p s.older) (hands s.older before p))
    where
      at_most : {k : ℕ} (c : Option C) → k ≤ most_of o c → k ≤ few
      at_most none less = omega (arith, less)
      at_most (some call) less = omega (arith, less, each call)

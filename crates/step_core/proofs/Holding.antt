-- How many cells a pass has in hand, by its own events; and a call that holds no more than it may.
use Rattle.std.proofs.Common.{◌≡◌, ◌≢◌, ℕ, ◌+◌, ◌-◌, ◌≤◌, List, [], ◌∷◌, ◌++◌, length, refl, sym, ap, ◌∙◌, subst, ⊎_elim, append_assoc, arith}
use Rattle.std.proofs.lemmas.Bool.Decides.{eqb_tells}
use mathlib.Core.Option.{Option, some}
use Rattle.bounded_model.specs.declared.history.Event.{Event}
use Rattle.bounded_model.specs.declared.history.Event.TheVariants.{Hold, Put, Take, TakeAll, Free, Close, Shut}
use Rattle.bounded_model.specs.Histories.{own, pass_of, Later}
use Rattle.bounded_model.specs.Machine.{Shape, State, state, after, with_hand}
use Rattle.bounded_model.proofs.Hands.{with_hand-same, with_hand-other}
use Rattle.bounded_model.proofs.Histories.{no_parts, own-append, own-mine, own-other, own-between}
use Rattle.step_core.specs.Linearizable.{Object, Entry, events, call_of, most_of}
use Rattle.step_core.proofs.Entries.{Mine, own_of_mine, Fits}

module _ {T : Type 0} where
  -- how many cells a pass has in hand after these events of its own
  abbrev pub hand_after : List (Event T) → ℕ
  hand_after [] = 0
  hand_after (Hold p ∷ es) = hand_after es + 1
  hand_after (Put p vs n ∷ es) = hand_after es - length vs
  hand_after (Take p v n ∷ es) = hand_after es + 1
  hand_after (TakeAll p vs n ∷ es) = hand_after es + length vs
  hand_after (Free p k ∷ es) = hand_after es - k
  hand_after (Close p ∷ es) = hand_after es
  hand_after (Shut p ∷ es) = hand_after es

  module _ (c : Shape) (s : State T) (p : ℕ) where
    -- another pass's event leaves its hand
    pub hand_other : (e : Event T) → p ≢ pass_of e → (after c s e).hand p ≡ s.hand p
    hand_other (Hold q) ne = with_hand-other s.hand q (s.hand q + 1) p ne
    hand_other (Put q vs n) ne = with_hand-other s.hand q (s.hand q - length vs) p ne
    hand_other (Take q v n) ne = with_hand-other s.hand q (s.hand q + 1) p ne
    hand_other (TakeAll q vs n) ne = with_hand-other s.hand q (s.hand q + length vs) p ne
    hand_other (Free q k) ne = with_hand-other s.hand q (s.hand q - k) p ne
    hand_other (Close q) ne = refl
    hand_other (Shut q) ne = refl

    -- and its own does what the event says
    becomes : (q k : ℕ) → q ≡ p → with_hand s.hand q k p ≡ k
    becomes q k is = ap (with_hand s.hand q k) (sym is) ∙ with_hand-same s.hand q k

    hand_mine : (e : Event T) (es : List (Event T)) → pass_of e ≡ p → s.hand p ≡ hand_after es → (after c s e).hand p ≡ hand_after (e ∷ es)
    hand_mine (Hold q) es is before = becomes q (s.hand q + 1) is ∙ ap (λ (k : ℕ). k + 1) (ap s.hand is ∙ before)
    hand_mine (Put q vs n) es is before = becomes q (s.hand q - length vs) is ∙ ap (λ (k : ℕ). k - length vs) (ap s.hand is ∙ before)
    hand_mine (Take q v n) es is before = becomes q (s.hand q + 1) is ∙ ap (λ (k : ℕ). k + 1) (ap s.hand is ∙ before)
    hand_mine (TakeAll q vs n) es is before = becomes q (s.hand q + length vs) is ∙ ap (λ (k : ℕ). k + length vs) (ap s.hand is ∙ before)
    hand_mine (Free q j) es is before = becomes q (s.hand q - j) is ∙ ap (λ (k : ℕ). k - j) (ap s.hand is ∙ before)
    hand_mine (Close q) es is before = before
    hand_mine (Shut q) es is before = before

  -- a pass's hand is what its own events have left in it
  pub hand_is : (c : Shape) (p : ℕ) (h : List (Event T)) → (state c h).hand p ≡ hand_after (own p h)
  hand_is c p [] = refl
  hand_is c p (e ∷ h) = ⊎_elim
      (λ t. hand_mine c (state c h) p e (own p h) t.1 (hand_is c p h) ∙ ap hand_after (sym (own-mine p e h t.1)))
      (λ t. hand_other c (state c h) p e (λ same. t.1 (sym same)) ∙ hand_is c p h ∙ ap hand_after (sym (own-other p e h t.1)))
      (eqb_tells (pass_of e) p)

  -- events over some that leave nothing
  pub hand_over : (es base : List (Event T)) → hand_after base ≡ 0 → hand_after (es ++ base) ≡ hand_after es
  hand_over [] base empty = empty
  hand_over (Hold p ∷ es) base empty = ap (λ (k : ℕ). k + 1) (hand_over es base empty)
  hand_over (Put p vs n ∷ es) base empty = ap (λ (k : ℕ). k - length vs) (hand_over es base empty)
  hand_over (Take p v n ∷ es) base empty = ap (λ (k : ℕ). k + 1) (hand_over es base empty)
  hand_over (TakeAll p vs n ∷ es) base empty = ap (λ (k : ℕ). k + length vs) (hand_over es base empty)
  hand_over (Free p j ∷ es) base empty = ap (λ (k : ℕ). k - j) (hand_over es base empty)
  hand_over (Close p ∷ es) base empty = hand_over es base empty
  hand_over (Shut p ∷ es) base empty = hand_over es base empty

  -- with these events a pass never has more than `most` cells in hand
  abbrev pub Within : ℕ → List (Event T) → Type 0
  Within most [] = Unit {0}
  Within most (e ∷ es) = (hand_after (e ∷ es) ≤ most) × Within most es

  -- and at their end none
  abbrev pub Balanced : ℕ → List (Event T) → Type 0
  Balanced most es = Within most es × (hand_after es ≡ 0)

  pub one_put : (p : ℕ) (v : T) (k : ℕ) → Balanced 1 (Put p (v ∷ []) k ∷ Hold p ∷ [])
  one_put p v k = ((omega arith, (omega arith, tt)), refl)

  pub one_taken : (p : ℕ) (v : T) (k : ℕ) → Balanced 1 (Free p 1 ∷ Take p v k ∷ [])
  one_taken p v k = ((omega arith, (omega arith, tt)), refl)

  -- a call that has made no event finds its pass's hand as it was at the begin: empty
  pub unmoved : (c : Shape) (p : ℕ) (b seen between : List (Event T)) → seen ≡ between ++ b → hand_after (own p b) ≡ 0 → own p between ≡ [] → (h : List (Event T)) → Later b h → Later h seen → (state c h).hand p ≡ 0
  unmoved c p b seen between is empty nothing h since until =
      let same : own p seen ≡ own p b = ap (own p) is ∙ own-append p between b ∙ ap (λ (l : List (Event T)). l ++ own p b) nothing in
      let whole : (until.more ++ since.more) ++ b ≡ seen = append_assoc until.more since.more b ∙ ap (λ (l : List (Event T)). until.more ++ l) (sym since.is) ∙ sym until.is in
      let between_none : own p (until.more ++ since.more) ≡ [] = own-between p (until.more ++ since.more) b (ap (own p) whole ∙ same) in
      let two = no_parts (own p until.more) (own p since.more) (sym (own-append p until.more since.more) ∙ between_none) in
      let here : own p h ≡ own p b = ap (own p) since.is ∙ own-append p since.more b ∙ ap (λ (l : List (Event T)). l ++ own p b) two.1 in
      hand_is c p h ∙ ap hand_after here ∙ empty

pub none_held : (T : Type 0) (most : ℕ) → Balanced {T = T} most []
none_held T most = (tt, refl)

pub one_held : (T : Type 0) (p : ℕ) → Within {T = T} 1 (Hold p ∷ [])
one_held T p = (omega arith, tt)

pub one_freed : (T : Type 0) (p : ℕ) → Balanced {T = T} 1 (Free p 1 ∷ Hold p ∷ [])
one_freed T p = ((omega arith, (omega arith, tt)), refl)

module _ {T C A : Type 0} (o : Object T C A) (p : ℕ) (call : C) (course : List (Entry T C A)) (before base : List (Event T)) where
  -- the events of a step of pass p's call, by all that the call has made
  pub fits : (es : List (Event T)) → own p (events course) ≡ before ++ base → hand_after base ≡ 0 → call_of p course ≡ some call → Mine p es → Within (o.most call) (es ++ before) → Fits o course es
  fits [] were empty in_call mine within = tt
  fits (e ∷ es) were empty in_call mine within =
      let all : own p (e ∷ es ++ events course) ≡ (e ∷ es ++ before) ++ base =
      own-append p (e ∷ es) (events course) ∙ ap (λ (l : List (Event T)). l ++ own p (events course)) (own_of_mine p (e ∷ es) mine) ∙ ap (λ (l : List (Event T)). (e ∷ es) ++ l) were ∙ sym (append_assoc (e ∷ es) before base) in
      let hand : (state o.shape (e ∷ es ++ events course)).hand p ≡ hand_after (e ∷ es ++ before) = hand_is o.shape p (e ∷ es ++ events course) ∙ ap hand_after all ∙ hand_over (e ∷ es ++ before) base empty in
      let may : hand_after (e ∷ es ++ before) ≤ most_of o (call_of p course) = subst (λ (c : Option C). hand_after (e ∷ es ++ before) ≤ most_of o c) (sym in_call) within.0 in (
        subst (λ (q : ℕ). (state o.shape (e ∷ es ++ events course)).hand q ≤ most_of o (call_of q course)) (sym mine.0) (subst (λ (k : ℕ). k ≤ most_of o (call_of p course)) (sym hand) may),
        fits es were empty in_call mine.1 within.1,
      )

-- The passes that the seats stand for: where a pass's line is among them, and what stays the same of them when seats are cut in two and made one.
use Rattle.std.proofs.Common.{◌≡◌, ◌≢◌, ℕ, zero, suc, ◌+◌, ◌⊎◌, inl, inr, ⊎_elim, Bool, true, false, List, [], ◌∷◌, ◌++◌, length, set, refl, sym, ap, ◌∙◌, subst, arith}
use Rattle.std.proofs.lemmas.Bool.{false≢true}
use mathlib.Core.Option.{some, some-injective, some-ne-none}
use lib.ListN.{get_elem?}
use Rattle.machine.specs.Words.{total}
use Rattle.machine.proofs.Sums.{total_set, total_snoc, at_set}
use Rattle.machine.proofs.Scheduled.{set_other}
use Rattle.ring_machine.specs.declared.lines.Line.{Line}
use Rattle.ring_machine.specs.Machine.{cell_of, resting}
use Rattle.ring_table.specs.declared.line.SeatLine.{SeatLine}
use Rattle.ring_table.specs.declared.line.SeatLine.TheVariants.{At, Stock}
use Rattle.ring_table.specs.Seats.{passes_at, passes_of, quiet}

module _ {A : Type 0} where
  pub at_left : (xs ys : List A) (q : ℕ) (x : A) → get_elem? xs q ≡ some x → get_elem? (xs ++ ys) q ≡ some x
  at_left [] ys q x e = absurd (some-ne-none x (sym e))
  at_left (y ∷ xs) ys zero x e = e
  at_left (y ∷ xs) ys (suc q) x e = at_left xs ys q x e

  pub at_right : (xs ys : List A) (q : ℕ) → get_elem? (xs ++ ys) (length xs + q) ≡ get_elem? ys q
  at_right [] ys q = let same : 0 + q ≡ q = omega arith in ap (get_elem? ys) same
  at_right (x ∷ xs) ys q = let same : suc (length xs) + q ≡ suc (length xs + q) = omega arith in ap (get_elem? (x ∷ xs ++ ys)) same ∙ at_right xs ys q

  set_right : (xs ys : List A) (q : ℕ) (x : A) → set (xs ++ ys) (length xs + q) x ≡ xs ++ set ys q x
  set_right [] ys q x = let same : 0 + q ≡ q = omega arith in ap (λ (k : ℕ). set ys k x) same
  set_right (y ∷ xs) ys q x = let same : suc (length xs) + q ≡ suc (length xs + q) = omega arith in ap (λ (k : ℕ). set (y ∷ xs ++ ys) k x) same ∙ ap (λ (zs : List A). y ∷ zs) (set_right xs ys q x)

  -- what is in one of two lists, one behind the other
  pub at_either : (xs ys : List A) (q : ℕ) (x : A) → get_elem? (xs ++ ys) q ≡ some x → (get_elem? xs q ≡ some x) ⊎ ((r : ℕ) × (get_elem? ys r ≡ some x))
  at_either [] ys q x e = inr (q, e)
  at_either (y ∷ xs) ys zero x e = inl e
  at_either (y ∷ xs) ys (suc q) x e = at_either xs ys q x e

  total_append : (f : A → ℕ) (xs ys : List A) → total f (xs ++ ys) ≡ total f xs + total f ys
  total_append f [] ys = omega arith
  total_append f (x ∷ xs) ys = let r = total_append f xs ys in omega arith

module _ {T : Type 0} where
  -- where the line of a pass's seat is among those of all passes
  pub record Found (seats : List (SeatLine T)) (q : ℕ) (l : Line T) : Type 0 where
    pub place : ℕ
    pub there : get_elem? (passes_of seats) place ≡ some l
    pub sets : (l' : Line T) → passes_of (set seats q (At l')) ≡ set (passes_of seats) place l'

  pub found : (seats : List (SeatLine T)) (q : ℕ) (l : Line T) → get_elem? seats q ≡ some (At l) → Found seats q l
  found [] q l e = absurd (some-ne-none (At l) (sym e))
  found (s ∷ seats) zero l e =
      let is : s ≡ At l = some-injective s (At l) e in
      subst (λ (t : SeatLine T). Found (t ∷ seats) zero l) (sym is) (record { place = 0; there = refl; sets = λ l'. refl })
  found (s ∷ seats) (suc q) l e =
      let f = found seats q l e in
      record {
        place = length (passes_at s) + f.place;
        there = at_right (passes_at s) (passes_of seats) f.place ∙ f.there;
        sets = λ l'. ap (λ (ls : List (Line T)). passes_at s ++ ls) (f.sets l') ∙ sym (set_right (passes_at s) (passes_of seats) f.place l');
      }

  -- a pass that a seat stands for
  pub record Among (seats : List (SeatLine T)) (l : Line T) : Type 0 where
    pub seat : ℕ
    pub at : SeatLine T
    pub place : ℕ
    pub there : get_elem? seats seat ≡ some at
    pub here : get_elem? (passes_at at) place ≡ some l

  pub among : (seats : List (SeatLine T)) (q : ℕ) (l : Line T) → get_elem? (passes_of seats) q ≡ some l → Among seats l
  among [] q l e = absurd (some-ne-none l (sym e))
  among (s ∷ seats) q l e = ⊎_elim
      (λ h. record { seat = 0; at = s; place = q; there = refl; here = h })
      (λ t. let a = among seats t.0 l t.1 in record { seat = suc a.seat; at = a.at; place = a.place; there = a.there; here = a.here })
      (at_either (passes_at s) (passes_of seats) q l e)

  pub at_seat : (seats : List (SeatLine T)) (l : Line T) (k : ℕ) (s : SeatLine T) (i : ℕ) → get_elem? seats k ≡ some s → get_elem? (passes_at s) i ≡ some l → (q : ℕ) × (get_elem? (passes_of seats) q ≡ some l)
  at_seat [] l k s i e h = absurd (some-ne-none s (sym e))
  at_seat (t ∷ seats) l zero s i e h = (i, at_left (passes_at t) (passes_of seats) i l (subst (λ (u : SeatLine T). get_elem? (passes_at u) i ≡ some l) (sym (some-injective t s e)) h))
  at_seat (t ∷ seats) l (suc k) s i e h = let r = at_seat seats l k s i e h in (length (passes_at t) + r.0, at_right (passes_at t) (passes_of seats) r.0 ∙ r.1)

  -- a sum over the passes, seat by seat
  abbrev pub sum_at : (Line T → ℕ) → SeatLine T → ℕ
  sum_at f s = total f (passes_at s)

  pub total_passes : (f : Line T → ℕ) (seats : List (SeatLine T)) → total f (passes_of seats) ≡ total (sum_at f) seats
  total_passes f [] = refl
  total_passes f (s ∷ seats) = let r = total_passes f seats in omega (arith, total_append f (passes_at s) (passes_of seats))

  -- these seats stand for the same passes as those
  pub record Same (seats seats' : List (SeatLine T)) : Type 0 where
    pub sums : (f : Line T → ℕ) → total f (passes_of seats') ≡ total f (passes_of seats)
    pub from : (q : ℕ) (l : Line T) → get_elem? (passes_of seats') q ≡ some l → (r : ℕ) × (get_elem? (passes_of seats) r ≡ some l)

  pub same_all : (seats seats' : List (SeatLine T)) → seats' ≡ seats → Same seats seats'
  same_all seats seats' e = subst (Same seats) (sym e) (record { sums = λ f. refl; from = λ q l at. (q, at) })

  -- the passes of a seat's line are those of its two parts
  pub record Halves (line left right : SeatLine T) : Type 0 where
    pub sums : (f : Line T → ℕ) → sum_at f line ≡ sum_at f left + sum_at f right
    pub first : (i : ℕ) (l : Line T) → get_elem? (passes_at left) i ≡ some l → (r : ℕ) × (get_elem? (passes_at line) r ≡ some l)
    pub second : (i : ℕ) (l : Line T) → get_elem? (passes_at right) i ≡ some l → (r : ℕ) × (get_elem? (passes_at line) r ≡ some l)

  pub same_cut : (seats : List (SeatLine T)) (k : ℕ) (line left right : SeatLine T) → get_elem? seats k ≡ some line → Halves line left right → Same seats (set seats k left ++ right ∷ [])
  same_cut seats k line left right here h = record {
    sums = λ f. omega (
      arith,
      total_passes f (set seats k left ++ right ∷ []),
      total_passes f seats,
      total_snoc (sum_at f) (set seats k left) right,
      total_set (sum_at f) seats k line left here,
      h.sums f,
    );
    from = λ q l at. let a = among (set seats k left ++ right ∷ []) q l at in from_seat a.seat a.at a.place l a.there a.here;
  }
    where
      from_seat : (j : ℕ) (s : SeatLine T) (i : ℕ) (l : Line T) → get_elem? (set seats k left ++ right ∷ []) j ≡ some s → get_elem? (passes_at s) i ≡ some l → (r : ℕ) × (get_elem? (passes_of seats) r ≡ some l)
      from_seat j s i l there here' = ⊎_elim
          (λ e. ⊎_elim
          (λ t. let r = h.first i l (subst (λ (u : SeatLine T). get_elem? (passes_at u) i ≡ some l) (sym t.1) here') in at_seat seats l k line r.0 here r.1)
          (λ t. at_seat seats l j s i t.1 here')
          (at_set seats k j left s e))
          (λ t. let r = h.second i l (subst (λ (u : SeatLine T). get_elem? (passes_at u) i ≡ some l) (sym (only t.0 s t.1)) here') in at_seat seats l k line r.0 here r.1)
          (at_either (set seats k left) (right ∷ []) j s there)
        where
          only : (z : ℕ) (u : SeatLine T) → get_elem? (right ∷ []) z ≡ some u → right ≡ u
          only zero u e = some-injective right u e
          only (suc z) u e = absurd (some-ne-none u (sym e))

  -- the passes of two seats are those of one, and the other is left with none
  pub record Whole (line line' both : SeatLine T) : Type 0 where
    pub sums : (f : Line T → ℕ) → sum_at f both ≡ sum_at f line + sum_at f line'
    pub parts : (i : ℕ) (l : Line T) → get_elem? (passes_at both) i ≡ some l → ((r : ℕ) × (get_elem? (passes_at line) r ≡ some l)) ⊎ ((r : ℕ) × (get_elem? (passes_at line') r ≡ some l))

  pub same_union : (seats : List (SeatLine T)) (k other : ℕ) (line line' both : SeatLine T) → other ≢ k → get_elem? seats k ≡ some line → get_elem? seats other ≡ some line' → Whole line line' both → Same seats (set (set seats k both) other (Stock []))
  same_union seats k other line line' both apart here there w =
      let there' : get_elem? (set seats k both) other ≡ some line' = set_other seats k other both (λ e. apart (sym e)) ∙ there in
      record {
        sums = λ f. omega (
          arith,
          total_passes f (set (set seats k both) other (Stock [])),
          total_passes f seats,
          total_set (sum_at f) (set seats k both) other line' (Stock []) there',
          total_set (sum_at f) seats k line both here,
          w.sums f,
        );
        from = λ q l at. let a = among (set (set seats k both) other (Stock [])) q l at in from_seat a.seat a.at a.place l a.there a.here;
      }
    where
      from_seat : (j : ℕ) (s : SeatLine T) (i : ℕ) (l : Line T) → get_elem? (set (set seats k both) other (Stock [])) j ≡ some s → get_elem? (passes_at s) i ≡ some l → (r : ℕ) × (get_elem? (passes_of seats) r ≡ some l)
      from_seat j s i l at here' = ⊎_elim
          (λ t. absurd (some-ne-none l (sym (subst (λ (u : SeatLine T). get_elem? (passes_at u) i ≡ some l) (sym t.1) here'))))
          (λ t. ⊎_elim
          (λ u. ⊎_elim
          (λ r. at_seat seats l k line r.0 here r.1)
          (λ r. at_seat seats l other line' r.0 there r.1)
          (w.parts i l (subst (λ (z : SeatLine T). get_elem? (passes_at z) i ≡ some l) (sym u.1) here')))
          (λ u. at_seat seats l j s i u.1 here')
          (at_set seats k j both s t.1))
          (at_set (set seats k both) other j (Stock []) s at)

  -- a pass between its operations has its spare cell, and has answered nothing
  abbrev is_at : SeatLine T → Bool
  is_at (At l) = true
  is_at (Stock cs) = false

  pub rests_with : (s : SeatLine T) → quiet s ≡ s → (c : ℕ) × (s ≡ At (resting c))
  rests_with (At l) e = (cell_of l, sym e)
  rests_with (Stock cs) e = absurd (false≢true (sym (ap is_at e)))

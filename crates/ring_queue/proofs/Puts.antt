-- Where a put goes on.
use Rattle.std.proofs.Common.{◌≡◌, ℕ, ◌+◌, ◌*◌, ◌<◌, Bool, true, false, cond, eqb, leb, ltb, List, [], ◌∷◌, refl, sym, ap, ◌∙◌, arith}
use Rattle.std.proofs.lemmas.Bool.{false≢true, cond-true, cond-false}
use Rattle.std.proofs.lemmas.Bool.Decides.{nat_tests}
use Rattle.std.specs.Prelude.{Option as Slot, Some, None, Err}
use Rattle.core.specs.declared.snapshot.Snapshot.{Snapshot}
use Rattle.atomic_table.specs.Table.{rest}
use Rattle.ring_queue.specs.Prelude.{AnswerPut, At, Came, Closed, Done, Full, Line, Next, NextWord, On, Outcome, PutCell, PutRefused, Spent, StowLine}
use Rattle.ring_queue.specs.Prelude.{ToPut, fields_of, index_of, mark_of, tag_of}
use Rattle.ring_queue.specs.declared.code.putting.PutAt.{PutAt}
use Rattle.ring_queue.specs.declared.code.putting.PutAt.TheVariants.{Walking, Exchange, Stow}
use Rattle.ring_queue.specs.Calls.{RingWith, laps_of, machine_of}
use Rattle.ring_queue.specs.declared.code.walking.Found.{Found}
use Rattle.ring_queue.specs.declared.code.walking.WalkAt.{WalkAt}
use Rattle.ring_queue.specs.code.Machine.{put_of}
use Rattle.ring_queue.specs.code.Putting.{Answer, has_room, refused_at, refused_value, put_value, put_account, put_line, put_slots}
use Rattle.ring_queue.specs.code.Walking.{to_back, walk_line, line_of, spare_at}
use Rattle.ring_queue.specs.code.Steps.{WalkedTo}
use Rattle.ring_queue.proofs.Walks.{busy, LeadsTo, walk_goes, walk_ends, ends_with}

-- what the tests at the back say, one by one
room_tells : (mark full : Bool) (limit tag : ℕ) → cond mark false (cond full (ltb (tag + 1) limit) false) ≡ true → (mark ≡ false) × (full ≡ true) × (tag + 1 < limit)
room_tells true full limit tag e = absurd (false≢true e)
room_tells false false limit tag e = absurd (false≢true e)
room_tells false true limit tag e = (refl, refl, grind (arith, nat_tests, e))

module _ {T : Type 0} (f : Found) (v : T) where
  abbrev stow : PutRefused T → Line T
  stow why = StowLine (line_of f.walk) (AnswerPut (Err why))

  abbrev put : Line T
  put = PutCell (line_of f.walk) v (fields_of f.slot)

  abbrev spent : PutRefused T
  spent = Spent v (NextWord (index_of f.walk.at)) (tag_of f.slot)

  -- the line at the back, with room and with none
  by_room : (mark full : Bool) (limit tag : ℕ) → cond mark false (cond full (ltb (tag + 1) limit) false) ≡ true → cond mark (stow (Closed v)) (cond full (cond (leb limit (tag + 1)) (stow spent) put) (stow (Full v))) ≡ put
  by_room true full limit tag e = absurd (false≢true e)
  by_room false false limit tag e = absurd (false≢true e)
  by_room false true limit tag e = cond-false (leb limit (tag + 1)) (stow spent) put (grind (arith, nat_tests, e))

  by_none : (mark full : Bool) (limit tag : ℕ) → cond mark false (cond full (ltb (tag + 1) limit) false) ≡ false → cond mark (stow (Closed v)) (cond full (cond (leb limit (tag + 1)) (stow spent) put) (stow (Full v))) ≡ stow (cond mark (Closed v) (cond full spent (Full v)))
  by_none true full limit tag e = refl
  by_none false false limit tag e = refl
  by_none false true limit tag e = cond-true (leb limit (tag + 1)) (stow spent) put (grind (arith, nat_tests, e))

  keeps_value : (mark full : Bool) → refused_value (cond mark (Closed v) (cond full spent (Full v))) ≡ v
  keeps_value true full = refl
  keeps_value false true = refl
  keeps_value false false = refl

module _ {T : Type 0} where
  value_or : T → List (ℕ × Slot T) → T
  value_or d ((i, Some x) ∷ zs) = x
  value_or d zs = d

  same_value : (zs us vs : List (ℕ × Slot T)) (i j : ℕ) (x y : T) → zs ≡ (i, Some x) ∷ us → zs ≡ (j, Some y) ∷ vs → x ≡ y
  unfolding value_or
  same_value zs us vs i j x y e f = sym (ap (value_or x) e) ∙ ap (value_or x) f

module _ {T : Type 0} {D : Type 0} (c : RingWith T D) {s : PutAt T} {at : WalkAt} (shown : Snapshot T) (is : s ≡ Walking shown at) (r : Outcome) (has : List (ℕ × Slot T)) (came : Came (machine_of c).core (At (put_line s)) r (put_slots s) has) where
  abbrev pub Putting : List (ℕ × Slot T) → Next (PutAt T) (Answer T) → Type 0
  Putting has' next = LeadsTo c (put_account c.table.shared.key) s r has has' next

  walks : At (put_line s) ≡ At (walk_line (to_back (ToPut shown.value)) at)
  walks = ap (λ (u : PutAt T). At (put_line u)) is

  full : put_slots s ≡ ((spare_at at).index, Some shown.value) ∷ []
  full = ap put_slots is

  of : put_of (put_value s) ≡ put_of shown.value
  of = ap (λ (u : PutAt T). put_of (put_value u)) is

  pub put_goes : (to : WalkAt) → WalkedTo c (to_back (ToPut shown.value)) at r (put_slots s) has (On to) → Putting has (On (Walking shown to))
  put_goes to walked = walk_goes c (put_account c.table.shared.key) s (to_back (ToPut shown.value)) at walks r has has came to walked (Walking shown to)
      (λ l e. record {
        same = sym of;
        is = e.0;
        busy = busy {T = T} (to_back (ToPut shown.value)) to;
        hand = e.1 ∙ full ∙ (λ i. ((sym e.3 i).index, Some shown.value) ∷ []);
        knows = e.2;
      })

  module _ (end : Found) (walked : WalkedTo c (to_back (ToPut shown.value)) at r (put_slots s) has (Done end)) where
    -- the value is in the slot of the spare cell
    pub holds_value : has ≡ (end.walk.spare.index, Some shown.value) ∷ rest has
    holds_value =
        let e = ends_with c (put_account c.table.shared.key) s (to_back (ToPut shown.value)) at walks r has has came end walked in
        let whole : has ≡ (end.walk.spare.index, Some shown.value) ∷ [] = e.0 ∙ full ∙ (λ i. ((sym e.1 i).index, Some shown.value) ∷ []) in
        whole ∙ ap (λ (zs : List (ℕ × Slot T)). (end.walk.spare.index, Some shown.value) ∷ zs) (sym (ap rest whole))

    pub put_meets : has_room (laps_of c) end.walk.at end.slot ≡ true → Putting has (On (Exchange shown end))
    put_meets e = walk_ends c (put_account c.table.shared.key) s (to_back (ToPut shown.value)) at walks r has has came end walked (On (Exchange shown end))
        (λ l to.
        let t = room_tells (mark_of end.slot) (eqb (tag_of end.slot) (2 * tag_of end.walk.at)) (2 * laps_of c) (tag_of end.slot) e in
        record {
          same = sym of;
          is = to.0 ∙ ap At (by_room end shown.value (mark_of end.slot) (eqb (tag_of end.slot) (2 * tag_of end.walk.at)) (2 * laps_of c) (tag_of end.slot) e);
          busy = refl;
          hand = to.1 ∙ full ∙ (λ i. ((sym to.3 i).index, Some shown.value) ∷ []);
          knows = (to.2, grind (arith, nat_tests, t.1), t.2);
        })

    -- the value that comes out of the slot is the one that was put into it
    pub put_refused : has_room (laps_of c) end.walk.at end.slot ≡ false → (v : T) → has ≡ (end.walk.spare.index, Some v) ∷ rest has → (has' : List (ℕ × Slot T)) → has' ≡ (end.walk.spare.index, None) ∷ rest has → (why : PutRefused T) → why ≡ refused_at end.walk.at end.slot v → Putting has' (On (Stow end.walk why))
    put_refused e v out has' left why so = walk_ends c (put_account c.table.shared.key) s (to_back (ToPut shown.value)) at walks r has has' came end walked (On (Stow end.walk why))
        (λ l to.
        let whole : has ≡ ((spare_at at).index, Some shown.value) ∷ [] = to.1 ∙ full in
        let same_one : v ≡ shown.value = same_value has (rest has) [] end.walk.spare.index (spare_at at).index v shown.value out whole in
        let reason : refused_at end.walk.at end.slot shown.value ≡ why = sym (so ∙ ap (refused_at end.walk.at end.slot) same_one) in
        let mark = mark_of end.slot in
        let empty = eqb (tag_of end.slot) (2 * tag_of end.walk.at) in
        record {
          same = ap put_of (ap refused_value (sym reason) ∙ keeps_value end shown.value mark empty) ∙ sym of;
          is = to.0 ∙ ap At (by_none end shown.value mark empty (2 * laps_of c) (tag_of end.slot) e ∙ ap (stow end shown.value) reason);
          busy = refl;
          hand = left ∙ ap (λ (zs : List (ℕ × Slot T)). (end.walk.spare.index, None) ∷ rest zs) whole;
          knows = (to.2.slot, to.2.place);
        })

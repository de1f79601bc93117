-- Each place of the ring has a word of its own.
use Rattle.std.proofs.Common.{◌≡◌, ◌≢◌, ℕ, ◌+◌, ◌*◌, ◌<◌, ◌≤◌, Bool, true, false, cond, ltb, inl, inr, ⊎_elim, refl, ap, arith}
use Rattle.std.proofs.lemmas.Bool.Decides.{eqb_tells}
use Rattle.std.specs.Prelude.{Option as Slot}
use mathlib.Core.Option.{Option}
use Rattle.machine.specs.Words.{Tagged}
use Rattle.ring_machine.specs.declared.lines.Place.{Place}
use Rattle.ring_machine.specs.declared.lines.Place.TheVariants.{Head, Tail, Slot as SlotOf}
use Rattle.ring_machine.specs.Machine.{memories, same_place}
use Rattle.running.specs.Tables.{Apart, Lies}
pub use Rattle.running.proofs.Slots.{at_home_is}
use Rattle.ring_table.specs.Layout.{slot_at, words_for, place_at, layout}

-- no two slots have one word
apart_by : (b : Bool) (i j : ℕ) → i ≢ j → 48 + cond b 8 1 * i ≢ 48 + cond b 8 1 * j
apart_by true i j ne e = ne (omega (arith, e))
apart_by false i j ne e = ne (omega (arith, e))

below_by : (b : Bool) (i n : ℕ) → i < n → 48 + cond b 8 1 * i < 48 + cond b 8 1 * n
below_by true i n h = omega (arith, h)
below_by false i n h = omega (arith, h)

-- the words of the slots are there
pub slot_below : (n i : ℕ) → i < n → slot_at n i < words_for n
slot_below n i h = below_by (ltb n 64) i n h

beyond_by : (b : Bool) (i n : ℕ) → n ≤ i → 48 + cond b 8 1 * n ≤ 48 + cond b 8 1 * i
beyond_by true i n h = omega (arith, h)
beyond_by false i n h = omega (arith, h)

pub slot_beyond : (n i : ℕ) → n ≤ i → words_for n ≤ slot_at n i
slot_beyond n i h = beyond_by (ltb n 64) i n h

pub hints_below : (n : ℕ) → 48 ≤ words_for n
hints_below n = omega arith

module _ (n : ℕ) where
  places : (a b : Place) → Apart (place_at n) same_place a b
  places Head Head = inl (refl, refl)
  places Tail Tail = inl (refl, refl)
  places (SlotOf i) (SlotOf j) = ⊎_elim (λ t. inl (t.0, ap (slot_at n) t.1)) (λ t. inr (t.0, apart_by (ltb n 64) i j t.1)) (eqb_tells i j)
  places Head Tail = inr (refl, λ e. omega arith)
  places Head (SlotOf j) = inr (refl, λ e. omega arith)
  places Tail Head = inr (refl, λ e. omega arith)
  places Tail (SlotOf j) = inr (refl, λ e. omega arith)
  places (SlotOf i) Head = inr (refl, λ e. omega arith)
  places (SlotOf i) Tail = inr (refl, λ e. omega arith)

word_is : {T : Type 0} (f : Place → Tagged) (g : ⊥ → ℕ) (h : ℕ → Option (Slot T)) (a : Place) → memories.word (memories.of f g h) a ≡ f a
word_is f g h Head = refl
word_is f g h Tail = refl
word_is f g h (SlotOf i) = refl

pub lies : (T : Type 0) (n cells : ℕ) → Lies (memories {T = T}) (layout n cells)
lies T n cells = record { places = places n; links = λ a b. absurd a; others = λ a q. absurd q; word_is = word_is; link_is = λ f g h q. absurd q; home_is = λ f g h. refl }

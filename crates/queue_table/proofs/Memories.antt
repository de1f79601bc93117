-- Each place of the queue has a word of its own.
use Rattle.std.proofs.Common.{◌≡◌, ◌≢◌, ℕ, ◌≤◌, inl, inr, ⊎_elim, refl, ap, arith}
use Rattle.std.proofs.lemmas.Bool.Decides.{eqb_tells}
use Rattle.std.specs.Prelude.{Option as Slot}
use mathlib.Core.Option.{Option}
use Rattle.tagged_index.specs.declared.word.TheConstants.{NULL}
use Rattle.machine.specs.Words.{Tagged}
use Rattle.queue_machine.specs.declared.lines.Place.{Place}
use Rattle.queue_machine.specs.declared.lines.Place.TheVariants.{Cells, Nodes, Head, Tail, Next}
use Rattle.queue_machine.specs.declared.lines.Number.{Number}
use Rattle.queue_machine.specs.declared.lines.Number.TheVariants.{CellLink, NodeLink, Cell}
use Rattle.queue_machine.specs.Machine.{memories, same_place, same_number}
use Rattle.running.specs.Tables.{Apart, Lies}
pub use Rattle.running.proofs.Slots.{at_home_is}
use Rattle.queue_table.specs.Layout.{clink_at, nlink_at, next_at, cell_at, place_at, number_at, layout}
use Rattle.queue_table.specs.Core.{Plain}

places : (a b : Place) → Apart place_at same_place a b
places Cells Cells = inl (refl, refl)
places Nodes Nodes = inl (refl, refl)
places Head Head = inl (refl, refl)
places Tail Tail = inl (refl, refl)
places (Next i) (Next j) = ⊎_elim (λ t. inl (t.0, ap next_at t.1)) (λ t. let ne = t.1 in inr (t.0, λ e. ne (omega arith))) (eqb_tells i j)
places a b = inr (refl, λ e. omega arith)

numbers : (a b : Number) → Apart number_at same_number a b
numbers (CellLink i) (CellLink j) = ⊎_elim (λ t. inl (t.0, ap clink_at t.1)) (λ t. let ne = t.1 in inr (t.0, λ e. ne (omega arith))) (eqb_tells i j)
numbers (NodeLink i) (NodeLink j) = ⊎_elim (λ t. inl (t.0, ap nlink_at t.1)) (λ t. let ne = t.1 in inr (t.0, λ e. ne (omega arith))) (eqb_tells i j)
numbers (Cell i) (Cell j) = ⊎_elim (λ t. inl (t.0, ap cell_at t.1)) (λ t. let ne = t.1 in inr (t.0, λ e. ne (omega arith))) (eqb_tells i j)
numbers a b = inr (refl, λ e. omega arith)

others : (a : Place) (b : Number) → place_at a ≢ number_at b
others Cells (CellLink j) = λ e. omega arith
others Nodes (CellLink j) = λ e. omega arith
others Head (CellLink j) = λ e. omega arith
others Tail (CellLink j) = λ e. omega arith
others (Next i) (CellLink j) = λ e. omega arith
others a b = λ e. omega arith

word_is : {T : Type 0} (f : Place → Tagged) (g : Number → ℕ) (h : ℕ → Option (Slot T)) (a : Place) → memories.word (memories.of f g h) a ≡ f a
word_is f g h Cells = refl
word_is f g h a = refl

number_is : {T : Type 0} (f : Place → Tagged) (g : ℕ → ℕ) (h : ℕ → Option (Slot T)) (a : Number) → memories.link (memories.of f (λ b. g (number_at b)) h) a ≡ g (number_at a)
number_is f g h (CellLink i) = refl
number_is f g h a = refl

pub lies : (T : Type 0) (n : ℕ) → Lies (memories {T = T}) (layout n)
lies T n = record { places = places; links = numbers; others = others; word_is = word_is; link_is = number_is; home_is = λ f g h. refl }

pub plain : (a : Number) (x : ℕ) → Plain (number_at a) x → x ≤ NULL
plain (CellLink i) x h = h (λ j e. omega arith)
plain a x h = h (λ j e. omega arith)

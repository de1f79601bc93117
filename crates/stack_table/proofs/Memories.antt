-- Each place of the stack has a word of its own.
use Rattle.std.proofs.Common.{◌≡◌, ◌≢◌, ℕ, inl, inr, ⊎_elim, refl, ap, arith}
use Rattle.std.proofs.lemmas.Bool.Decides.{eqb_tells}
use Rattle.std.specs.Prelude.{Option as Slot}
use mathlib.Core.Option.{Option}
use Rattle.machine.specs.Words.{Tagged}
use Rattle.stack_machine.specs.declared.lines.Top.{Top}
use Rattle.stack_machine.specs.declared.lines.Top.TheVariants.{Free, Stack}
use Rattle.stack_machine.specs.declared.lines.Link.{Link}
use Rattle.stack_machine.specs.Machine.{memories, same_top}
use Rattle.running.specs.Tables.{Apart, Lies}
pub use Rattle.running.proofs.Slots.{at_home_is}
use Rattle.stack_table.specs.Layout.{place_at, link_at, layout}

tops : (a b : Top) → Apart place_at same_top a b
tops Free Free = inl (refl, refl)
tops Free Stack = inr (refl, λ e. omega arith)
tops Stack Free = inr (refl, λ e. omega arith)
tops Stack Stack = inl (refl, refl)

others : (a : Top) (b : Link) → place_at a ≢ link_at b.index
others Free b = λ e. omega arith
others Stack b = λ e. omega arith

word_is : {T : Type 0} (f : Top → Tagged) (g : Link → ℕ) (h : ℕ → Option (Slot T)) (a : Top) → memories.word (memories.of f g h) a ≡ f a
word_is f g h Free = refl
word_is f g h Stack = refl

pub lies : (T : Type 0) (n : ℕ) → Lies (memories {T = T}) (layout n)
lies T n = record {
  places = tops;
  links = λ a b. ⊎_elim (λ t. inl (t.0, ap link_at t.1)) (λ t. let ne = t.1 in inr (t.0, λ e. ne (omega arith))) (eqb_tells a.index b.index);
  others = others;
  word_is = word_is;
  link_is = λ f g h a. refl;
  home_is = λ f g h. refl;
}

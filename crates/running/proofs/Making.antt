-- What an access that was made on the table tells.
use Rattle.std.proofs.Common.{◌≡◌, ℕ, true, false, List, [], refl, sym, ap, ◌∙◌, subst}
use Rattle.std.proofs.lemmas.Bool.{false≢true}
use mathlib.Core.Option.{some}
use Rattle.std.specs.Prelude.{Option as Slot}
use Rattle.tagged_index.specs.Fields.{fields_of}
use Rattle.tagged_index.proofs.Words.{same_fields}
use Rattle.index_list.specs.Kinds.{Kind, exchange, new_top}
use Rattle.index_list.specs.declared.change.Change.{Change}
use Rattle.machine.specs.Words.{Tagged}
use Rattle.machine.specs.declared.seats.View.{View}
use Rattle.machine.proofs.Tests.{either_way, not_same, same-self}
use Rattle.running.specs.Machine.{Names, Core, Machine, Access as Deed, Side, stays, brings, returns, loads, fetches, stows, stores, swaps}
use Rattle.running.specs.Going.{At, AtAccess, Found, Missed, Brings, begun_in, now_in}
use Rattle.running.specs.Lists.{Lists, AtStep, kind_access, side}
use Rattle.running.specs.Code.{IsAccess, FoundBy, Won, plain}
use Rattle.running.specs.Steps.{Made}
use Rattle.running.specs.declared.access.Access.{Access}
use Rattle.running.specs.declared.access.Access.TheVariants.{Keep, KeepLink}
use Rattle.running.specs.declared.access.Outcome.{Outcome}
use Rattle.running.proofs.Going.{now_going}

module _ {T L O : Type 0} {names : Names L O} (m : Machine T L O names) (y : Lists L) {o : O} {me : View T L × List (ℕ × Slot T)} {l : L} {slots : List (ℕ × Slot T)} (is : At m o me l slots) where
  -- the access of a line, once it is known which one
  pub known : (lists words : ℕ) {a b : Access} → a ≡ b → IsAccess m.core y lists words l slots a → IsAccess m.core y lists words l slots b
  known lists words e = subst (IsAccess m.core y lists words l slots) e

  pub at_access : (a : Deed) → m.core.access l ≡ a → AtAccess m o me.0 a
  at_access a e = record { begun = begun_in m me.0; line = l; going = is.going; access = e }

  pub at_step : (list : ℕ) (kind : Kind) → y.step l ≡ some (list, kind) → AtStep m y o me.0 list kind
  at_step list kind e = record { begun = begun_in m me.0; line = l; going = is.going; step = e }

  pub fits_now : m.core.Fits l slots → m.core.Fits (now_in m o me.0) me.1
  fits_now fits = subst (λ (k : L). m.core.Fits k me.1) (sym (now_going m is.going)) (subst (m.core.Fits l) (sym is.has) fits)

  module _ (me' : View T L × List (ℕ × Slot T)) (r : Outcome) where
    -- a load, and a store
    pub loaded : (at w : ℕ) → m.core.access l ≡ loads at → w ≡ r.word → me'.1 ≡ me.1 → Found m o me.0 me'.0 w [] → Made m o l me me' r
    loaded at w e is_word kept steps = record {
      found = w;
      came = [];
      is = subst (λ (a : Deed). FoundBy m.core a l r me.1 me'.1 w []) (sym e) (is_word, kept, refl);
      steps = steps;
    }

    -- a load that brings slots, and one that gives them back
    pub fetched : (at w : ℕ) → m.core.access l ≡ fetches at → w ≡ r.word → Brings m o me.0 me'.0 w me.1 me'.1 → Made m o l me me' r
    fetched at w e is_word b = record {
      found = w;
      came = b.slots;
      is = subst (λ (a : Deed). FoundBy m.core a l r me.1 me'.1 w b.slots) (sym e) (is_word, b.moved, b.fits (begun_in m me.0) l is.going);
      steps = b.steps;
    }

    pub stowed : (at w : ℕ) → m.core.access l ≡ stows at → w ≡ r.word → me'.1 ≡ [] → Found m o me.0 me'.0 w me.1 → Made m o l me me' r
    stowed at w e is_word none_left steps = record {
      found = w;
      came = me.1;
      is = subst (λ (a : Deed). FoundBy m.core a l r me.1 me'.1 w me.1) (sym e) (is_word, none_left, refl);
      steps = steps;
    }

    pub stored : (at x w : ℕ) → m.core.access l ≡ stores at x → w ≡ r.word → me'.1 ≡ me.1 → Found m o me.0 me'.0 w [] → Made m o l me me' r
    stored at x w e is_word kept steps = record {
      found = w;
      came = [];
      is = subst (λ (a : Deed). FoundBy m.core a l r me.1 me'.1 w []) (sym e) (is_word, kept, refl);
      steps = steps;
    }

    -- an exchange
    module _ (at w : ℕ) (new : Tagged) (side : Side) (e : m.core.access l ≡ swaps at (fields_of w) new side) where
      hit : r.won ≡ true → (came : List (ℕ × Slot T)) → Won m.core side l me.1 me'.1 came → Found m o me.0 me'.0 w came → Made m o l me me' r
      hit h came won steps = record {
        found = w;
        came = came;
        is = subst (λ (a : Deed). FoundBy m.core a l r me.1 me'.1 w came) (sym e) (same-self (fields_of w) ∙ sym h, (λ _. won), λ not. absurd (false≢true (sym not ∙ h)));
        steps = steps;
      }

      missed : r.won ≡ false → me'.1 ≡ me.1 → Missed m o me.0 me'.0 w → Made m o l me me' r
      missed h kept lost = record {
        found = lost.found;
        came = [];
        is = subst (λ (a : Deed). FoundBy m.core a l r me.1 me'.1 lost.found []) (sym e)
            (not_same (fields_of lost.found) (fields_of w) (λ f. lost.other ((same_fields lost.found w).1 f)) ∙ sym h, (λ won. absurd (false≢true (sym h ∙ won))), λ _. (kept, refl));
        steps = lost.steps;
      }

    module _ (at w : ℕ) (new : Tagged) where
      pub stayed_at : m.core.access l ≡ swaps at (fields_of w) new stays → me'.1 ≡ me.1 → (r.won ≡ true → Found m o me.0 me'.0 w []) → (r.won ≡ false → Missed m o me.0 me'.0 w) → Made m o l me me' r
      stayed_at a kept won lost = either_way r.won (λ h. hit at w new stays a h [] (kept, refl) (won h)) (λ h. missed at w new stays a h kept (lost h))

      pub brought_at : m.core.access l ≡ swaps at (fields_of w) new brings → (r.won ≡ true → Brings m o me.0 me'.0 w me.1 me'.1) → (r.won ≡ false → (me'.1 ≡ me.1) × Missed m o me.0 me'.0 w) → Made m o l me me' r
      brought_at a won lost = either_way r.won
          (λ h. let b = won h in hit at w new brings a h b.slots (b.moved, b.fits (begun_in m me.0) l is.going) b.steps)
          (λ h. missed at w new brings a h (lost h).0 (lost h).1)

      pub returned_at : m.core.access l ≡ swaps at (fields_of w) new returns → (r.won ≡ true → (me'.1 ≡ []) × Found m o me.0 me'.0 w me.1) → (r.won ≡ false → (me'.1 ≡ me.1) × Missed m o me.0 me'.0 w) → Made m o l me me' r
      returned_at a won lost = either_way r.won
          (λ h. hit at w new returns a h me.1 ((won h).0, refl) (won h).1)
          (λ h. missed at w new returns a h (lost h).0 (lost h).1)

    module _ (list w : ℕ) (change : Change) (e : m.core.access l ≡ kind_access y.layout list (exchange (fields_of w) change)) where
      abbrev at : ℕ
      at = y.layout.top list

      abbrev new : Tagged
      new = new_top (y.layout.keeps list) (fields_of w) change

      moves : (s : Side) → side (y.layout.carries list) change ≡ s → m.core.access l ≡ swaps at (fields_of w) new s
      moves s is_s = e ∙ ap (λ (k : Side). swaps at (fields_of w) new k) is_s

      pub stayed : side (y.layout.carries list) change ≡ stays → me'.1 ≡ me.1 → (r.won ≡ true → Found m o me.0 me'.0 w []) → (r.won ≡ false → Missed m o me.0 me'.0 w) → Made m o l me me' r
      stayed none kept won lost = stayed_at at w new (moves stays none) kept won lost

      pub brought : side (y.layout.carries list) change ≡ brings → (r.won ≡ true → Brings m o me.0 me'.0 w me.1 me'.1) → (r.won ≡ false → (me'.1 ≡ me.1) × Missed m o me.0 me'.0 w) → Made m o l me me' r
      brought some_come won lost = brought_at at w new (moves brings some_come) won lost

      pub returned : side (y.layout.carries list) change ≡ returns → (r.won ≡ true → (me'.1 ≡ []) × Found m o me.0 me'.0 w me.1) → (r.won ≡ false → (me'.1 ≡ me.1) × Missed m o me.0 me'.0 w) → Made m o l me me' r
      returned all_go won lost = returned_at at w new (moves returns all_go) won lost

-- an access without a load before a store is an access of the same line
module _ {T L O : Type 0} (c : Core T L O) (y : Lists L) (lists words : ℕ) (l : L) (slots : List (ℕ × Slot T)) where
  pub plain_access : (a : Access) → IsAccess c y lists words l slots a → IsAccess c y lists words l slots (plain a)
  plain_access (Keep at x) is = is
  plain_access (KeepLink list i next) is = is
  plain_access a is = is

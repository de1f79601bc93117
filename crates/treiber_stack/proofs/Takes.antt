-- What a take gives, and where its steps lead.
use Rattle.std.proofs.Common.{◌≡◌, ℕ, ◌<◌, List, ◌∷◌, refl, sym, ap, ◌∙◌}
use Rattle.std.specs.Prelude.{Option as Slot, Some, Ok}
use Rattle.treiber_stack.specs.Prelude.{Finding, Leads, Next, Outcome, names, next}
use Rattle.treiber_stack.specs.declared.code.giving.Give.{Give}
use Rattle.treiber_stack.specs.declared.code.taking.TakeAt.{TakeAt}
use Rattle.treiber_stack.specs.declared.code.taking.TakeAt.TheVariants.{GiveBack}
use Rattle.treiber_stack.specs.declared.code.taking.Taken.{Taken}
use Rattle.treiber_stack.specs.code.Steps.{GaveTo}
use Rattle.treiber_stack.specs.Calls.{StackWith, room_of, limit_of, machine_of}
use Rattle.treiber_stack.specs.code.Taking.{Answer, take_account, giving, take_line, take_slots}
use Rattle.treiber_stack.proofs.Gives.{within, gave_within}

module _ {T : Type 0} where
  value_or : T → List (ℕ × Slot T) → T
  value_or d ((i, Some x) ∷ zs) = x
  value_or d zs = d

  pub same_value : (zs us vs : List (ℕ × Slot T)) (i j : ℕ) (x y : T) → zs ≡ (i, Some x) ∷ us → zs ≡ (j, Some y) ∷ vs → x ≡ y
  unfolding value_or
  same_value zs us vs i j x y e f = sym (ap (value_or x) e) ∙ ap (value_or x) f

-- where the code of a take goes on
module _ {T : Type 0} {D : Type 0} (c : StackWith T D) where
  abbrev pub Leading : TakeAt T → Outcome → List (ℕ × Slot T) → Next (TakeAt T) (Answer T) → Type 0
  Leading s r has to = Finding (machine_of c).core (take_line s) r (take_slots s) has
      (λ found came. Leads names (take_account c.table.shared.key) s (next (room_of c) (limit_of c) (take_line s) found came) has to)

  -- by the give inside it
  pub gave_take : (t : Taken T) (at : Give) (r : Outcome) (has : List (ℕ × Slot T)) → t.index < room_of c → (to : Next Give (Unit {0})) → GaveTo c (giving t) at r has to → Leading (GiveBack t at) r has (within (GiveBack t) (record { kept = tt; reply = Ok (t.value, t.number) }) to)
  gave_take t at r has low = gave_within c (take_account c.table.shared.key) (giving t) (GiveBack t) (record { kept = tt; reply = Ok (t.value, t.number) }) (GiveBack t at)
      (λ at'. refl) (λ at'. refl) (λ at'. refl) (λ at'. low) refl at r has

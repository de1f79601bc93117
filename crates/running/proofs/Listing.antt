-- Slots that an exchange of a list's top moves, all in hand or none, and what it tells as a machine's step.
use Rattle.std.proofs.Common.{◌≡◌, ℕ, Bool, true, false, cond, List, [], ◌∷◌, ◌++◌, length, refl, sym, ap, ◌∙◌, subst, arith}
use Rattle.std.specs.Prelude.{Option as Slot}
use Rattle.atomic_table.specs.Table.{Me}
use Rattle.tagged_index.specs.Fields.{fields_of}
use Rattle.index_list.specs.Steps.{numbers}
use Rattle.index_list.specs.Kinds.{taken, arranged}
use Rattle.index_list.specs.Results.{Missed as Lost, ChangedBy}
use Rattle.index_list.specs.declared.change.Change.{Change}
use Rattle.machine.specs.declared.seats.View.{View}
use Rattle.machine.proofs.Tests.{either_way}
use Rattle.running.specs.Machine.{Names, Machine, brings, returns}
use Rattle.running.specs.Laws.{Lawful}
use Rattle.running.specs.Rule.{Rule}
use Rattle.running.specs.Going.{Found, Missed, Brings, now_in}
use Rattle.running.specs.Lists.{Lists, side, host}
use Rattle.running.proofs.Going.{steps_so, now_going}

pub no_more : {A : Type 0} (xs : List A) → xs ≡ xs ++ []
no_more [] = refl
no_more (x ∷ xs) = ap (λ ys. x ∷ ys) (no_more xs)

pub no_indexes : (b : Bool) → ◌≡◌ {A = List ℕ} (cond b [] []) []
no_indexes true = refl
no_indexes false = refl

pub none_carried : (xs : List ℕ) {b : Bool} → b ≡ false → cond b xs [] ≡ []
none_carried xs e = ap (λ (b : Bool). cond b xs []) e

module _ {S : Type 0} where
  pub none_moved : (zs : List (ℕ × S)) → numbers zs ≡ [] → zs ≡ []
  none_moved [] e = refl
  none_moved (z ∷ zs) e = absurd (let n = ap length e in omega arith)

  pub no_change : (zs had has : List (ℕ × S)) → numbers zs ≡ [] → has ≡ zs ++ had → has ≡ had
  no_change zs had has e moved = moved ∙ ap (λ (ys : List (ℕ × S)). ys ++ had) (none_moved zs e)

  length_numbers : (zs : List (ℕ × S)) → length (numbers zs) ≡ length zs
  length_numbers [] = refl
  length_numbers (z ∷ zs) = let n = length_numbers zs in omega arith

  none_left : (zs rest : List (ℕ × S)) → length (zs ++ rest) ≡ length zs → rest ≡ []
  none_left [] [] e = refl
  none_left [] (r ∷ rest) e = absurd (omega arith)
  none_left (z ∷ zs) rest e = none_left zs rest (omega arith)

  pub all_given : (had zs rest : List (ℕ × S)) → had ≡ zs ++ rest → numbers had ≡ numbers zs → (zs ≡ had) × (rest ≡ [])
  all_given had zs rest parts same =
      let nothing : rest ≡ [] = none_left zs rest (ap length (sym parts) ∙ sym (length_numbers had) ∙ ap length same ∙ length_numbers zs) in
      (no_more zs ∙ ap (λ (ys : List (ℕ × S)). zs ++ ys) (sym nothing) ∙ sym parts, nothing)

module _ {T L O : Type 0} {names : Names L O} {m : Machine T L O names} (lawful : Lawful m) (y : Lists L) {o : O} {id l w : ℕ} {c : Change} {me me' : Me (Slot T) (View T L)} where
  -- it found another word
  pub missed : Lost y.layout (host m y) (Rule m) o id l w c me me' → (me'.1 ≡ me.1) × Missed m o me.0 me'.0 w
  missed x = (x.unmoved, record { found = x.found; other = x.other; steps = λ begun line going. steps_so lawful going x.step.said.0 })

  -- it brought slots
  pub brought : side (y.layout.carries l) c ≡ brings → ChangedBy y.layout (host m y) (Rule m) o id l false w c me me' → Brings m o me.0 me'.0 w me.1 me'.1
  brought does x = record {
    slots = x.slots;
    moved = x.moves.0;
    fits = λ begun line going. subst (λ k. m.core.Fits k x.slots) (now_going m going) (x.said.1 refl does);
    steps = λ begun line going. steps_so lawful going x.said.0;
  }

  -- it gave all slots back
  pub returned : side (y.layout.carries l) c ≡ returns → m.core.Fits (now_in m o me.0) me.1 → ChangedBy y.layout (host m y) (Rule m) o id l true w c me me' → (me'.1 ≡ []) × Found m o me.0 me'.0 w me.1
  returned does fits x =
      let all = all_given me.1 x.slots me'.1 x.moves.0 (x.said.2 refl does me.1 fits) in
      (all.1, subst (λ zs. Found m o me.0 me'.0 w zs) all.0 (λ begun line going. steps_so lawful going x.said.0))

  -- it moved none
  pub unmoved : (giving : Bool) (x : ChangedBy y.layout (host m y) (Rule m) o id l giving w c me me') → numbers x.slots ≡ [] → Found m o me.0 me'.0 w []
  unmoved giving x none = subst (λ zs. Found m o me.0 me'.0 w zs) (none_moved x.slots none) (λ begun line going. steps_so lawful going x.said.0)

  -- a take of no slots, or a mark, won or lost
  module _ (won : Bool) (wins : won ≡ true → ChangedBy y.layout (host m y) (Rule m) o id l false w c me me') (none : (xs : List ℕ) → cond (y.layout.carries l) (arranged c (taken (fields_of w) c xs)) [] ≡ []) where
    pub bare_seat : (won ≡ false → Lost y.layout (host m y) (Rule m) o id l w c me me') → me'.1 ≡ me.1
    bare_seat loses = either_way won (λ h. let x = wins h in no_change x.slots me.1 me'.1 (x.moves.2 ∙ none x.list) x.moves.0) (λ h. (loses h).unmoved)

    pub bare_won : won ≡ true → Found m o me.0 me'.0 w []
    bare_won h = let x = wins h in unmoved false x (x.moves.2 ∙ none x.list)

-- Slots move in one act, one after another.
use Rattle.std.proofs.Common.{◌≡◌, ℕ, List, [], ◌∷◌, ◌++◌, refl, sym, ap, ◌∙◌, subst, inl, inr, length}
use Rattle.std.specs.Prelude.{slice_set}
use mathlib.Core.Option.{Option, some, none}
use lib.ListN.{get_elem?}
use Rattle.atomic_table.specs.Table.{Act, keeps, takes, gives, chain, Valid, carried_after, homes_after}
use Rattle.atomic_table.proofs.Lists.{set_else}
use Rattle.std.proofs.Math.ListN.{length-set}
use Rattle.index_list.specs.Lists.{Holds, Distinct}
use Rattle.index_list.specs.Steps.{numbers, Each, IsHome, emptied, filled}

module _ {S : Type 0} where
  -- the first of the slots comes to the front of what the seat has
  abbrev pub take_each : List (ℕ × S) → Act S
  take_each [] = keeps
  take_each (z ∷ zs) = chain (take_each zs) (takes z.0 z.1)

  abbrev pub give_each : List (ℕ × S) → Act S
  give_each [] = keeps
  give_each (z ∷ zs) = chain gives (give_each zs)

  pub take_each-carried : (zs c : List (ℕ × S)) → carried_after c (take_each zs) ≡ zs ++ c
  take_each-carried [] c = refl
  take_each-carried (z ∷ zs) c = ap (λ (k : List (ℕ × S)). z ∷ k) (take_each-carried zs c)

  pub take_each-homes : (homes : List (Option S)) (zs c : List (ℕ × S)) → homes_after homes c (take_each zs) ≡ emptied homes zs
  take_each-homes homes [] c = refl
  take_each-homes homes (z ∷ zs) c = ap (λ (k : List (Option S)). slice_set k z.0 none) (take_each-homes homes zs c)

  pub emptied-else : (homes : List (Option S)) (zs : List (ℕ × S)) (i : ℕ) → ¬ Holds (numbers zs) i → get_elem? (emptied homes zs) i ≡ get_elem? homes i
  emptied-else homes [] i off = refl
  emptied-else homes (z ∷ zs) i off = set_else (emptied homes zs) z.0 i none (λ e. off (inl e)) ∙ emptied-else homes zs i (λ h. off (inr h))

  pub take_each-valid : (homes : List (Option S)) (zs c : List (ℕ × S)) → Distinct (numbers zs) → Each (IsHome homes) zs → Valid homes c (take_each zs)
  take_each-valid homes [] c distinct home = tt
  take_each-valid homes (z ∷ zs) c distinct home = (
    take_each-valid homes zs c distinct.1 home.1,
    subst (λ (k : List (Option S)). get_elem? k z.0 ≡ some (some z.1)) (sym (take_each-homes homes zs c)) (emptied-else homes zs z.0 distinct.0 ∙ home.0),
  )

  pub give_each-carried : (zs c : List (ℕ × S)) → carried_after (zs ++ c) (give_each zs) ≡ c
  give_each-carried [] c = refl
  give_each-carried (z ∷ zs) c = give_each-carried zs c

  pub give_each-homes : (homes : List (Option S)) (zs c : List (ℕ × S)) → homes_after homes (zs ++ c) (give_each zs) ≡ filled homes zs
  give_each-homes homes [] c = refl
  give_each-homes homes (z ∷ zs) c = give_each-homes (slice_set homes z.0 (some z.1)) zs c

  pub give_each-valid : (homes : List (Option S)) (zs c : List (ℕ × S)) → Valid homes (zs ++ c) (give_each zs)
  give_each-valid homes [] c = tt
  give_each-valid homes (z ∷ zs) c = (tt, give_each-valid (slice_set homes z.0 (some z.1)) zs c)

  -- What the homes are once slots have come back.
  pub filled-else : (homes : List (Option S)) (zs : List (ℕ × S)) (i : ℕ) → ¬ Holds (numbers zs) i → get_elem? (filled homes zs) i ≡ get_elem? homes i
  filled-else homes [] i off = refl
  filled-else homes (z ∷ zs) i off = filled-else (slice_set homes z.0 (some z.1)) zs i (λ h. off (inr h)) ∙ set_else homes z.0 i (some z.1) (λ e. off (inl e))

  pub length-emptied : (homes : List (Option S)) (zs : List (ℕ × S)) → length (emptied homes zs) ≡ length homes
  length-emptied homes [] = refl
  length-emptied homes (z ∷ zs) = length-set (emptied homes zs) z.0 none ∙ length-emptied homes zs

  pub length-filled : (homes : List (Option S)) (zs : List (ℕ × S)) → length (filled homes zs) ≡ length homes
  length-filled homes [] = refl
  length-filled homes (z ∷ zs) = length-filled (slice_set homes z.0 (some z.1)) zs ∙ length-set homes z.0 (some z.1)

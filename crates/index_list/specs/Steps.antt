-- Slots in hand and at home, and what a step does to a table, as plain data.
use Rattle.std.specs.Prelude.{◌≡◌, ℕ, ◌<◌, ◌^◌, List, [], ◌∷◌, slice_index, slice_set}
use mathlib.Core.Option.{Option, some, none}
use lib.ListN.{get_elem?}
use Rattle.atomic_table.specs.Table.{State}

-- Slots, each with its number and its value.
module _ {S : Type 0} where
  abbrev pub numbers : List (ℕ × S) → List ℕ
  numbers [] = []
  numbers (z ∷ zs) = z.0 ∷ numbers zs

  abbrev pub Each : (ℕ → S → Type 0) → List (ℕ × S) → Type 0
  Each P [] = Unit {0}
  Each P (z ∷ zs) = P z.0 z.1 × Each P zs

  abbrev pub IsHome : List (Option S) → ℕ → S → Type 0
  IsHome homes k x = get_elem? homes k ≡ some (some x)

  -- the homes once these slots have left them
  abbrev pub emptied : List (Option S) → List (ℕ × S) → List (Option S)
  emptied homes [] = homes
  emptied homes (z ∷ zs) = slice_set (emptied homes zs) z.0 none

  -- the homes once these slots have come back
  abbrev pub filled : List (Option S) → List (ℕ × S) → List (Option S)
  filled homes [] = homes
  filled homes (z ∷ zs) = filled (slice_set homes z.0 (some z.1)) zs

module _ {S V : Type 0} where
  abbrev pub word : State S V → ℕ → ℕ
  word s at = slice_index s.words at

  -- the seat id has the view v, and no word is changed
  abbrev pub looked : State S V → ℕ → V → State S V
  looked s id v = record { words = s.words; homes = s.homes; views = slice_set s.views id v }

  -- the word at is n, the homes are these, and the seat id has the view v
  abbrev pub changed : State S V → ℕ → ℕ → List (Option S) → ℕ → V → State S V
  changed s at n homes id v = record { words = slice_set s.words at n; homes = homes; views = slice_set s.views id v }

  -- the table as a step of the seat id at a word finds it
  pub record Before (holds : State S V → Type 0) (id : ℕ) (v : V) (at : ℕ) (s : State S V) : Type 0 where
    pub rule : holds s
    pub mine : get_elem? s.views id ≡ some v
    pub fits : word s at < 2 ^ 64

  -- a step that leads to `after` can be made: under some new view of the seat the rule holds
  -- again, and `did` holds of it
  pub record Goes (holds : State S V → Type 0) (after : V → State S V) (did : V → Type 0) : Type 0 where
    pub view : V
    pub rule : holds (after view)
    pub told : did view

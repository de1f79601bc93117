-- Chains of nodes: their links, and what their slots have. A slot at home is `some None` if it is
-- empty. A slot is `none` while a pass holds it.
use Rattle.std.specs.Prelude.{◌≡◌, ℕ, zero, suc, ◌==◌, if◌then◌else◌, List, [], ◌∷◌, ◌++◌, map, Option as Slot, Some, None, Bool, true, false, reverse}
use mathlib.Core.Option.{Option, none, some}
use Rattle.tagged_index.specs.declared.word.TheConstants.{NULL}

-- a list as it is, or turned round
abbrev pub turned : {A : Type 0} → Bool → List A → List A
turned true xs = reverse xs
turned false xs = xs

-- A chain is a list of nodes, each linked to the next
abbrev pub first : List ℕ → ℕ
first [] = NULL
first (i ∷ is) = i

abbrev pub last : List ℕ → ℕ
last [] = NULL
last (i ∷ []) = i
last (i ∷ j ∷ js) = last (j ∷ js)

abbrev pub second : List ℕ → ℕ
second [] = NULL
second (i ∷ is) = first is

-- the chain that starts at x, of at most this number of nodes
abbrev pub chain_from : ℕ → (ℕ → ℕ) → ℕ → List ℕ
chain_from zero link x = []
chain_from (suc most) link x = if x == NULL then [] else x ∷ chain_from most link (link x)

module _ {T : Type 0} where
  abbrev pub with_home : (ℕ → Option (Slot T)) → ℕ → Option (Slot T) → ℕ → Option (Slot T)
  with_home home i slot j = if j == i then slot else home j

  -- the slots of a chain leave home
  abbrev pub away : (ℕ → Option (Slot T)) → List ℕ → ℕ → Option (Slot T)
  away home [] = home
  away home (i ∷ is) = with_home (away home is) i none

  -- slots come home, each with its index
  abbrev pub back : (ℕ → Option (Slot T)) → List (ℕ × Slot T) → ℕ → Option (Slot T)
  back home [] = home
  back home (z ∷ zs) = with_home (back home zs) z.0 (some z.1)

  -- the slots of a chain with values in them, and empty
  abbrev pub full : List ℕ → List T → List (ℕ × Slot T)
  full [] values = []
  full (i ∷ is) [] = []
  full (i ∷ is) (v ∷ vs) = (i, Some v) ∷ full is vs

  abbrev pub vacant : List ℕ → List (ℕ × Slot T)
  vacant [] = []
  vacant (i ∷ is) = (i, None) ∷ vacant is

  -- they come home with these values, or empty
  abbrev pub filled : (ℕ → Option (Slot T)) → List ℕ → List T → ℕ → Option (Slot T)
  filled home is values = back home (full is values)

  abbrev pub emptied : (ℕ → Option (Slot T)) → List ℕ → ℕ → Option (Slot T)
  emptied home is = back home (vacant is)

  abbrev pub value_in : Option (Slot T) → List T
  value_in none = []
  value_in (some None) = []
  value_in (some (Some v)) = v ∷ []

  abbrev pub values_of : List (Option (Slot T)) → List T
  values_of [] = []
  values_of (x ∷ xs) = value_in x ++ values_of xs

  -- the values at home in a chain's slots
  abbrev pub values_in : (ℕ → Option (Slot T)) → List ℕ → List T
  values_in home is = values_of (map home is)

-- the slots of these nodes have these values
abbrev pub HasValues : {T : Type 0} → (ℕ → Option (Slot T)) → List ℕ → List T → Type 0
HasValues home [] [] = Unit {0}
HasValues home (i ∷ is) (v ∷ vs) = (home i ≡ some (Some v)) × HasValues home is vs
HasValues home [] (v ∷ vs) = ⊥
HasValues home (i ∷ is) [] = ⊥

-- What merging lists by their numbers asks and gives.
use Rattle.std.specs.Prelude.{◌≡◌, ℕ, ◌+◌, ◌<◌, ◌≤◌, List, [], ◌∷◌, ◌++◌, length, All, flat_map, get_or, Vec, IsPermutation}
use Rattle.std.specs.List.Sorted.{IsNonDecreasingBy}
use Rattle.std.specs.declared.alloc.Global.{Global}
use Rattle.relay.specs.declared.outcome.Taken.{Taken}

-- what the lists hold together
abbrev pub all_of : List (Vec Taken Global) → List Taken
all_of lists = flat_map (λ l. l.items) lists

-- along the list the numbers do not fall
abbrev pub IsUp : Vec Taken Global → Type 0
IsUp l = IsNonDecreasingBy (λ t. t.number) l.items

-- one above the last number of the list, or 0 if it is empty
pub record IsHeight (l : Vec Taken Global) (h : ℕ) : Type 0 where
  pub last : (front : List Taken) (t : Taken) → l.items ≡ front ++ t ∷ [] → h ≡ t.number + 1
  pub none : l.items ≡ [] → h ≡ 0

-- all numbers of all lists are below this list's height
pub record IsTop (lists : List (Vec Taken Global)) (l : Vec Taken Global) : Type 0 where
  pub height : ℕ
  pub is : IsHeight l height
  pub below : All (λ m. All (λ t. t.number < height) m.items) lists

-- no number of these lists is above the last of that one
abbrev pub IsAbove : Vec Taken Global → List (Vec Taken Global) → Type 0
IsAbove l lists = (front : List Taken) (t : Taken) → l.items ≡ front ++ t ∷ [] → All (λ m. All (λ u. u.number ≤ t.number) m.items) lists

-- along the list no number is above one before it
abbrev pub Falls : List Taken → Type 0
Falls ts = (i j : ℕ) (d : Taken) → i ≤ j → j < length ts → (get_or ts j d).number ≤ (get_or ts i d).number

-- these were moved from what was there at the start, the greatest first, and those lists hold the rest
pub record Merging (start moved : List Taken) (lists : List (Vec Taken Global)) : Type 0 where
  pub same : IsPermutation start (moved ++ all_of lists)
  pub falls : Falls moved
  pub above : All (λ t. All (λ u. u.number ≤ t.number) (all_of lists)) moved

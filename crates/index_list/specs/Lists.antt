-- Lists of indexes among the words of a table: a top names the first index, each link names the
-- next, and the last link is null.
use Rattle.std.specs.Prelude.{◌≡◌, ◌⊎◌, ℕ, ◌<◌, Bool, List, [], ◌∷◌}
use lib.ListN.{get_elem?}
use mathlib.Core.Option.{some}
use Rattle.atomic_table.specs.Table.{State}
use Rattle.tagged_index.specs.Fields.{index_of}
use Rattle.tagged_index.specs.declared.word.TheConstants.{NULL}
use Rattle.index_list.specs.Steps.{word}

abbrev pub Holds : List ℕ → ℕ → Type 0
Holds [] i = ⊥
Holds (x ∷ xs) i = (i ≡ x) ⊎ Holds xs i

abbrev pub Distinct : List ℕ → Type 0
Distinct [] = Unit {0}
Distinct (x ∷ xs) = ¬ Holds xs x × Distinct xs

abbrev pub Disjoint : List ℕ → List ℕ → Type 0
Disjoint xs ys = (i : ℕ) → Holds xs i → Holds ys i → ⊥

-- from i the links lead through each index of the list, in order, to j
abbrev pub Leads : (ℕ → ℕ) → ℕ → List ℕ → ℕ → Type 0
Leads link i [] j = i ≡ j
Leads link i (x ∷ xs) j = (i ≡ x) × (x < NULL) × Leads link (link x) xs j

-- where the lists of a table are, and how each is kept
pub record Layout : Type 0 where
  -- the word that is the top of a list, and the one that is the link of an index on it
  pub top : ℕ → ℕ
  pub link : ℕ → ℕ → ℕ
  -- whether a give keeps the tag of the top; else it raises the tag
  pub keeps : ℕ → Bool
  -- whether each index carries the value slot of its number
  pub carries : ℕ → Bool

module _ {S V : Type 0} (y : Layout) (held : ℕ → V → List ℕ) (l : ℕ) (s : State S V) where
  -- the list l of the table is xs: its indexes are distinct and in no hand
  pub record Stands (xs : List ℕ) : Type 0 where
    pub leads : Leads (λ i. word s (y.link l i)) (index_of (word s (y.top l))) xs NULL
    pub distinct : Distinct xs
    pub free : (id : ℕ) (v : V) → get_elem? s.views id ≡ some v → Disjoint xs (held l v)

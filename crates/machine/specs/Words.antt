-- Tagged words, links, and lists of indexes that stand in them.
use Rattle.std.specs.Prelude.{◌≡◌, ℕ, ◌+◌, Bool, false, not, ◌&&◌, ◌==◌, if◌then◌else◌, List, [], ◌∷◌}
use Rattle.tagged_index.specs.declared.word.TheConstants.{NULL}
pub use Rattle.tagged_index.specs.Fields.{Fields as Tagged, kept, raised, marked, with_second}

abbrev pub same_mark : Bool → Bool → Bool
same_mark a b = if a then b else not b

-- are these one word
abbrev pub same : Tagged → Tagged → Bool
same a b = a.index == b.index && same_mark a.mark b.mark && same_mark a.second b.second && a.tag == b.tag

-- the links after x was stored in the link of i
abbrev pub store : (ℕ → ℕ) → ℕ → ℕ → ℕ → ℕ
store link i x j = if j == i then x else link j

-- how often i stands in a list
abbrev pub times : ℕ → List ℕ → ℕ
times i [] = 0
times i (j ∷ js) = (if i == j then 1 else 0) + times i js

-- the sum of f over a list
abbrev pub total : {V : Type 0} → (V → ℕ) → List V → ℕ
total f [] = 0
total f (v ∷ vs) = f v + total f vs

-- a part of a list: the first index is x, each link names the next index, and the last link is y
abbrev pub Leads : (ℕ → ℕ) → ℕ → List ℕ → ℕ → Type 0
Leads link x [] y = x ≡ y
Leads link x (i ∷ is) y = (x ≡ i) × Leads link (link i) is y

-- a whole list: its last link is null
abbrev pub Stands : (ℕ → ℕ) → ℕ → List ℕ → Type 0
Stands link x list = Leads link x list NULL

-- a chain in a pass's hand: each link but the last names the next index
abbrev pub IsChain : (ℕ → ℕ) → List ℕ → Type 0
IsChain link [] = Unit {0}
IsChain link (i ∷ []) = Unit {0}
IsChain link (i ∷ j ∷ js) = (link i ≡ j) × IsChain link (j ∷ js)

-- at the start a top names node i or is null, and each of n nodes but the last is linked to the next
abbrev pub start_word : ℕ → Tagged
start_word i = record { index = i; mark = false; second = false; tag = 0 }

abbrev pub start_link : ℕ → ℕ → ℕ
start_link n i = if i + 1 == n then NULL else i + 1

-- Where the indexes of a container are: free, in the container, or in the hand of one pass.
use Rattle.std.specs.Prelude.{◌≡◌, ◌⊎◌, ℕ, ◌<◌, ◌≤◌, List}
use mathlib.Core.Option.{some}
use lib.ListN.{get_elem?}
use Rattle.machine.specs.Words.{times}

-- index i is one of these
abbrev pub Has : List ℕ → ℕ → Type 0
Has list i = 0 < times i list

-- `held` says which indexes a pass has in hand at its line
module _ {L : Type 0} (held : L → List ℕ) where
  -- some pass has index i in hand
  pub record IsHeld (lines : List L) (i : ℕ) : Type 0 where
    pub pass : ℕ
    pub line : L
    pub at : get_elem? lines pass ≡ some line
    pub has : Has (held line) i

  -- Each of n indexes is in one place, and once: free, in the container, or in the hand of one pass
  pub record InOnePlace (n : ℕ) (free inside : List ℕ) (lines : List L) : Type 0 where
    pub somewhere : (i : ℕ) → i < n → Has free i ⊎ (Has inside i ⊎ IsHeld lines i)
    pub no_others : (i : ℕ) → Has free i ⊎ (Has inside i ⊎ IsHeld lines i) → i < n
    pub free_or_inside : (i : ℕ) → Has free i → Has inside i → ⊥
    pub free_or_held : (i : ℕ) → Has free i → IsHeld lines i → ⊥
    pub inside_or_held : (i : ℕ) → Has inside i → IsHeld lines i → ⊥
    pub one_hand : (i : ℕ) (a b : IsHeld lines i) → a.pass ≡ b.pass
    pub once_free : (i : ℕ) → times i free ≤ 1
    pub once_inside : (i : ℕ) → times i inside ≤ 1
    pub once_held : (i : ℕ) (a : IsHeld lines i) → times i (held a.line) ≤ 1

  -- index i is free: no pass has it in hand, and it is not in the container
  pub record IsFree (free inside : List ℕ) (lines : List L) (i : ℕ) : Type 0 where
    pub here : Has free i
    pub unheld : IsHeld lines i → ⊥
    pub outside : Has inside i → ⊥

  -- index i is in the container: no pass has it in hand, and it is not free
  pub record IsInside (free inside : List ℕ) (lines : List L) (i : ℕ) : Type 0 where
    pub here : Has inside i
    pub unheld : IsHeld lines i → ⊥
    pub taken : Has free i → ⊥

-- What a pass that has read the top of a list, and perhaps a link, may depend on while other passes
-- step. All of it speaks of the tag and not of the word, since a give changes the word and keeps
-- the tag.
use Rattle.std.specs.Prelude.{◌≡◌, ℕ, ◌<◌, ◌≤◌, List}
use Rattle.machine.specs.Words.{Tagged, times}

-- w was the top: as long as the tag is still the same, its index is still in the list
pub record ReadTop (limit : ℕ) (top : Tagged) (list : List ℕ) (w : Tagged) : Type 0 where
  pub below : w.tag < limit
  pub past : w.tag ≤ top.tag
  pub there : w.tag ≡ top.tag → 0 < times w.index list

-- and k was then read as its link: as long as the tag is still the same, it is still its link
abbrev pub ReadLink : Tagged → (ℕ → ℕ) → Tagged → ℕ → Type 0
ReadLink top link w k = w.tag ≡ top.tag → link w.index ≡ k

-- what others leave alone: the tag never falls, and until it rises the list loses no index and
-- keeps its links
pub record Later (top : Tagged) (link : ℕ → ℕ) (list : List ℕ) (top' : Tagged) (link' : ℕ → ℕ) (list' : List ℕ) : Type 0 where
  pub tag : top.tag ≤ top'.tag
  pub stays : top.tag ≡ top'.tag → (i : ℕ) → 0 < times i list → 0 < times i list'
  pub links : top.tag ≡ top'.tag → (i : ℕ) → 0 < times i list → link' i ≡ link i

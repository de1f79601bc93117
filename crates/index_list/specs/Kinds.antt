-- The kinds of atomic step on a list, and what an exchange of its top is to do.
use Rattle.std.specs.Prelude.{ℕ, ◌<◌, Bool, true, false, cond, List, [], ◌∷◌, reverse}
use Rattle.tagged_index.specs.Fields.{Fields, kept, raised, marked, with_second}
use Rattle.tagged_index.specs.declared.word.TheConstants.{NULL}
use Rattle.index_list.specs.Lists.{Layout}
use Rattle.index_list.specs.declared.front.Front.{Front}
use Rattle.index_list.specs.declared.front.Front.TheVariants.{First, Last}
use Rattle.index_list.specs.declared.change.Change.{Change}
use Rattle.index_list.specs.declared.change.Change.TheVariants.{Take, TakeAll, Give, GiveChain, Mark, Shut}

-- loads of the top and of the link of i, a store of x into the link of i, and an exchange of the
-- top for which w was seen
pub data Kind : Type 0 where
  read_top : Kind
  read_link : (i : ℕ) → Kind
  write_link : (i x : ℕ) → Kind
  exchange : (w : Fields) → Change → Kind

-- the word at which a step of this kind is made
abbrev pub place : Layout → ℕ → Kind → ℕ
place y l read_top = y.top l
place y l (read_link i) = y.link l i
place y l (write_link i x) = y.link l i
place y l (exchange w c) = y.top l

-- the top after an exchange; `keeps` is whether a give keeps the tag
abbrev pub new_top : Bool → Fields → Change → Fields
new_top keeps w (Take n) = raised w n
new_top keeps w (TakeAll front) = raised w NULL
new_top keeps w (Give i) = cond keeps (kept w i) (raised w i)
new_top keeps w (GiveChain i) = cond keeps (kept w i) (raised w i)
new_top keeps w Mark = marked w
new_top keeps w Shut = with_second w

abbrev pub gives : Change → Bool
gives (Give i) = true
gives (GiveChain i) = true
gives c = false

-- the indexes that an exchange takes from the list xs, the others, and those that a pass with this
-- hand gives
abbrev pub taken : Fields → Change → List ℕ → List ℕ
taken w (Take n) xs = w.index ∷ []
taken w (TakeAll front) xs = xs
taken w c xs = []

abbrev pub without_first : List ℕ → List ℕ
without_first [] = []
without_first (x ∷ xs) = xs

abbrev pub others : Change → List ℕ → List ℕ
others (Take n) xs = without_first xs
others (TakeAll front) xs = []
others c xs = xs

abbrev pub given : Change → List ℕ → List ℕ
given (Give i) hand = i ∷ []
given (GiveChain i) hand = hand
given c hand = []

-- the order in which the slots of a list come
abbrev pub in_order : Front → List ℕ → List ℕ
in_order First xs = xs
in_order Last xs = reverse xs

abbrev pub arranged : Change → List ℕ → List ℕ
arranged (TakeAll front) xs = in_order front xs
arranged c xs = xs

-- what the indexes of an exchange are: none is null
abbrev pub IsSound : Fields → Change → Type 0
IsSound w (Take n) = w.index < NULL
IsSound w (Give i) = i < NULL
IsSound w c = Unit {0}

-- A host of lists, over plain data: what it tells about its lists, and the laws that it keeps.
use Rattle.std.specs.Prelude.{◌≡◌, ◌≢◌, ℕ, ◌<◌, Bool, true, false, cond, List, [], length}
use Rattle.atomic_table.specs.Table.{State}
use Rattle.tagged_index.specs.Fields.{fields_of}
use Rattle.index_list.specs.Lists.{Layout, Leads, Holds, Distinct, Stands}
use Rattle.index_list.specs.Steps.{numbers, Each, IsHome, emptied, filled, word, looked, changed, Before, Goes}
use Rattle.index_list.specs.Kinds.{Kind, read_top, read_link, write_link, exchange, place, new_top, gives, taken, given, arranged}
use Rattle.index_list.specs.declared.front.Front.{Front}
use Rattle.index_list.specs.declared.change.Change.{Change}
use Rattle.index_list.specs.declared.change.Change.TheVariants.{Take, TakeAll, Give, GiveChain, Mark, Shut}

-- A host's own words:
-- - `held`: which indexes of a list a seat with this view has in hand.
-- - `may`: a seat with this view may make this kind of step on a list, under the host's own name of
--   it (a `Line`).
-- - `did`: what the seat's view is after the step, by the word found and the slots moved. An
--   exchange that loses finds another word than the one seen, and moves no slot.
-- - `rests`: which slots may go home.
pub record Host (S V Line : Type 0) : Type 1 where
  pub held : ℕ → V → List ℕ
  pub may : Line → ℕ → Kind → V → Type 0
  pub did : Line → ℕ → Kind → ℕ → List (ℕ × S) → V → V → Type 0
  pub rests : Line → ℕ → V → List (ℕ × S) → Type 0

-- What a seat that makes a step may depend on, for its hand and for the words that the step finds. A take has read the link of the first
-- index: if the top is still the one seen, that link still stands. A store into a link, or a give, has the index in hand. A give has stored
-- the seen top in the link of the last index that it gives.
module _ (y : Layout) (l : ℕ) (hand : List ℕ) (word_at : ℕ → ℕ) where
  abbrev pub IsReady : Kind → Type 0
  IsReady (write_link i x) = Holds hand i
  IsReady (exchange w (Take n)) = fields_of (word_at (y.top l)) ≡ w → word_at (y.link l w.index) ≡ n
  IsReady (exchange w (Give i)) = Holds hand i × (word_at (y.link l i) ≡ w.index)
  IsReady (exchange w (GiveChain i)) = Leads (λ j. word_at (y.link l j)) i hand w.index
  IsReady kind = Unit {0}

module _ {S V Line : Type 0} (y : Layout) (host : Host S V Line) (holds : State S V → Type 0) where
  -- slots that go with these indexes, or none if the list carries none
  abbrev pub AreSlots : ℕ → List ℕ → List (ℕ × S) → Type 0
  AreSlots l xs zs = numbers zs ≡ cond (y.carries l) xs []

  -- The slots that an exchange takes, and that it can be made with them
  pub record Takes (line : Line) (l id w x : ℕ) (c : Change) (v : V) (s : State S V) (xs : List ℕ) : Type 0 where
    pub slots : List (ℕ × S)
    pub are : AreSlots l (arranged c (taken (fields_of w) c xs)) slots
    pub distinct : Distinct (numbers slots)
    pub home : Each (IsHome s.homes) slots
    pub goes : Goes holds (changed s (y.top l) x (emptied s.homes slots) id) (host.did line l (exchange (fields_of w) c) w slots v)

  -- what follows if an exchange finds the word it has seen, w, leaves x, and finds the list xs
  abbrev pub Won : Bool → (line : Line) (l id w x : ℕ) → Change → V → State S V → List ℕ → Type 0
  Won false line l id w x c v s xs = Takes line l id w x c v s xs
  Won true line l id w x c v s xs = (zs : List (ℕ × S)) → host.rests line l v zs → AreSlots l (given c (host.held l v)) zs
      × Goes holds (changed s (y.top l) x (filled s.homes zs) id) (host.did line l (exchange (fields_of w) c) w zs v)

  -- the law of a load, of a store into a link, and of an exchange that wins or loses
  module _ (n : ℕ) where
    abbrev pub Reads : Kind → Type 0
    Reads kind = (line : Line) (l id : ℕ) (v : V) (s : State S V) → l < n → host.may line l kind v → Before holds id v (place y l kind) s
        → Goes holds (looked s id) (host.did line l kind (word s (place y l kind)) [] v)

    abbrev pub Writes : ℕ → ℕ → Type 0
    Writes i x = (line : Line) (l id : ℕ) (v : V) (s : State S V) → l < n → host.may line l (write_link i x) v → Before holds id v (y.link l i) s
        → Goes holds (changed s (y.link l i) x s.homes id) (host.did line l (write_link i x) x [] v)

    abbrev pub Loses : Type 0
    Loses = (line : Line) (l id w : ℕ) (c : Change) (v : V) (s : State S V) → l < n → host.may line l (exchange (fields_of w) c) v → Before holds id v (y.top l) s → word s (y.top l) ≢ w
        → Goes holds (looked s id) (host.did line l (exchange (fields_of w) c) (word s (y.top l)) [] v)

    abbrev pub Exchanges : Change → Type 0
    Exchanges c = (line : Line) (l id w x : ℕ) (v : V) (s : State S V) (xs : List ℕ) → l < n → host.may line l (exchange (fields_of w) c) v → fields_of x ≡ new_top (y.keeps l) (fields_of w) c
        → Before holds id v (y.top l) s → word s (y.top l) ≡ w → Stands y host.held l s xs → Won (gives c) line l id w x c v s xs

    -- The laws of a host of n lists, one for each kind of step: a table that meets the rule meets it
    -- again after the step, under some new view of the seat that made it. A host whose lists never
    -- see a kind of step lets `may` say so, and that law is then empty.
    pub record Laws : Type 0 where
      -- whenever the rule holds, the words stand for lists
      pub stands : (l : ℕ) (s : State S V) → l < n → holds s → (xs : List ℕ) × Stands y host.held l s xs
      pub placed : (l : ℕ) (s : State S V) → l < n → holds s → y.top l < length s.words
      pub apart : (l i : ℕ) → l < n → y.link l i ≢ y.top l
      pub ready : (line : Line) (l id : ℕ) (v : V) (s : State S V) (kind : Kind) → l < n → host.may line l kind v → Before holds id v (place y l kind) s → IsReady y l (host.held l v) (word s) kind
      pub reads_top : Reads read_top
      pub reads_link : (i : ℕ) → Reads (read_link i)
      pub writes_link : (i x : ℕ) → Writes i x
      pub loses : Loses
      pub takes : (k : ℕ) → Exchanges (Take k)
      pub takes_all : (front : Front) → Exchanges (TakeAll front)
      pub gives_one : (i : ℕ) → Exchanges (Give i)
      pub gives_chain : (i : ℕ) → Exchanges (GiveChain i)
      pub marks : Exchanges Mark
      pub shuts : Exchanges Shut

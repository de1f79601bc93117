-- What the calls of the two ends of a ring for one producer and one consumer do. `sent` and `received` are all that was pushed and all that
-- was popped. The producer knows of `known_free` free slots, and the consumer of the items `known_items`: so many calls cannot be refused.
use Rattle.std.specs.Prelude.{◌≡◌, ◌+◌, ◌<◌, ◌≤◌, ◌⊎◌, ℕ, List, [], ◌∷◌, ◌++◌, length, take, drop}
use mathlib.Core.List.{IsPrefix}
use Rattle.std.specs.Global.{Global}
use Rattle.rtrb.specs.Ring.{sent, known_free, received, known_items, SameProducer, SameConsumer, ProducerLooked, ConsumerLooked}
use Rattle.rtrb.specs.declared.AnyItems.{AnyItems}
use Rattle.rtrb.specs.declared.producer.Producer.{Producer}
use Rattle.rtrb.specs.declared.consumer.Consumer.{Consumer}
use Rattle.lockfree_c.specs.Codes.{bare}
use Rattle.lockfree_c.specs.declared.answers.Answer.{Answer}
use Rattle.lockfree_c.specs.declared.answers.TheConstants.{OK, FULL, EMPTY, CLOSED}

abbrev pub In : Type 0
In = Producer ℕ Global AnyItems

abbrev pub Out : Type 0
Out = Consumer ℕ Global AnyItems

-- these values, and nothing else, were pushed, behind all others
abbrev pub Sends : In → List ℕ → In → Type 0
Sends p xs q = SameProducer p q × (sent q ≡ sent p ++ xs) × (known_free p ≤ known_free q + length xs)

-- nothing was pushed, and the producer, who looked, knew of no free slot
pub record SeesNoSlot (p q : In) : Type 0 where
  pub at : In
  pub looked : ProducerLooked p at
  pub none_free : known_free at ≡ 0
  pub after : ProducerLooked at q

-- with `CLOSED` the consumer has left
abbrev pub NoRoom : In → In → Answer → Type 0
NoRoom p q a = SeesNoSlot p q × ((a ≡ bare FULL) ⊎ (a ≡ bare CLOSED))

-- a push, which cannot be refused if a slot is known to be free
abbrev pub Pushed : In → ℕ → In → Answer → Type 0
Pushed p x q a = (((a ≡ bare OK) × Sends p (x ∷ []) q) ⊎ NoRoom p q a) × (0 < known_free p → a ≡ bare OK)

-- these values, and nothing else, were popped: the oldest, in the order in which they were pushed
abbrev pub Receives : Out → List ℕ → Out → Type 0
Receives c xs d = SameConsumer c d × (received d ≡ received c ++ xs) × IsPrefix (known_items c) (xs ++ known_items d)

-- nothing was popped, and the consumer, who looked, knew of no item
pub record SeesNoItem (c d : Out) : Type 0 where
  pub at : Out
  pub looked : ConsumerLooked c at
  pub none_there : known_items at ≡ []
  pub after : ConsumerLooked at d

-- with `CLOSED` the producer has left
abbrev pub NoItem : Out → Out → Answer → Type 0
NoItem c d a = SeesNoItem c d × ((a ≡ bare EMPTY) ⊎ (a ≡ bare CLOSED))

-- a pop, which cannot be refused if an item is known to be there
abbrev pub Popped : Out → Out → Answer → Type 0
Popped c d a = (((a.code ≡ OK) × Receives c (a.value ∷ []) d) ⊎ NoItem c d a) × (0 < length (known_items c) → a.code ≡ OK)

-- how many slots are free: so many pushes cannot be refused. With `CLOSED` the consumer has left
abbrev pub Room : In → In → Answer → Type 0
Room p q a = ProducerLooked p q × (a.value ≡ known_free q) × ((a.code ≡ OK) ⊎ (a.code ≡ CLOSED))

-- how many items there are: so many pops cannot be refused. With `CLOSED` the producer has left
abbrev pub Size : Out → Out → Answer → Type 0
Size c d a = ConsumerLooked c d × (a.value ≡ length (known_items d)) × ((a.code ≡ OK) ⊎ (a.code ≡ CLOSED))

-- the first values of an array, as many as found a slot: one at least, unless the array has none
abbrev pub PushedMany : In → List ℕ → In → Answer → Type 0
PushedMany p xs q a = ((a.code ≡ OK) × (a.value ≤ length xs) × Sends p (take a.value xs) q
    × (0 < length xs → 0 < a.value) × (a.value < length xs → known_free q ≡ 0)) ⊎ NoRoom p q a

-- the oldest items, written to the first places of an array, as many as there were and as it has places: one at least, unless it has none
abbrev pub PoppedMany : Out → List ℕ → List ℕ → Out → Answer → Type 0
PoppedMany c xs ys d a = ((a.code ≡ OK) × (a.value ≤ length xs) × (drop a.value ys ≡ drop a.value xs) × Receives c (take a.value ys) d
    × (0 < length xs → 0 < a.value) × (a.value < length xs → known_items d ≡ [])) ⊎ ((ys ≡ xs) × NoItem c d a)

-- the oldest value, which stays
abbrev pub Peeked : Out → Out → Answer → Type 0
Peeked c d a = (((a.code ≡ OK) × ConsumerLooked c d × IsPrefix (a.value ∷ []) (known_items d)) ⊎ NoItem c d a) × (0 < length (known_items c) → a.code ≡ OK)

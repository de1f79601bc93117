-- What the exports of a ring for one producer and one consumer do to the slots of its two ends.
use Rattle.std.specs.Prelude.{◌≡◌, ◌≤◌, ◌⊎◌, ℕ, true, []}
use Rattle.rtrb.specs.Ring.{sent, known_free, producer_capacity, received, known_items, consumer_capacity, IsPair}
use Rattle.lockfree_c.specs.Codes.{bare}
use Rattle.lockfree_c.specs.Ends.{In, Out}
use Rattle.lockfree_c.specs.Held.{NewRefused}
use Rattle.lockfree_c.specs.Slots.{Either, Holds, IsEmpty}
use Rattle.lockfree_c.specs.declared.answers.Answer.{Answer}
use Rattle.lockfree_c.specs.declared.answers.TheConstants.{OK, OTHER_HANDLE, NO_HANDLE, IN_USE}
use Rattle.lockfree_c.specs.declared.held.Held.{Held}
use Rattle.lockfree_c.specs.declared.held.Held.TheVariants.{Producer, Consumer}
use Rattle.lockfree_c.specs.declared.slot.Slot.{Slot}

-- it stays as it is
abbrev pub Declines : Held → Held → Answer → Type 0
Declines h g a = (a ≡ bare OTHER_HANDLE) × (g ≡ h)

-- what a producer does; nothing else makes the call
abbrev pub ProducerDoes : (In → In → Answer → Type 0) → Held → Held → Answer → Type 0
ProducerDoes Does (Producer p) (Producer q) a = Does p q a
ProducerDoes Does (Producer p) g a = ⊥
ProducerDoes Does h g a = Declines h g a

-- what a consumer does; nothing else makes the call
abbrev pub ConsumerDoes : (Out → Out → Answer → Type 0) → Held → Held → Answer → Type 0
ConsumerDoes Does (Consumer c) (Consumer d) a = Does c d a
ConsumerDoes Does (Consumer c) g a = ⊥
ConsumerDoes Does h g a = Declines h g a

-- what lies behind a full slot does this; an empty one stays empty
abbrev pub SlotDoes : (Held → Held → Answer → Type 0) → Slot → Slot → Answer → Type 0
SlotDoes Does s t a = Either s.full ((t.full ≡ true) × Does s.handle.held t.handle.held a) (IsEmpty t × (a ≡ bare NO_HANDLE))

-- the two ends of a new ring of this capacity
abbrev pub AreNewEnds : ℕ → In → Out → Type 0
AreNewEnds n p c = IsPair p c × (sent p ≡ []) × (known_free p ≡ n) × (producer_capacity p ≡ n) × (received c ≡ []) × (known_items c ≡ []) × (consumer_capacity c ≡ n)

-- they were made, each for its own slot; or there are none, since the capacity is 0 or there was no memory
abbrev pub EndsMade : ℕ → Slot → Slot → ℕ → Type 0
EndsMade n s t code = ((code ≡ OK) × ((p : In) × (c : Out) × Holds s (Producer p) × Holds t (Consumer c) × AreNewEnds n p c))
    ⊎ (IsEmpty s × IsEmpty t × NewRefused (1 ≤ n) code)

-- slots that are not both empty are left as they are
abbrev pub SlotsNew : ℕ → Slot → Slot → Slot → Slot → ℕ → Type 0
SlotsNew n s t s' t' code = Either s.full ((s' ≡ s) × (t' ≡ t) × (code ≡ IN_USE))
    (Either t.full ((s' ≡ s) × (t' ≡ t) × (code ≡ IN_USE)) (EndsMade n s' t' code))

-- a producer is given up; what lies behind another slot stays as it is
abbrev pub HeldClosed : Held → Slot → ℕ → Type 0
HeldClosed (Producer p) t code = IsEmpty t × (code ≡ OK)
HeldClosed h t code = Holds t h × (code ≡ OTHER_HANDLE)

abbrev pub SlotClosed : Slot → Slot → ℕ → Type 0
SlotClosed s t code = Either s.full (HeldClosed s.handle.held t code) (IsEmpty t × (code ≡ NO_HANDLE))

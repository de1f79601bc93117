-- What C keeps between calls, as the library left it, and what the exports do to it.
use Rattle.std.specs.Prelude.{◌≡◌, ℕ, Bool, true, false, List, Result, MatchResult}
use Rattle.bounded_model.specs.declared.commands.Command.{Command}
use Rattle.index_list.specs.declared.front.Front.{Front}
use Rattle.lockfree_c.specs.Codes.{bare}
use Rattle.lockfree_c.specs.Held.{IsHeld, HeldCalled, HeldContinues, HeldCopied, HeldCounted, HeldFinished, HeldFolded, HeldGauged, HeldJoined, HeldMatch, HeldNumber, HeldSplit, HeldUnjoined, HeldWentOn, NewRefused}
use Rattle.lockfree_c.specs.declared.answers.Answer.{Answer}
use Rattle.lockfree_c.specs.declared.answers.TheConstants.{OK, NO_HANDLE, IN_USE}
use Rattle.lockfree_c.specs.declared.held.Held.{Held}
use Rattle.lockfree_c.specs.declared.slot.Slot.{Slot}

abbrev pub IsSlot : Slot → Type 0
IsSlot s = s.full ≡ true → IsHeld s.handle.held

-- a slot is full, with this behind it; or it is empty
abbrev pub Holds : Slot → Held → Type 0
Holds s held = (s.full ≡ true) × (s.handle.held ≡ held)

abbrev pub IsEmpty : Slot → Type 0
IsEmpty s = s.full ≡ false

-- P if it is so, and Q if it is not
abbrev pub Either : Bool → Type 0 → Type 0 → Type 0
Either true P Q = P
Either false P Q = Q

abbrev pub SlotCalled : ℕ → Slot → Command ℕ → Slot → Answer → Type 0
SlotCalled tries s call t a = Either s.full
    ((t.full ≡ true) × HeldCalled tries s.handle.held call t.handle.held a)
    (IsEmpty t × (a ≡ bare NO_HANDLE))

abbrev pub SlotWentOn : ℕ → Slot → Slot → Answer → Type 0
SlotWentOn tries s t a = Either s.full
    ((t.full ≡ true) × HeldWentOn tries s.handle.held t.handle.held a)
    (IsEmpty t × (a ≡ bare NO_HANDLE))

abbrev pub SlotCounted : ℕ → Slot → Slot → Answer → Type 0
SlotCounted tries s t a = Either s.full
    ((t.full ≡ true) × HeldCounted tries s.handle.held t.handle.held a)
    (IsEmpty t × (a ≡ bare NO_HANDLE))

abbrev pub SlotGauged : ℕ → Slot → Slot → Answer → Type 0
SlotGauged tries s t a = Either s.full
    ((t.full ≡ true) × HeldGauged tries s.handle.held t.handle.held a)
    (IsEmpty t × (a ≡ bare NO_HANDLE))

abbrev pub SlotFolded : ℕ → Slot → Front → Slot → Answer → Type 0
SlotFolded tries s front t a = Either s.full
    ((t.full ≡ true) × HeldFolded tries s.handle.held front t.handle.held a)
    (IsEmpty t × (a ≡ bare NO_HANDLE))

-- a put of an array that is under way continues with that array
abbrev pub SlotContinues : Slot → List ℕ → Type 0
SlotContinues s values = s.full ≡ true → HeldContinues s.handle.held values

abbrev pub SlotCopied : ℕ → Slot → List ℕ → Slot → Answer → Type 0
SlotCopied tries s values t a = Either s.full
    ((t.full ≡ true) × HeldCopied tries s.handle.held values t.handle.held a)
    (IsEmpty t × (a ≡ bare NO_HANDLE))

-- what is behind it is as it was
abbrev pub SlotNumber : Slot → Slot → Answer → Type 0
SlotNumber s t a = Either s.full
    (Holds t s.handle.held × HeldNumber s.handle.held a)
    (IsEmpty t × (a ≡ bare NO_HANDLE))

abbrev pub SlotFinished : Slot → Slot → Answer → Type 0
SlotFinished s t a = Either s.full
    ((t.full ≡ true) × HeldFinished s.handle.held t.handle.held a)
    (IsEmpty t × (a ≡ bare NO_HANDLE))

-- the call writes a new root within these limits, for which `IsNew` holds; it does not change a slot that is full
abbrev pub SlotNew : (Held → Type 0) → Type 0 → Slot → Slot → ℕ → Type 0
SlotNew IsNew limits s t code = Either s.full
    ((t ≡ s) × (code ≡ IN_USE))
    ((made : Result Held ℕ) × MatchResult made
    (λ held. Holds t held × IsNew held × (code ≡ OK))
    (λ why. IsEmpty t × NewRefused limits why × (code ≡ why)))

-- a pass that a root gives, into a slot that is empty
abbrev pub SlotSplit : Slot → Slot → Slot → Slot → ℕ → Type 0
SlotSplit root pass root' pass' code = Either pass.full
    ((root' ≡ root) × (pass' ≡ pass) × (code ≡ IN_USE))
    (Either root.full
    ((root'.full ≡ true) × ((made : Result Held ℕ) × HeldSplit root.handle.held root'.handle.held made
    × MatchResult made (λ held. Holds pass' held × (code ≡ OK)) (λ why. IsEmpty pass' × (code ≡ why))))
    (IsEmpty root' × IsEmpty pass' × (code ≡ NO_HANDLE)))

-- a pass is joined to the root that it was split from
abbrev pub SlotsMatch : Slot → Slot → Type 0
SlotsMatch root pass = root.full ≡ true → pass.full ≡ true → HeldMatch root.handle.held pass.handle.held

-- the root takes the pass back, whose slot is empty then; or what is behind each slot is as it was
abbrev pub SlotTookBack : Slot → Slot → Slot → Slot → ℕ → Type 0
SlotTookBack root pass root' pass' code = (made : Result (Unit {0}) ℕ) × MatchResult made
    (λ joined. (root'.full ≡ true) × IsEmpty pass' × HeldJoined root.handle.held pass.handle.held root'.handle.held × (code ≡ OK))
    (λ why. Holds root' root.handle.held × Holds pass' pass.handle.held × HeldUnjoined root.handle.held pass.handle.held why × (code ≡ why))

abbrev pub SlotJoined : Slot → Slot → Slot → Slot → ℕ → Type 0
SlotJoined root pass root' pass' code = Either root.full
    (Either pass.full (SlotTookBack root pass root' pass' code) ((root' ≡ root) × (pass' ≡ pass) × (code ≡ NO_HANDLE)))
    ((root' ≡ root) × (pass' ≡ pass) × (code ≡ NO_HANDLE))

-- what was behind it is given up
abbrev pub SlotFreed : Slot → Slot → ℕ → Type 0
SlotFreed s t code = IsEmpty t × Either s.full (code ≡ OK) (code ≡ NO_HANDLE)

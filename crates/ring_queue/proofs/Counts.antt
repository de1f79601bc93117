-- Where a count goes on.
use Rattle.std.proofs.Common.{◌≡◌, ℕ, List, [], refl, ap, subst}
use Rattle.std.specs.Prelude.{Option as Slot}
use Rattle.ring_queue.specs.Prelude.{At, Came, Done, Next, On, Outcome, ToCount, ToCountFrom, fields_of}
use Rattle.ring_queue.specs.declared.code.counting.LenAt.{LenAt}
use Rattle.ring_queue.specs.declared.code.counting.LenAt.TheVariants.{ToFront, ToBack, CheckFront}
use Rattle.ring_queue.specs.code.Machine.{Answered}
use Rattle.ring_queue.specs.Calls.{RingWith, room_of, machine_of}
use Rattle.ring_queue.specs.declared.code.walking.Found.{Found}
use Rattle.ring_queue.specs.declared.code.walking.WalkAt.{WalkAt}
use Rattle.ring_queue.specs.declared.code.walking.WalkAt.TheVariants.{LoadHint}
use Rattle.ring_queue.specs.code.Counting.{len_account, len_line, HasReadToCount}
use Rattle.ring_queue.specs.code.Walking.{to_back, to_front}
use Rattle.ring_queue.specs.code.Steps.{WalkedTo}
use Rattle.ring_queue.proofs.Walks.{busy, LeadsTo, walk_goes, walk_ends}

module _ {T : Type 0} {D : Type 0} (c : RingWith T D) (s : LenAt) (at : WalkAt) (r : Outcome) (has : List (ℕ × Slot T)) (came : Came (machine_of c).core (At (len_line s)) r [] has) where
  abbrev pub Counting : Next LenAt (Answered ℕ) → Type 0
  Counting next = LeadsTo c (len_account c.table.shared.key) s r has has next

  module _ (is : s ≡ ToFront at) where
    pub front_goes : (to : WalkAt) → WalkedTo c (to_front ToCountFrom) at r [] has (On to) → Counting (On (ToFront to))
    front_goes to walked = walk_goes c (len_account c.table.shared.key) s (to_front ToCountFrom) at (ap (λ (u : LenAt). At (len_line u)) is) r has has came to walked (ToFront to)
        (λ l e. record { same = refl; is = e.0; busy = busy {T = T} (to_front ToCountFrom) to; hand = e.1; knows = e.2 })

    pub front_ends : (end : Found) → WalkedTo c (to_front ToCountFrom) at r [] has (Done end) → Counting (On (ToBack end.walk.at (LoadHint end.walk.spare)))
    front_ends end walked = walk_ends c (len_account c.table.shared.key) s (to_front ToCountFrom) at (ap (λ (u : LenAt). At (len_line u)) is) r has has came end walked (On (ToBack end.walk.at (LoadHint end.walk.spare)))
        (λ l e. record { same = refl; is = e.0; busy = refl; hand = e.1; knows = (e.2.slot, tt) })

  module _ (front : ℕ) (is : s ≡ ToBack front at) (known : HasReadToCount (room_of c) s) where
    pub back_goes : (to : WalkAt) → WalkedTo c (to_back (ToCount (fields_of front))) at r [] has (On to) → Counting (On (ToBack front to))
    back_goes to walked = walk_goes c (len_account c.table.shared.key) s (to_back (ToCount (fields_of front))) at (ap (λ (u : LenAt). At (len_line u)) is) r has has came to walked (ToBack front to)
        (λ l e. record { same = refl; is = e.0; busy = busy {T = T} (to_back (ToCount (fields_of front))) to; hand = e.1; knows = ((subst (HasReadToCount (room_of c)) is known).0, e.2) })

    pub back_ends : (end : Found) → WalkedTo c (to_back (ToCount (fields_of front))) at r [] has (Done end) → Counting (On (CheckFront end.walk.spare front end.walk.at))
    back_ends end walked = walk_ends c (len_account c.table.shared.key) s (to_back (ToCount (fields_of front))) at (ap (λ (u : LenAt). At (len_line u)) is) r has has came end walked (On (CheckFront end.walk.spare front end.walk.at))
        (λ l e. record { same = refl; is = e.0; busy = refl; hand = e.1; knows = (subst (HasReadToCount (room_of c)) is known).0 })

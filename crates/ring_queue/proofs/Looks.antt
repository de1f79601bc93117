-- Where a look goes on.
use Rattle.std.proofs.Common.{◌≡◌, ℕ, ◌*◌, Bool, eqb, List, [], refl, sym, subst}
use Rattle.std.specs.Prelude.{Option as Slot}
use Rattle.ring_queue.specs.Prelude.{Came, Done, Next, On, Outcome, ToLook, tag_of}
use Rattle.ring_queue.specs.declared.code.looking.LookAt.{LookAt}
use Rattle.ring_queue.specs.code.Machine.{Answered}
use Rattle.ring_queue.specs.Calls.{RingWith, machine_of}
use Rattle.ring_queue.specs.declared.code.walking.Found.{Found}
use Rattle.ring_queue.specs.declared.code.walking.WalkAt.{WalkAt}
use Rattle.ring_queue.specs.code.Looking.{look_account, look_line}
use Rattle.ring_queue.specs.code.Walking.{to_front}
use Rattle.ring_queue.specs.code.Steps.{WalkedTo}
use Rattle.ring_queue.proofs.Walks.{busy, LeadsTo, walk_goes, walk_ends}

module _ {T : Type 0} {D : Type 0} (c : RingWith T D) (s : LookAt) (r : Outcome) (has : List (ℕ × Slot T)) (came : Came (machine_of c).core (look_line s) r [] has) where
  abbrev pub Looking : Next LookAt (Answered Bool) → Type 0
  Looking next = LeadsTo c (look_account c.table.shared.key) s r has has next

  pub look_goes : (to : WalkAt) → WalkedTo c (to_front ToLook) s.at r [] has (On to) → Looking (On (record { at = to }))
  look_goes to walked = walk_goes c (look_account c.table.shared.key) s (to_front ToLook) s.at refl r has has came to walked (record { at = to })
      (λ l e. record { same = refl; is = e.0; busy = busy {T = T} (to_front ToLook) to; hand = e.1; knows = e.2 })

  -- the tags are those of the slot and of the position
  pub look_ends : (end : Found) → WalkedTo c (to_front ToLook) s.at r [] has (Done end) → (x t : ℕ) → x ≡ tag_of end.slot → t ≡ tag_of end.walk.at → Looking (Done (record { kept = end.walk.spare; reply = eqb x (2 * t) }))
  look_ends end walked x t ex et = subst (λ (b : Bool). Looking (Done (record { kept = end.walk.spare; reply = b }))) (λ i. eqb (sym ex i) (2 * sym et i))
      (walk_ends c (look_account c.table.shared.key) s (to_front ToLook) s.at refl r has has came end walked (Done (record { kept = end.walk.spare; reply = eqb (tag_of end.slot) (2 * tag_of end.walk.at) })) (λ l e. record { is = e.0; hand = e.1 }))

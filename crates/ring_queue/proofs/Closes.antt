-- Where a close or a shut goes on.
use Rattle.std.proofs.Common.{◌≡◌, ℕ, ◌*◌, Bool, true, false, cond, List, [], refl, sym, ap, ◌∙◌, subst}
use Rattle.std.specs.Prelude.{Option as Slot}
use Rattle.ring_queue.specs.Prelude.{At, Came, Done, Leads, Line, Lost, Next, On, Operation, Outcome, SeatLine, ends, is_idle, names}
use Rattle.ring_queue.specs.declared.code.closing.Mark.{Mark}
use Rattle.ring_queue.specs.declared.code.closing.Mark.TheVariants.{Closed, Shut}
use Rattle.ring_queue.specs.declared.code.closing.MarkAt.{MarkAt}
use Rattle.ring_queue.specs.declared.code.closing.MarkAt.TheVariants.{Walking, Setting}
use Rattle.ring_queue.specs.code.Machine.{Answered}
use Rattle.ring_queue.specs.Calls.{RingWith, room_of, laps_of, machine_of}
use Rattle.ring_queue.specs.declared.code.walking.Found.{Found}
use Rattle.ring_queue.specs.declared.code.walking.WalkAt.{WalkAt}
use Rattle.ring_queue.specs.declared.code.walking.WalkAt.TheVariants.{LoadSlot}
use Rattle.ring_queue.specs.code.Closing.{HasReadToMark, aim_of, answer_of, is_set, mark_account, mark_line, mark_of_step, operation_of}
use Rattle.ring_queue.specs.code.Walking.{end_line, full_of, walk_line, IsEnd, IsRead}
use Rattle.ring_queue.specs.code.Steps.{WalkedTo}
use Rattle.ring_queue.proofs.Walks.{busy, LeadsTo, walk_goes, walk_ends}

module _ {T : Type 0} where
  -- the line at the end of the walk, by whether the mark is set there
  abbrev by_test : Mark → Found → Bool → Line T
  by_test mark end b = cond b (ends end.walk.spare.index (answer_of (operation_of mark) false)) (mark_line (Setting mark end))

  at_end : (n limit : ℕ) (mark : Mark) (end : Found) → end_line n limit (aim_of mark) end ≡ by_test mark end (is_set mark end.slot)
  at_end n limit Closed end = refl
  at_end n limit Shut end = refl

setting_busy : (T : Type 0) (mark : Mark) (end : Found) → is_idle (mark_line {T = T} (Setting mark end)) ≡ false
setting_busy T Closed end = refl
setting_busy T Shut end = refl

module _ {T : Type 0} {D : Type 0} (c : RingWith T D) {s : MarkAt} {mark : Mark} {at : WalkAt} (is : s ≡ Walking mark at) (r : Outcome) (has : List (ℕ × Slot T)) (came : Came (machine_of c).core (At (mark_line s)) r [] has) where
  abbrev pub Marking : Next MarkAt (Answered Bool) → Type 0
  Marking next = LeadsTo c (mark_account c.table.shared.key) s r has has next

  walks : At (mark_line {T = T} s) ≡ At (walk_line (aim_of mark) at)
  walks = ap (λ (u : MarkAt). At (mark_line u)) is

  named : operation_of {T = T} (mark_of_step s) ≡ operation_of mark
  named = ap (λ (u : MarkAt). operation_of (mark_of_step u)) is

  pub mark_goes : (to : WalkAt) → WalkedTo c (aim_of mark) at r [] has (On to) → Marking (On (Walking mark to))
  mark_goes to walked = walk_goes c (mark_account c.table.shared.key) s (aim_of mark) at walks r has has came to walked (Walking mark to)
      (λ l e. record { same = sym named; is = e.0; busy = busy {T = T} (aim_of mark) to; hand = e.1; knows = e.2 })

  module _ (end : Found) (walked : WalkedTo c (aim_of mark) at r [] has (Done end)) where
    mark_ends : (b : Bool) → is_set mark end.slot ≡ b → (next : Next MarkAt (Answered Bool)) → ((l : SeatLine T) → l ≡ At (by_test mark end b) → has ≡ [] → IsEnd (room_of c) (laps_of c) (full_of (aim_of {T = T} mark)) end → Leads names (mark_account c.table.shared.key) s l has next) → Marking next
    mark_ends b e next follows = walk_ends c (mark_account c.table.shared.key) s (aim_of mark) at walks r has has came end walked next
        (λ l to. follows l (to.0 ∙ ap At (at_end (room_of c) (2 * laps_of c) mark end ∙ ap (by_test mark end) e)) to.1 to.2)

    pub mark_refused : is_set mark end.slot ≡ true → Marking (Done (record { kept = end.walk.spare; reply = false }))
    mark_refused e = mark_ends true e (Done (record { kept = end.walk.spare; reply = false }))
        (λ l to hand known. record { is = to ∙ ap (λ (o : Operation T). At (ends end.walk.spare.index (answer_of o false))) (sym named); hand = hand })

    pub mark_meets : is_set mark end.slot ≡ false → Marking (On (Setting mark end))
    mark_meets e = mark_ends false e (On (Setting mark end)) (λ l to hand known. record { same = sym named; is = to; busy = setting_busy T mark end; hand = hand; knows = (known.slot, known.short, known.place) })

-- Where the compare-and-swap leads it that was to set the mark
module _ {T : Type 0} {D : Type 0} (c : RingWith T D) (end : Found) (r : Outcome) (has : List (ℕ × Slot T)) where
  abbrev SetTo : Mark → Next MarkAt (Answered Bool) → Type 0
  SetTo mark next = LeadsTo c (mark_account c.table.shared.key) (Setting mark end) r has has next

  abbrev by_win : Mark → Bool → SeatLine T
  by_win mark b = cond b (At (ends end.walk.spare.index (answer_of (operation_of mark) true))) (At (walk_line (aim_of mark) (LoadSlot end.walk)))

  mark_lost : (mark : Mark) → IsRead (room_of c) (LoadSlot end.walk) → r.won ≡ false → SetTo mark (Lost (Walking mark (LoadSlot end.walk)))
  mark_lost Closed known e = λ found came f. record { same = refl; is = ap (by_win Closed) (f.0 ∙ e); busy = refl; hand = (f.2 e).0; knows = known }
  mark_lost Shut known e = λ found came f. record { same = refl; is = ap (by_win Shut) (f.0 ∙ e); busy = refl; hand = (f.2 e).0; knows = known }

  mark_set : (mark : Mark) → r.won ≡ true → SetTo mark (Done (record { kept = end.walk.spare; reply = true }))
  mark_set Closed e = λ found came f. record { is = ap (by_win Closed) (f.0 ∙ e); hand = (f.1 e).0 }
  mark_set Shut e = λ found came f. record { is = ap (by_win Shut) (f.0 ∙ e); hand = (f.1 e).0 }

  -- of what was at this state
  module _ {s : MarkAt} {mark : Mark} (is : s ≡ Setting mark end) where
    abbrev SetFrom : Next MarkAt (Answered Bool) → Type 0
    SetFrom next = LeadsTo c (mark_account c.table.shared.key) s r has has next

    from : (next : Next MarkAt (Answered Bool)) → SetTo mark next → SetFrom next
    from next leads = subst (λ (u : MarkAt). LeadsTo c (mark_account c.table.shared.key) u r has has next) (sym is) leads

    pub mark_loses : HasReadToMark (room_of c) s → r.won ≡ false → SetFrom (Lost (Walking mark (LoadSlot end.walk)))
    mark_loses known e = from (Lost (Walking mark (LoadSlot end.walk))) (mark_lost mark (subst (HasReadToMark (room_of c)) is known) e)

    pub mark_wins : r.won ≡ true → SetFrom (Done (record { kept = end.walk.spare; reply = true }))
    mark_wins e = from (Done (record { kept = end.walk.spare; reply = true })) (mark_set mark e)

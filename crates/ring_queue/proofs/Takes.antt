-- Where a take goes on.
use Rattle.std.proofs.Common.{◌≡◌, ℕ, ◌+◌, ◌*◌, Bool, true, false, cond, eqb, List, [], refl, sym, ap, ◌∙◌, subst, arith}
use Rattle.std.proofs.lemmas.Bool.Decides.{nat_tests}
use Rattle.std.proofs.lemmas.Option.{none-some}
use Rattle.std.specs.Prelude.{Option as Slot, Some, None, Err}
use Rattle.ring_queue.specs.Prelude.{AnswerTake, At, Came, Done, Line, Next, On, Outcome, TakeCell, TakeClosed, TakeEmpty}
use Rattle.ring_queue.specs.Prelude.{TakeRefused, TakeShut, ToTake, ends, fields_of, mark_of, second_of, tag_of}
use Rattle.ring_queue.specs.Calls.{RingWith, room_of, machine_of}
use Rattle.ring_queue.specs.declared.code.taking.TakeAt.{TakeAt}
use Rattle.ring_queue.specs.declared.code.taking.TakeAt.TheVariants.{Walking, Exchange}
use Rattle.ring_queue.specs.declared.code.walking.Found.{Found}
use Rattle.ring_queue.specs.declared.code.walking.WalkAt.{WalkAt}
use Rattle.ring_queue.specs.code.Taking.{Answer, refusal_at, take_account, take_line, take_slots}
use Rattle.ring_queue.specs.code.Walking.{to_front, walk_line, line_of}
use Rattle.ring_queue.specs.code.Steps.{WalkedTo}
use Rattle.ring_queue.proofs.Walks.{busy, LeadsTo, walk_goes, walk_ends}

-- the line at the front, by why nothing can be taken there
abbrev by_refusal : {T : Type 0} → Found → Slot TakeRefused → Line T
by_refusal f None = TakeCell (line_of f.walk) (fields_of f.slot)
by_refusal f (Some why) = ends f.walk.spare.index (AnswerTake (Err why))

by_tests : {T : Type 0} (f : Found) (second full mark : Bool)
    → cond second (ends {T = T} f.walk.spare.index (AnswerTake (Err TakeShut))) (cond full (TakeCell (line_of f.walk) (fields_of f.slot)) (cond mark (ends f.walk.spare.index (AnswerTake (Err TakeClosed))) (ends f.walk.spare.index (AnswerTake (Err TakeEmpty)))))
    ≡ by_refusal f (cond second (Some TakeShut) (cond full None (cond mark (Some TakeClosed) (Some TakeEmpty))))
by_tests f true full mark = refl
by_tests f false true mark = refl
by_tests f false false true = refl
by_tests f false false false = refl

-- the front has a value exactly if a take is not refused there
full_at_front : (second full mark : Bool) → cond {A = Slot TakeRefused} second (Some TakeShut) (cond full None (cond mark (Some TakeClosed) (Some TakeEmpty))) ≡ None → full ≡ true
full_at_front true full mark e = absurd (none-some TakeShut (sym e))
full_at_front false true mark e = refl
full_at_front false false true e = absurd (none-some TakeClosed (sym e))
full_at_front false false false e = absurd (none-some TakeEmpty (sym e))

module _ {T : Type 0} {D : Type 0} (c : RingWith T D) {s : TakeAt T} {at : WalkAt} (is : s ≡ Walking at) (r : Outcome) (has : List (ℕ × Slot T)) (came : Came (machine_of c).core (At (take_line (room_of c) s)) r (take_slots s) has) where
  abbrev pub Taking : Next (TakeAt T) (Answer T) → Type 0
  Taking next = LeadsTo c (take_account c.table.shared.key) s r has has next

  walks : At (take_line (room_of c) s) ≡ At (walk_line (to_front ToTake) at)
  walks = ap (λ (u : TakeAt T). At (take_line (room_of c) u)) is

  bare : take_slots s ≡ []
  bare = ap take_slots is

  walked_so : (to : Next WalkAt Found) → WalkedTo c (to_front ToTake) at r [] has to → WalkedTo c (to_front ToTake) at r (take_slots s) has to
  walked_so to walked = subst (λ (zs : List (ℕ × Slot T)). WalkedTo c (to_front ToTake) at r zs has to) (sym bare) walked

  pub take_goes : (to : WalkAt) → WalkedTo c (to_front ToTake) at r [] has (On to) → Taking (On (Walking to))
  take_goes to walked = walk_goes c (take_account c.table.shared.key) s (to_front ToTake) at walks r has has came to (walked_so (On to) walked) (Walking to)
      (λ l e. record { same = refl; is = e.0; busy = busy {T = T} (to_front ToTake) to; hand = e.1 ∙ bare; knows = e.2 })

  module _ (end : Found) (walked : WalkedTo c (to_front ToTake) at r [] has (Done end)) where
    pub take_refused : (why : TakeRefused) → refusal_at end.walk.at end.slot ≡ Some why → Taking (Done (record { kept = end.walk.spare; reply = Err why }))
    take_refused why e = walk_ends c (take_account c.table.shared.key) s (to_front ToTake) at walks r has has came end (walked_so (Done end) walked) (Done (record { kept = end.walk.spare; reply = Err why }))
        (λ l to. record { is = to.0 ∙ ap At (by_tests end (second_of end.slot) (eqb (tag_of end.slot) (2 * tag_of end.walk.at + 1)) (mark_of end.slot) ∙ ap (by_refusal end) e); hand = to.1 ∙ bare })

    pub take_meets : refusal_at end.walk.at end.slot ≡ None → Taking (On (Exchange end))
    take_meets e = walk_ends c (take_account c.table.shared.key) s (to_front ToTake) at walks r has has came end (walked_so (Done end) walked) (On (Exchange end))
        (λ l to. record {
          same = refl;
          is = to.0 ∙ ap At (by_tests end (second_of end.slot) (eqb (tag_of end.slot) (2 * tag_of end.walk.at + 1)) (mark_of end.slot) ∙ ap (by_refusal end) e);
          busy = refl;
          hand = to.1 ∙ bare;
          knows = (to.2, grind (arith, nat_tests, full_at_front (second_of end.slot) (eqb (tag_of end.slot) (2 * tag_of end.walk.at + 1)) (mark_of end.slot) e));
        })

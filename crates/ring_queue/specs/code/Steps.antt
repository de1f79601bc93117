-- At which state a call stands, and what some of its steps give.
use Rattle.std.specs.Prelude.{◌≡◌, Bool, ℕ, ◌*◌, List, Option as Slot}
use Rattle.running.specs.Steps.{Stands, Ran}
use Rattle.running.specs.Code.{MatchNext}
use Rattle.ring_queue.specs.Prelude.{At, Came, Event, Finding, Next, Operation, Outcome, Pass, SeatLine}
use Rattle.ring_queue.specs.code.Machine.{put_of, Answered}
use Rattle.ring_queue.specs.declared.code.putting.PutAt.{PutAt}
use Rattle.ring_queue.specs.Calls.{RingQueue, RingWith, machine_of, machine_with, room_of, laps_of}
use Rattle.ring_queue.specs.code.Putting.{put_value, put_account, Answer as PutAnswer}
use Rattle.ring_queue.specs.declared.code.taking.TakeAt.{TakeAt}
use Rattle.ring_queue.specs.code.Taking.{take_account, Answer as TakeAnswer}
use Rattle.ring_queue.specs.declared.code.looking.LookAt.{LookAt}
use Rattle.ring_queue.specs.code.Looking.{look_account}
use Rattle.ring_queue.specs.declared.code.closing.MarkAt.{MarkAt}
use Rattle.ring_queue.specs.code.Closing.{mark_account}
use Rattle.ring_queue.specs.declared.life.spare.Spare.{Spare}
use Rattle.ring_queue.specs.declared.code.walking.WalkAt.{WalkAt}
use Rattle.ring_queue.specs.declared.code.walking.Found.{Found}
use Rattle.ring_queue.specs.code.Walking.{Aim, spare_at, IsRead, IsEnd, full_of, walk_line, end_line}

module _ {T : Type 0} where
  -- a whole call of this operation is at this
  abbrev pub PutStands : (List (Event T) → Type 0) → {D : Type 0} → RingWith T D → Operation T → Pass T (SeatLine T) → PutAt T → Type 0
  PutStands rule c o p s = (o ≡ put_of (put_value s)) × Stands (machine_with rule c) (put_account c.table.shared.key) c.table.shared.table_id p s

  -- what some steps of it give
  abbrev pub PutRan : (List (Event T) → Type 0) → {D : Type 0} → RingWith T D → Operation T → Pass T (SeatLine T) → Pass T (SeatLine T) → Next (PutAt T) (PutAnswer T) → Type 0
  PutRan rule c o p q r = Ran (machine_with rule c) (put_account c.table.shared.key) c.table.shared.table_id o p q r

  -- a whole call is at this
  abbrev pub TakeStands : (List (Event T) → Type 0) → {D : Type 0} → RingWith T D → Pass T (SeatLine T) → TakeAt T → Type 0
  TakeStands rule c p s = Stands (machine_with rule c) (take_account c.table.shared.key) c.table.shared.table_id p s

  -- what some steps of it give
  abbrev pub TakeRan : (List (Event T) → Type 0) → {D : Type 0} → RingWith T D → Operation T → Pass T (SeatLine T) → Pass T (SeatLine T) → Next (TakeAt T) (TakeAnswer T) → Type 0
  TakeRan rule c o p q r = Ran (machine_with rule c) (take_account c.table.shared.key) c.table.shared.table_id o p q r

  -- an operation is at this
  abbrev pub LookStands : (List (Event T) → Type 0) → {D : Type 0} → RingWith T D → Pass T (SeatLine T) → LookAt → Type 0
  LookStands rule c p s = Stands (machine_with rule c) (look_account c.table.shared.key) c.table.shared.table_id p s

  -- what some steps of it give
  abbrev pub LookRan : (List (Event T) → Type 0) → {D : Type 0} → RingWith T D → Operation T → Pass T (SeatLine T) → Pass T (SeatLine T) → Next LookAt (Answered Bool) → Type 0
  LookRan rule c o p q r = Ran (machine_with rule c) (look_account c.table.shared.key) c.table.shared.table_id o p q r

  -- what some steps of it give
  abbrev pub MarkRan : RingQueue T → Operation T → Pass T (SeatLine T) → Pass T (SeatLine T) → Next MarkAt (Answered Bool) → Type 0
  MarkRan c o p q r = Ran (machine_of c) (mark_account c.table.shared.key) c.table.shared.table_id o p q r

  -- what a step leads to, with this spare cell, and with these slots in hand before it and after it
  abbrev pub Walks : {D : Type 0} → RingWith T D → SeatLine T → Aim T → Spare → List (ℕ × Slot T) → List (ℕ × Slot T) → Next WalkAt Found → Type 0
  Walks c l aim spare had has to = MatchNext to
      (λ at. (l ≡ At (walk_line aim at)) × (has ≡ had) × IsRead (room_of c) at × (spare_at at ≡ spare))
      (λ end. (l ≡ At (end_line (room_of c) (2 * laps_of c) aim end)) × (has ≡ had) × IsEnd (room_of c) (laps_of c) (full_of aim) end × (end.walk.spare ≡ spare))

  -- where a step leads that had the outcome r
  abbrev pub WalkedTo : {D : Type 0} → RingWith T D → Aim T → WalkAt → Outcome → List (ℕ × Slot T) → List (ℕ × Slot T) → Next WalkAt Found → Type 0
  WalkedTo c aim at r had has to = Came (machine_of c).core (At (walk_line aim at)) r had has
      → Finding (machine_of c).core (At (walk_line aim at)) r had has (λ found came. Walks c ((machine_of c).core.next (At (walk_line aim at)) found came) aim (spare_at at) had has to)

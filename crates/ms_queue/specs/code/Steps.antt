-- At which state a call stands, and what some of its steps give.
use Rattle.std.specs.Prelude.{◌≡◌, Bool, ℕ, List, Option as Slot}
use Rattle.running.specs.Steps.{Stands, Ran}
use Rattle.ms_queue.specs.Prelude.{Answer, Came, Event, Finding, Line, MatchNext, Next, Operation, Outcome, Pass, Seeking, next}
use Rattle.ms_queue.specs.declared.code.putting.PutAt.{PutAt}
use Rattle.ms_queue.specs.code.Machine.{put_of, Answered}
use Rattle.ms_queue.specs.Calls.{QueueWith, machine_of, machine_with, limit_of, room_of}
use Rattle.ms_queue.specs.code.Putting.{put_value, put_account, Answer as PutAnswer}
use Rattle.ms_queue.specs.declared.code.taking.TakeAt.{TakeAt}
use Rattle.ms_queue.specs.code.Taking.{take_account, Answer as TakeAnswer}
use Rattle.ms_queue.specs.declared.code.looking.LookAt.{LookAt}
use Rattle.ms_queue.specs.code.Looking.{look_account}
use Rattle.ms_queue.specs.declared.code.counting.LenAt.{LenAt}
use Rattle.ms_queue.specs.code.Counting.{len_account}
use Rattle.ms_queue.specs.declared.code.giving.Held.{Held}
use Rattle.ms_queue.specs.declared.code.giving.Give.{Give}
use Rattle.ms_queue.specs.code.Giving.{give_line, held_slot, Gives}
use Rattle.ms_queue.specs.declared.code.seeking.Seek.{Seek}
use Rattle.ms_queue.specs.declared.code.seeking.End.{End}
use Rattle.ms_queue.specs.code.Seeking.{IsRead, seek_line, end_line, HasReadEnd}

module _ {T : Type 0} where
  -- a whole call of this operation is at this
  abbrev pub PutStands : (List (Event T) → Type 0) → {D : Type 0} → QueueWith T D → Operation T → Pass T (Line T) → PutAt T → Type 0
  PutStands rule c o p at = (o ≡ put_of (put_value at)) × Stands (machine_with rule c) (put_account c.table.shared.key) c.table.shared.table_id p at

  -- what some steps of it give
  abbrev pub PutRan : (List (Event T) → Type 0) → {D : Type 0} → QueueWith T D → Operation T → Pass T (Line T) → Pass T (Line T) → Next (PutAt T) (PutAnswer T) → Type 0
  PutRan rule c o p q r = Ran (machine_with rule c) (put_account c.table.shared.key) c.table.shared.table_id o p q r

  -- a whole call is at this
  abbrev pub TakeStands : (List (Event T) → Type 0) → {D : Type 0} → QueueWith T D → Pass T (Line T) → TakeAt T → Type 0
  TakeStands rule c p at = Stands (machine_with rule c) (take_account c.table.shared.key) c.table.shared.table_id p at

  -- what some steps of it give
  abbrev pub TakeRan : (List (Event T) → Type 0) → {D : Type 0} → QueueWith T D → Operation T → Pass T (Line T) → Pass T (Line T) → Next (TakeAt T) (TakeAnswer T) → Type 0
  TakeRan rule c o p q r = Ran (machine_with rule c) (take_account c.table.shared.key) c.table.shared.table_id o p q r

  -- a whole call is at this
  abbrev pub LookStands : (List (Event T) → Type 0) → {D : Type 0} → QueueWith T D → Pass T (Line T) → LookAt → Type 0
  LookStands rule c p at = Stands (machine_with rule c) (look_account c.table.shared.key) c.table.shared.table_id p at

  -- what some steps of it give
  abbrev pub LookRan : (List (Event T) → Type 0) → {D : Type 0} → QueueWith T D → Operation T → Pass T (Line T) → Pass T (Line T) → Next LookAt (Answered Bool) → Type 0
  LookRan rule c o p q r = Ran (machine_with rule c) (look_account c.table.shared.key) c.table.shared.table_id o p q r

  -- a whole call is at this
  abbrev pub LenStands : (List (Event T) → Type 0) → {D : Type 0} → QueueWith T D → Pass T (Line T) → LenAt → Type 0
  LenStands rule c p at = Stands (machine_with rule c) (len_account c.table.shared.key) c.table.shared.table_id p at

  -- what some steps of it give
  abbrev pub LenRan : (List (Event T) → Type 0) → {D : Type 0} → QueueWith T D → Operation T → Pass T (Line T) → Pass T (Line T) → Next LenAt (Answered ℕ) → Type 0
  LenRan rule c o p q r = Ran (machine_with rule c) (len_account c.table.shared.key) c.table.shared.table_id o p q r

  -- where a step leads that came to r
  abbrev pub GaveTo : {D : Type 0} → QueueWith T D → Answer T → Held → Give → Outcome → List (ℕ × Slot T) → Next Give (Unit {0}) → Type 0
  GaveTo c a held at r has to = Finding (machine_of c).core (give_line a held at) r (held_slot held) has
      (λ found came. Gives (next (limit_of c) (give_line a held at) found came) a held has to)

  -- what a step leads to, with these slots in hand before it and after it
  abbrev pub Seeks : {D : Type 0} → QueueWith T D → Line T → Seeking T → List (ℕ × Slot T) → List (ℕ × Slot T) → Next Seek End → Type 0
  Seeks c l s had has to = MatchNext to
      (λ at. (l ≡ seek_line s at) × (has ≡ had) × IsRead (room_of c) (limit_of c) at)
      (λ end. (l ≡ end_line s end) × (has ≡ had) × HasReadEnd (room_of c) (limit_of c) s end)

  -- where a step leads that came to r
  abbrev pub SoughtTo : {D : Type 0} → QueueWith T D → Seeking T → Seek → Outcome → List (ℕ × Slot T) → List (ℕ × Slot T) → Next Seek End → Type 0
  SoughtTo c s at r had has to = Came (machine_of c).core (seek_line s at) r had has
      → Finding (machine_of c).core (seek_line s at) r had has (λ found came. Seeks c (next (limit_of c) (seek_line s at) found came) s had has to)

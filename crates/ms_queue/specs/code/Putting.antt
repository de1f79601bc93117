-- A put made by steps.
use Rattle.std.specs.Prelude.{ℕ, Result, Err, List, [], ◌∷◌, Option as Slot, Some, ◌+◌, ◌<◌, ◌≤◌}
use Rattle.queue_machine.specs.declared.lines.Linking.{Linking}
use Rattle.queue_machine.specs.declared.lines.Answer as lines
use Rattle.bounded_model.specs.declared.answers.PutRefused.TheVariants.{Spent}
use Rattle.queue_machine.specs.declared.lines.Line.TheVariants.{LoadCells, LoadCellLink, TakeCell, LoadNodes, LoadNodeLink, TakeNode, StoreCell, LoadNext, PrepareNext, LinkNext, SwingToLinked}
use Rattle.queue_machine.specs.Machine.{with_cell}
use Rattle.ms_queue.specs.Prelude.{Account, AnswerPut, Closed, Full, Limits, Line, NULL, Operation, PutRefused, ToLink, ToRefuse, capacity_of, ends}
use Rattle.ms_queue.specs.Prelude.{fields_of, index_of, tag_limit_of, tag_of, to_answer}
use Rattle.ms_queue.specs.code.Machine.{Answered, put_of}
use Rattle.ms_queue.specs.declared.code.giving.Held.{Held}
use Rattle.ms_queue.specs.declared.code.putting.PutAt.{PutAt}
use Rattle.ms_queue.specs.declared.code.putting.PutAt.TheVariants.{LoadCells as AtCells, LoadCellLink as AtCellLink, TakeCell as AtTakeCell, Refusing, LoadNodes as AtNodes, LoadNodeLink as AtNodeLink, TakeNode as AtTakeNode, StoreCell as AtStoreCell, LoadNext as AtNext, PrepareNext as AtPrepare, Seeking, LinkNext as AtLink, SwingTail, GiveBack}
use Rattle.ms_queue.specs.code.Giving.{give_line, held_slot, AreHeld}
use Rattle.ms_queue.specs.code.Seeking.{seek_line, IsRead}

abbrev pub Answer : Type 0 → Type 0
Answer T = Answered (Result ℕ (PutRefused T))

module _ {T : Type 0} where
  abbrev pub linking : T → Held → Linking T
  linking x held = record { value = x; cell = held.cell; node = held.node }

  abbrev pub refused : PutRefused T → lines.Answer T
  refused why = AnswerPut (Err why)

  -- the value that is put
  abbrev pub refused_value : PutRefused T → T
  refused_value (Full x) = x
  refused_value (Closed x) = x
  refused_value (Spent x word t) = x

  abbrev pub put_value : PutAt T → T
  put_value (AtCells x) = x
  put_value (AtCellLink x w) = x
  put_value (AtTakeCell x w k) = x
  put_value (Refusing x at) = x
  put_value (AtNodes shown i) = shown.value
  put_value (AtNodeLink shown i w) = shown.value
  put_value (AtTakeNode shown i w k) = shown.value
  put_value (AtStoreCell shown held) = shown.value
  put_value (AtNext shown held) = shown.value
  put_value (AtPrepare shown held w) = shown.value
  put_value (Seeking shown held at) = shown.value
  put_value (AtLink shown held w y) = shown.value
  put_value (SwingTail shown w y) = shown.value
  put_value (GiveBack why held at) = refused_value why

  -- the machine's line
  abbrev pub put_line : PutAt T → Line T
  put_line (AtCells x) = LoadCells x
  put_line (AtCellLink x w) = LoadCellLink x (fields_of w)
  put_line (AtTakeCell x w k) = TakeCell x (fields_of w) k
  put_line (Refusing x at) = seek_line (ToRefuse x) at
  put_line (AtNodes shown i) = LoadNodes (with_cell shown.value i)
  put_line (AtNodeLink shown i w) = LoadNodeLink (with_cell shown.value i) (fields_of w)
  put_line (AtTakeNode shown i w k) = TakeNode (with_cell shown.value i) (fields_of w) k
  put_line (AtStoreCell shown held) = StoreCell (linking shown.value held)
  put_line (AtNext shown held) = LoadNext (linking shown.value held)
  put_line (AtPrepare shown held w) = PrepareNext (linking shown.value held) (fields_of w)
  put_line (Seeking shown held at) = seek_line (ToLink (linking shown.value held)) at
  put_line (AtLink shown held w y) = LinkNext (linking shown.value held) (fields_of w) (fields_of y)
  put_line (SwingTail shown w y) = SwingToLinked shown.value (fields_of w) (fields_of y)
  put_line (GiveBack why held at) = give_line (refused why) held at

  -- the slots in hand: that of the cell, with the value until it is refused
  abbrev pub full_slot : T → ℕ → List (ℕ × Slot T)
  full_slot x i = (i, Some x) ∷ []

  abbrev pub put_slots : PutAt T → List (ℕ × Slot T)
  put_slots (AtNodes shown i) = full_slot shown.value i
  put_slots (AtNodeLink shown i w) = full_slot shown.value i
  put_slots (AtTakeNode shown i w k) = full_slot shown.value i
  put_slots (AtStoreCell shown held) = full_slot shown.value held.cell
  put_slots (AtNext shown held) = full_slot shown.value held.cell
  put_slots (AtPrepare shown held w) = full_slot shown.value held.cell
  put_slots (Seeking shown held at) = full_slot shown.value held.cell
  put_slots (AtLink shown held w y) = full_slot shown.value held.cell
  put_slots (GiveBack why held at) = held_slot held
  put_slots at = []

  -- what was read names cells and nodes, and the tag of the word to be exchanged has room to rise
  abbrev pub HasReadToPut : ℕ → ℕ → PutAt T → Type 0
  HasReadToPut n limit (AtCells x) = Unit {0}
  HasReadToPut n limit (AtCellLink x w) = (index_of w < n) × (tag_of w < limit)
  HasReadToPut n limit (AtTakeCell x w k) = (index_of w < n) × (tag_of w < limit) × (k ≤ NULL)
  HasReadToPut n limit (Refusing x at) = IsRead n limit at
  HasReadToPut n limit (AtNodes shown i) = i < n
  HasReadToPut n limit (AtNodeLink shown i w) = (i < n) × (index_of w < n + 1) × (tag_of w < limit)
  HasReadToPut n limit (AtTakeNode shown i w k) = (i < n) × (index_of w < n + 1) × (tag_of w < limit) × (k ≤ NULL)
  HasReadToPut n limit (AtStoreCell shown held) = AreHeld n held
  HasReadToPut n limit (AtNext shown held) = AreHeld n held
  HasReadToPut n limit (AtPrepare shown held w) = AreHeld n held × (tag_of w + 1 < limit)
  HasReadToPut n limit (Seeking shown held at) = AreHeld n held × IsRead n limit at
  HasReadToPut n limit (AtLink shown held w y) = AreHeld n held × (index_of w < n + 1) × (tag_of y < limit)
  HasReadToPut n limit (SwingTail shown w y) = tag_of w < limit
  HasReadToPut n limit (GiveBack why held at) = AreHeld n held

  -- how it is read
  abbrev pub put_account : Limits → Account T (Line T) (Operation T) (PutAt T) (Answer T)
  put_account k = to_answer (λ at. put_of (put_value at)) put_line put_slots (λ at. HasReadToPut (capacity_of k) (tag_limit_of k) at) (λ o a. ends (AnswerPut a.reply))

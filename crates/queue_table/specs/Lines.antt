-- What the code knows at a line of the queue.
use Rattle.std.specs.Prelude.{◌≡◌, ◌≢◌, ℕ, ◌+◌, ◌<◌, ◌≤◌, true, false, List, [], ◌∷◌, Option as Slot, Some, None}
use Rattle.tagged_index.specs.Fields.{fields_of, index_of}
use Rattle.tagged_index.specs.declared.word.TheConstants.{NULL}
use Rattle.bounded_model.specs.declared.views.Answered.{Answered}
use Rattle.bounded_model.specs.declared.views.Answered.TheVariants.{Take as TakeAnswered, Close as CloseAnswered, Shut as ShutAnswered, Look as LookAnswered, Len as LenAnswered, Gauge as GaugeAnswered, Heard}
use Rattle.bounded_model.specs.Laws.{put_answered}
use Rattle.queue_machine.specs.declared.lines.Answer.{Answer}
use Rattle.queue_machine.specs.declared.lines.Answer.TheVariants.{Put as AnswerPut, Take as AnswerTake, Close as AnswerClose, Shut as AnswerShut, Look as AnswerLook, Len as AnswerLen, Gauge as AnswerGauge}
use Rattle.queue_machine.specs.declared.lines.Call.{Call}
use Rattle.queue_machine.specs.declared.lines.Call.TheVariants.{Put as CallPut, Take as CallTake, Close as CallClose, Shut as CallShut, Look as CallLook, Len as CallLen, Gauge as CallGauge}
use Rattle.queue_machine.specs.declared.lines.Line.{Line}
use Rattle.queue_machine.specs.declared.lines.Line.TheVariants.{Idle, LoadCells, LoadCellLink, TakeCell, LoadNodes, LoadNodeLink, LoadTail, LoadTailNext, CheckTail, SwingTail, LinkNext, SwingToLinked, MarkNext, LoadHead, LoadHeadNext, CheckHead, SwingTailToTake, LoadCell, TakeHead, LoadHeadToLook, LoadTailToCount}
use Rattle.queue_machine.specs.Machine.{is_idle, starts, table}
use Rattle.machine.specs.Seats.{all_alike}
use Rattle.running.specs.Machine.{Names}
use Rattle.running.specs.Tables.{next_of}
use Rattle.queue_table.specs.declared.operation.Operation.{Operation}
use Rattle.queue_table.specs.declared.operation.Operation.TheVariants.{Put as PutFirst, Take as TakeFirst, Close as CloseFirst, Shut as ShutFirst, Look as LookFirst, Len as LenFirst, Gauge as GaugeFirst}

module _ {T : Type 0} where
  -- the machine's call of an operation, whose first line is the machine's
  abbrev pub call_of : Operation T → Call T
  call_of (PutFirst v) = CallPut v.value
  call_of TakeFirst = CallTake
  call_of CloseFirst = CallClose
  call_of ShutFirst = CallShut
  call_of LookFirst = CallLook
  call_of LenFirst = CallLen
  call_of GaugeFirst = CallGauge

  -- what its call has answered, of a pass that is idle at this line
  abbrev pub answered : Answer T → Answered T
  answered (AnswerPut r) = put_answered r
  answered (AnswerTake r) = TakeAnswered r
  answered (AnswerClose b) = CloseAnswered b
  answered (AnswerShut b) = ShutAnswered b
  answered (AnswerLook b) = LookAnswered b
  answered (AnswerLen k) = LenAnswered k
  answered (AnswerGauge closed used) = GaugeAnswered closed used

  abbrev pub reply : Line T → Answered T
  reply (Idle (Some a)) = answered a
  reply l = Heard

  abbrev pub first_line : Operation T → Line T
  first_line o = starts (call_of o)

  -- no operation begins idle
  pub begins_busy : (o : Operation T) → is_idle (first_line o) ≡ false
  begins_busy (PutFirst v) = λ i. false
  begins_busy o = λ i. false

  abbrev pub names : Names (Line T) (Operation T)
  names = record {
    shares = all_alike (Idle None);
    is_idle = is_idle;
    quiet = λ l. Idle None;
    first = λ o rest. first_line o;
    rests = λ l i. true;
    calm = λ l i. Idle None;
    starts = λ o rest. begins_busy o;
  }

  -- the next line, by the word found and the slots moved
  abbrev pub next : ℕ → Line T → ℕ → List (ℕ × Slot T) → Line T
  next limit l y zs = next_of (Idle None) l (table limit l) y zs

  -- which slot an exchange brings: that of the one cell
  abbrev pub Brings : Line T → List (ℕ × Slot T) → Type 0
  Brings (TakeCell v w k) zs = zs ≡ (w.index, None) ∷ []
  Brings (TakeHead h x k) zs = (v : T) × (zs ≡ (k, Some v) ∷ [])
  Brings l zs = Unit {0}

  -- the tag of the word that an exchange expects can rise
  abbrev pub HasRoom : ℕ → Line T → Type 0
  HasRoom limit (SwingTail s w x) = w.tag < limit
  HasRoom limit (LinkNext link w x) = x.tag < limit
  HasRoom limit (SwingToLinked v w x) = w.tag < limit
  HasRoom limit (MarkNext w x) = x.tag < limit
  HasRoom limit (SwingTailToTake w x) = w.tag < limit
  HasRoom limit (TakeHead h x k) = h.tag < limit
  HasRoom limit l = Unit {0}

  -- What the word that a line finds tells the code. It names a cell, or one of the n + 1 nodes, or it is a plain link. The exchange that
  -- comes next has room
  abbrev pub Says : ℕ → ℕ → Line T → ℕ → Type 0
  Says n limit (LoadCells v) y = index_of y ≢ NULL → index_of y < n
  Says n limit (LoadCellLink v w) y = y ≤ NULL
  Says n limit (LoadNodes put) y = index_of y ≢ NULL → index_of y < n + 1
  Says n limit (LoadNodeLink put w) y = y ≤ NULL
  Says n limit (LoadTail s) y = index_of y < n + 1
  Says n limit (LoadTailNext s w) y = index_of y ≢ NULL → index_of y < n + 1
  Says n limit (CheckTail s w x) y = HasRoom limit (next limit (CheckTail s w x) y [])
  Says n limit (LinkNext link w x) y = HasRoom limit (next limit (LinkNext link w x) y [])
  Says n limit LoadHead y = index_of y < n + 1
  Says n limit (LoadHeadNext h w) y = index_of y ≢ NULL → index_of y < n + 1
  Says n limit (CheckHead h w x) y = HasRoom limit (next limit (CheckHead h w x) y [])
  Says n limit (LoadCell h x) y = (y ≤ NULL) × (h.tag < limit)
  Says n limit (TakeHead h x k) y = fields_of y ≡ h → k < n
  Says n limit LoadHeadToLook y = index_of y < n + 1
  Says n limit (LoadTailToCount h) y = index_of y < n + 1
  Says n limit l y = Unit {0}

-- What the code knows at a line of the ring.
use Rattle.std.specs.Prelude.{◌≡◌, ℕ, ◌*◌, ◌<◌, ◌≤◌, List, [], ◌∷◌, Option as Slot, Some, None}
use Rattle.tagged_index.specs.Fields.{index_of, tag_of}
use Rattle.bounded_model.specs.declared.views.Answered.{Answered}
use Rattle.bounded_model.specs.declared.views.Answered.TheVariants.{Take as TakeAnswered, Close as CloseAnswered, Shut as ShutAnswered, Look as LookAnswered, Len as LenAnswered, Gauge as GaugeAnswered, Heard}
use Rattle.bounded_model.specs.Laws.{put_answered}
use Rattle.ring_machine.specs.declared.lines.Answer.{Answer}
use Rattle.ring_machine.specs.declared.lines.Answer.TheVariants.{Put as AnswerPut, Take as AnswerTake, Close as AnswerClose, Shut as AnswerShut, Look as AnswerLook, Len as AnswerLen, Gauge as AnswerGauge}
use Rattle.ring_machine.specs.declared.lines.Call.{Call}
use Rattle.ring_machine.specs.declared.lines.Call.TheVariants.{Put as CallPut, Take as CallTake, Close as CallClose, Shut as CallShut, Look as CallLook, Len as CallLen, Gauge as CallGauge}
use Rattle.ring_machine.specs.declared.lines.Line.{Line}
use Rattle.ring_machine.specs.declared.lines.Line.TheVariants.{Idle, FetchTail, LoadTail, LoadBack, LoadHead, LoadFront, TakeCell}
use Rattle.ring_table.specs.declared.operation.Operation.{Operation}
use Rattle.ring_table.specs.declared.operation.Operation.TheVariants.{Put as PutFirst, Take as TakeFirst, Close as CloseFirst, Shut as ShutFirst, Look as LookFirst, Len as LenFirst, Gauge as GaugeFirst}

module _ {T : Type 0} where
  -- the machine's call of an operation
  abbrev pub call_of : Operation T → Call T
  call_of (PutFirst v) = CallPut v.value
  call_of TakeFirst = CallTake
  call_of CloseFirst = CallClose
  call_of ShutFirst = CallShut
  call_of LookFirst = CallLook
  call_of LenFirst = CallLen
  call_of GaugeFirst = CallGauge

  -- what the call of a pass that is idle at this line has answered
  abbrev pub answered : Answer T → Answered T
  answered (AnswerPut r) = put_answered r
  answered (AnswerTake r) = TakeAnswered r
  answered (AnswerClose b) = CloseAnswered b
  answered (AnswerShut b) = ShutAnswered b
  answered (AnswerLook b) = LookAnswered b
  answered (AnswerLen k) = LenAnswered k
  answered (AnswerGauge closed used) = GaugeAnswered closed used

  abbrev pub reply : Line T → Answered T
  reply (Idle c (Some a)) = answered a
  reply l = Heard

  -- which slot a step brings: the spare cell, or the cell that it takes
  abbrev pub Brings : Line T → List (ℕ × Slot T) → Type 0
  Brings (FetchTail c v) zs = zs ≡ (c, None) ∷ []
  Brings (TakeCell w x) zs = (v : T) × (zs ≡ (x.index, Some v) ∷ [])
  Brings l zs = Unit {0}

  -- What the code knows of the word that it finds at a line. A hint names a slot. A slot names one of the `cells` cells, and its tag is
  -- not above the limit
  abbrev pub Says : ℕ → ℕ → ℕ → Line T → ℕ → Type 0
  Says n laps cells (FetchTail c v) y = index_of y < n
  Says n laps cells (LoadTail c s) y = index_of y < n
  Says n laps cells (LoadHead c s) y = index_of y < n
  Says n laps cells (LoadBack w s) y = (index_of y < cells) × (tag_of y ≤ 2 * laps)
  Says n laps cells (LoadFront w s) y = (index_of y < cells) × (tag_of y ≤ 2 * laps)
  Says n laps cells l y = Unit {0}

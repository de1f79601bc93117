-- What a pass of the queue has done since its operation was begun with a call: its own events, by its
-- line and at the end by its answer.
use Rattle.std.specs.Prelude.{◌≡◌, ◌⊎◌, ℕ, if◌then◌else◌, List, [], ◌∷◌, ◌++◌, Result, Some, None, Ok, Err}
use Rattle.bounded_model.specs.declared.answers.Word.TheVariants.{Cells, Next}
use Rattle.bounded_model.specs.declared.answers.PutRefused.{PutRefused}
use Rattle.bounded_model.specs.declared.answers.PutRefused.TheVariants.{Full, Closed, Spent}
use Rattle.bounded_model.specs.declared.answers.TakeRefused.{TakeRefused}
use Rattle.bounded_model.specs.declared.answers.TakeRefused.TheVariants.{Spent as TakeSpent}
use Rattle.bounded_model.specs.declared.history.Event.{Event}
use Rattle.bounded_model.specs.declared.history.Event.TheVariants.{Hold, Put, Take, Free, Close, Shut}
use Rattle.bounded_model.specs.Histories.{own}
use Rattle.queue_machine.specs.declared.lines.Seeking.{Seeking}
use Rattle.queue_machine.specs.declared.lines.Seeking.TheVariants.{ToLink, ToRefuse, ToClose, ToGauge}
use Rattle.queue_machine.specs.declared.lines.Call.{Call}
use Rattle.queue_machine.specs.declared.lines.Call.TheVariants.{Put as CallPut, Take as CallTake, Close as CallClose, Shut as CallShut, Look as CallLook, Len as CallLen, Gauge as CallGauge}
use Rattle.queue_machine.specs.declared.lines.Answer.{Answer}
use Rattle.queue_machine.specs.declared.lines.Answer.TheVariants.{Put as AnswerPut, Take as AnswerTake, Close as AnswerClose, Shut as AnswerShut, Look as AnswerLook, Len as AnswerLen, Gauge as AnswerGauge}
use Rattle.queue_machine.specs.declared.lines.Line.{Line}
use Rattle.queue_machine.specs.declared.lines.Line.TheVariants.{Idle, LoadCells, LoadCellLink, TakeCell, LoadNodes, LoadNodeLink, TakeNode, StoreCell, LoadNext, PrepareNext, LoadTail, LoadTailNext, CheckTail, SwingTail, LinkNext, SwingToLinked, MarkNext, LoadHead, LoadTailToTake, LoadHeadNext, CheckHead, SwingTailToTake, LoadCell, TakeHead, LoadNodesToGive, LinkToNodes, GiveNode, LoadCellsToGive, LinkToCells, GiveCell, LoadHeadToLook, LoadNextToLook, CheckHeadToLook, LoadHeadToCount, LoadTailToCount, LoadNextToCount, CheckHeadToCount, CheckNextToGauge, LoadHeadToShut, ShutHead}

module _ {T : Type 0} (p : ℕ) where
  -- These are all the events of pass p from begin to answer, the newest first

  -- a put of v takes a cell and puts v. A refusal hands v back, and no cell is kept
  abbrev pub MakesPut : T → Result ℕ (PutRefused T) → List (Event T) → Type 0
  MakesPut v (Ok k) events = events ≡ Put p (v ∷ []) k ∷ Hold p ∷ []
  MakesPut v (Err (Full u)) events = (u ≡ v) × (events ≡ [])
  MakesPut v (Err (Closed u)) events = (u ≡ v) × ((events ≡ []) ⊎ (events ≡ Free p 1 ∷ Hold p ∷ []))
  MakesPut v (Err (Spent u Cells t)) events = (u ≡ v) × (events ≡ [])
  MakesPut v (Err (Spent u (Next j) t)) events = (u ≡ v) × (events ≡ Free p 1 ∷ Hold p ∷ [])
  MakesPut v (Err (Spent u word t)) events = ⊥

  -- a take takes a value, and gives its cell back
  abbrev pub MakesTake : Result (T × ℕ) TakeRefused → List (Event T) → Type 0
  MakesTake (Ok r) events = events ≡ Free p 1 ∷ Take p r.0 r.1 ∷ []
  MakesTake (Err (TakeSpent word t)) events = ⊥
  MakesTake (Err why) events = events ≡ []

  -- the answer is one of the call, and the events are those of the answer
  abbrev pub Makes : Call T → Answer T → List (Event T) → Type 0
  Makes (CallPut v) (AnswerPut r) events = MakesPut v r events
  Makes CallTake (AnswerTake r) events = MakesTake r events
  Makes CallClose (AnswerClose done) events = events ≡ (if done then Close p ∷ [] else [])
  Makes CallShut (AnswerShut done) events = events ≡ (if done then Shut p ∷ [] else [])
  Makes CallLook (AnswerLook empty) events = events ≡ []
  Makes CallLen (AnswerLen k) events = events ≡ []
  Makes CallGauge (AnswerGauge closed used) events = events ≡ []
  Makes call a events = ⊥

  -- So far the call and the events are these

  abbrev pub HasSought : Call T → Seeking T → List (Event T) → Type 0
  HasSought call (ToLink link) events = (call ≡ CallPut link.value) × (events ≡ Hold p ∷ [])
  HasSought call (ToRefuse v) events = (call ≡ CallPut v) × (events ≡ [])
  HasSought call ToClose events = (call ≡ CallClose) × (events ≡ [])
  HasSought call ToGauge events = (call ≡ CallGauge) × (events ≡ [])

  -- the cell is still to be given back
  abbrev pub HasToFree : Call T → Answer T → List (Event T) → Type 0
  HasToFree call a events = Makes call a (Free p 1 ∷ events)

  abbrev pub HasMade : Call T → Line T → List (Event T) → Type 0
  HasMade call (Idle (Some a)) events = Makes call a events
  HasMade call (Idle None) events = ⊥
  -- put: a cell, a node, to the end of the chain
  HasMade call (LoadCells v) events = (call ≡ CallPut v) × (events ≡ [])
  HasMade call (LoadCellLink v w) events = (call ≡ CallPut v) × (events ≡ [])
  HasMade call (TakeCell v w k) events = (call ≡ CallPut v) × (events ≡ [])
  HasMade call (LoadNodes put) events = (call ≡ CallPut put.value) × (events ≡ Hold p ∷ [])
  HasMade call (LoadNodeLink put w) events = (call ≡ CallPut put.value) × (events ≡ Hold p ∷ [])
  HasMade call (TakeNode put w k) events = (call ≡ CallPut put.value) × (events ≡ Hold p ∷ [])
  HasMade call (StoreCell link) events = (call ≡ CallPut link.value) × (events ≡ Hold p ∷ [])
  HasMade call (LoadNext link) events = (call ≡ CallPut link.value) × (events ≡ Hold p ∷ [])
  HasMade call (PrepareNext link n) events = (call ≡ CallPut link.value) × (events ≡ Hold p ∷ [])
  HasMade call (LoadTail s) events = HasSought call s events
  HasMade call (LoadTailNext s w) events = HasSought call s events
  HasMade call (CheckTail s w n) events = HasSought call s events
  HasMade call (SwingTail s w n) events = HasSought call s events
  HasMade call (LinkNext link w n) events = (call ≡ CallPut link.value) × (events ≡ Hold p ∷ [])
  HasMade call (SwingToLinked v w x) events = (call ≡ CallPut v) × (events ≡ Put p (v ∷ []) w.tag ∷ Hold p ∷ [])
  HasMade call (MarkNext w n) events = (call ≡ CallClose) × (events ≡ [])
  -- take
  HasMade call LoadHead events = (call ≡ CallTake) × (events ≡ [])
  HasMade call (LoadTailToTake h) events = (call ≡ CallTake) × (events ≡ [])
  HasMade call (LoadHeadNext h w) events = (call ≡ CallTake) × (events ≡ [])
  HasMade call (CheckHead h w n) events = (call ≡ CallTake) × (events ≡ [])
  HasMade call (SwingTailToTake w n) events = (call ≡ CallTake) × (events ≡ [])
  HasMade call (LoadCell h n) events = (call ≡ CallTake) × (events ≡ [])
  HasMade call (TakeHead h n k) events = (call ≡ CallTake) × (events ≡ [])
  -- giving back
  HasMade call (LoadNodesToGive give) events = HasToFree call give.answer events
  HasMade call (LinkToNodes give w) events = HasToFree call give.answer events
  HasMade call (GiveNode give w) events = HasToFree call give.answer events
  HasMade call (LoadCellsToGive give) events = HasToFree call give.answer events
  HasMade call (LinkToCells give w) events = HasToFree call give.answer events
  HasMade call (GiveCell give w) events = HasToFree call give.answer events
  -- look, len, shut
  HasMade call LoadHeadToLook events = (call ≡ CallLook) × (events ≡ [])
  HasMade call (LoadNextToLook h) events = (call ≡ CallLook) × (events ≡ [])
  HasMade call (CheckHeadToLook h n) events = (call ≡ CallLook) × (events ≡ [])
  HasMade call LoadHeadToCount events = (call ≡ CallLen) × (events ≡ [])
  HasMade call (LoadTailToCount h) events = (call ≡ CallLen) × (events ≡ [])
  HasMade call (LoadNextToCount h w) events = (call ≡ CallLen) × (events ≡ [])
  HasMade call (CheckHeadToCount h w n) events = (call ≡ CallLen) × (events ≡ [])
  HasMade call (CheckNextToGauge w n) events = (call ≡ CallGauge) × (events ≡ [])
  HasMade call LoadHeadToShut events = (call ≡ CallShut) × (events ≡ [])
  HasMade call (ShutHead h) events = (call ≡ CallShut) × (events ≡ [])

-- what pass p has done by the time it is at a line
pub record Deeds {T : Type 0} (p : ℕ) (call : Call T) (l : Line T) (begun seen : List (Event T)) : Type 0 where
  pub between : List (Event T)
  pub is : seen ≡ between ++ begun
  pub made : HasMade p call l (own p between)

-- what pass p has done once its operation has answered
pub record HasDone {T : Type 0} (p : ℕ) (call : Call T) (a : Answer T) (begun seen : List (Event T)) : Type 0 where
  pub between : List (Event T)
  pub is : seen ≡ between ++ begun
  pub made : Makes p call a (own p between)

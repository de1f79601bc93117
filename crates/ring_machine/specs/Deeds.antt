-- What a pass of the ring has done since its operation was begun with a call: its own events. The line says which, and
-- at the end the answer does.
use Rattle.std.specs.Prelude.{◌≡◌, ℕ, if◌then◌else◌, List, [], ◌∷◌, ◌++◌, Result, Some, None, Ok, Err}
use Rattle.bounded_model.specs.declared.answers.Word.TheVariants.{Next}
use Rattle.bounded_model.specs.declared.answers.PutRefused.{PutRefused}
use Rattle.bounded_model.specs.declared.answers.PutRefused.TheVariants.{Full, Closed, Spent}
use Rattle.bounded_model.specs.declared.answers.TakeRefused.{TakeRefused}
use Rattle.bounded_model.specs.declared.answers.TakeRefused.TheVariants.{Spent as TakeSpent}
use Rattle.bounded_model.specs.declared.history.Event.{Event}
use Rattle.bounded_model.specs.declared.history.Event.TheVariants.{Hold, Put, Take, Free, Close, Shut}
use Rattle.bounded_model.specs.Histories.{own}
use Rattle.ring_machine.specs.declared.lines.Back.{Back}
use Rattle.ring_machine.specs.declared.lines.Back.TheVariants.{ToPut, ToClose, ToCount, ToGauge}
use Rattle.ring_machine.specs.declared.lines.Front.{Front}
use Rattle.ring_machine.specs.declared.lines.Front.TheVariants.{ToTake, ToShut, ToLook, ToCount as ToCountFrom}
use Rattle.ring_machine.specs.declared.lines.Call.{Call}
use Rattle.ring_machine.specs.declared.lines.Call.TheVariants.{Put as CallPut, Take as CallTake, Close as CallClose, Shut as CallShut, Look as CallLook, Len as CallLen, Gauge as CallGauge}
use Rattle.ring_machine.specs.declared.lines.Answer.{Answer}
use Rattle.ring_machine.specs.declared.lines.Answer.TheVariants.{Put as AnswerPut, Take as AnswerTake, Close as AnswerClose, Shut as AnswerShut, Look as AnswerLook, Len as AnswerLen, Gauge as AnswerGauge}
use Rattle.ring_machine.specs.declared.lines.Line.{Line}
use Rattle.ring_machine.specs.declared.lines.Line.TheVariants.{Idle, FetchTail, LoadTail, LoadBack, MoveTail, PutCell, PassTail, MarkBack, LoadHead, LoadFront, MoveHead, TakeCell, PassHead, Stow, ShutFront, CheckFront}
use Rattle.ring_machine.specs.Machine.{put_done, take_done}

module _ {T : Type 0} (p : ℕ) where
  -- The events of pass p from begin to answer, the newest first

  -- a put of v takes a cell and puts v, in one step. A refusal hands v back
  abbrev pub MakesPut : T → Result ℕ (PutRefused T) → List (Event T) → Type 0
  MakesPut v (Ok k) events = events ≡ Put p (v ∷ []) k ∷ Hold p ∷ []
  MakesPut v (Err (Full u)) events = (u ≡ v) × (events ≡ [])
  MakesPut v (Err (Closed u)) events = (u ≡ v) × (events ≡ [])
  MakesPut v (Err (Spent u (Next i) t)) events = (u ≡ v) × (events ≡ [])
  MakesPut v (Err (Spent u word t)) events = ⊥

  -- a take takes a value, and gives its cell back, in one step
  abbrev pub MakesTake : Result (T × ℕ) TakeRefused → List (Event T) → Type 0
  MakesTake (Ok r) events = events ≡ Free p 1 ∷ Take p r.0 r.1 ∷ []
  MakesTake (Err (TakeSpent word t)) events = ⊥
  MakesTake (Err why) events = events ≡ []

  -- the answer is one of the call, and the events are those of the answer
  abbrev pub Makes : Call T → Answer T → List (Event T) → Type 0
  Makes (CallPut v) (AnswerPut r) events = MakesPut v r events
  Makes CallTake (AnswerTake r) events = MakesTake r events
  Makes CallClose (AnswerClose done) events = events ≡ (if done then Close p ∷ [] else [])
  Makes CallShut (AnswerShut done) events = events ≡ (if done then Shut p ∷ [] else [])
  Makes CallLook (AnswerLook empty) events = events ≡ []
  Makes CallLen (AnswerLen k) events = events ≡ []
  Makes CallGauge (AnswerGauge closed used) events = events ≡ []
  Makes call a events = ⊥

  -- The call and the events of an operation that is at this line

  abbrev pub seeks_back : Back T → Call T
  seeks_back (ToPut v) = CallPut v
  seeks_back ToClose = CallClose
  seeks_back (ToCount front) = CallLen
  seeks_back ToGauge = CallGauge

  abbrev pub seeks_front : Front → Call T
  seeks_front ToTake = CallTake
  seeks_front ToShut = CallShut
  seeks_front ToLook = CallLook
  seeks_front ToCountFrom = CallLen

  -- n is how many slots the ring has
  abbrev pub HasMade : ℕ → Call T → Line T → List (Event T) → Type 0
  HasMade n call (Idle c (Some a)) events = Makes call a events
  HasMade n call (Idle c None) events = ⊥
  HasMade n call (FetchTail c v) events = (call ≡ CallPut v) × (events ≡ [])
  HasMade n call (LoadTail c s) events = (call ≡ seeks_back s) × (events ≡ [])
  HasMade n call (LoadBack w s) events = (call ≡ seeks_back s) × (events ≡ [])
  HasMade n call (MoveTail w s) events = (call ≡ seeks_back s) × (events ≡ [])
  HasMade n call (PutCell w v x) events = (call ≡ CallPut v) × (events ≡ [])
  HasMade n call (PassTail w) events = Makes call (put_done n w) events
  HasMade n call (MarkBack w x) events = (call ≡ CallClose) × (events ≡ [])
  HasMade n call (LoadHead c s) events = (call ≡ seeks_front s) × (events ≡ [])
  HasMade n call (LoadFront w s) events = (call ≡ seeks_front s) × (events ≡ [])
  HasMade n call (MoveHead w s) events = (call ≡ seeks_front s) × (events ≡ [])
  HasMade n call (TakeCell w x) events = (call ≡ CallTake) × (events ≡ [])
  HasMade n call (PassHead w v) events = Makes call (take_done n w v) events
  HasMade n call (Stow w a) events = Makes call a events
  HasMade n call (ShutFront w x) events = (call ≡ CallShut) × (events ≡ [])
  HasMade n call (CheckFront c front back) events = (call ≡ CallLen) × (events ≡ [])

-- what pass p has done by the time it is at a line
pub record Deeds {T : Type 0} (n p : ℕ) (call : Call T) (l : Line T) (begun seen : List (Event T)) : Type 0 where
  pub between : List (Event T)
  pub is : seen ≡ between ++ begun
  pub made : HasMade p n call l (own p between)

-- what pass p has done once its operation has answered
pub record HasDone {T : Type 0} (p : ℕ) (call : Call T) (a : Answer T) (begun seen : List (Event T)) : Type 0 where
  pub between : List (Event T)
  pub is : seen ≡ between ++ begun
  pub made : Makes p call a (own p between)

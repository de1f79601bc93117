-- What a pass of the stack has done since its operation was begun with a call: its own events, by its
-- line and at the end by its answer.
use Rattle.std.specs.Prelude.{◌≡◌, ◌⊎◌, ℕ, ◌<◌, ◌≤◌, if◌then◌else◌, List, [], ◌∷◌, ◌++◌, length, Result, Some, None, Ok, Err}
use Rattle.bounded_model.specs.declared.answers.Word.TheVariants.{Free as FreeWord, Top as TopWord}
use Rattle.bounded_model.specs.declared.answers.PutRefused.{PutRefused}
use Rattle.bounded_model.specs.declared.answers.PutRefused.TheVariants.{Full, Closed, Spent}
use Rattle.bounded_model.specs.declared.answers.TakeRefused.{TakeRefused}
use Rattle.bounded_model.specs.declared.answers.TakeRefused.TheVariants.{Spent as TakeSpent}
use Rattle.bounded_model.specs.declared.history.Event.{Event}
use Rattle.bounded_model.specs.declared.history.Event.TheVariants.{Put, Take, TakeAll, Free, Close, Shut}
use Rattle.bounded_model.specs.Machine.{Shape}
use Rattle.bounded_model.specs.Histories.{own}
use Rattle.bounded_model.specs.Justified.{Sometime}
use Rattle.bounded_model.specs.Bulk.{HasNoCell}
use Rattle.bounded_model.specs.Laws.{holds_of, gave_back}
use Rattle.machine.specs.Chains.{turned}
use Rattle.stack_machine.specs.declared.lines.Putting.{Putting}
use Rattle.stack_machine.specs.declared.lines.Giving.{Giving}
use Rattle.stack_machine.specs.declared.lines.Direction.{Direction}
use Rattle.stack_machine.specs.declared.lines.Taking.TheVariants.{One, Whole}
use Rattle.stack_machine.specs.declared.lines.Call.{Call}
use Rattle.stack_machine.specs.declared.lines.Call.TheVariants.{Put as CallPut, Take as CallTake, Close as CallClose, Shut as CallShut, Look as CallLook, Gauge as CallGauge}
use Rattle.stack_machine.specs.declared.lines.Answer.{Answer}
use Rattle.stack_machine.specs.declared.lines.Answer.TheVariants.{Put as AnswerPut, Take as AnswerTake, Fold as AnswerFold, Close as AnswerClose, Shut as AnswerShut, Look as AnswerLook, Gauge as AnswerGauge}
use Rattle.stack_machine.specs.declared.lines.Line.{Line}
use Rattle.stack_machine.specs.Machine.{is_up}
use Rattle.stack_machine.specs.declared.lines.Line.TheVariants.{Idle, LoadFree, LoadFreeLink, TakeFree, LinkTaken, LoadTop, LinkToTop, SwapTop, LoadTopToRefuse, LoadTopToTake, LoadTopLink, TakeTop, TakeChain, LoadLinkToTurn, TurnLink, LoadLinkToFold, LoadFreeToGive, LinkToFree, GiveBack, LoadTopToClose, MarkTop, LoadTopToShut, ShutTop, LoadTopToLook, LoadTopToGauge}

-- These are all the events of pass p from the begin of a call to its answer, the newest first

-- The pass put values by one exchange, each in a node that it had taken, and left other values over. Together
-- they are those of the call
pub record PutAtOnce {T : Type 0} (p : ℕ) (wanted : List T) (n : ℕ) (left : List T) (events : List (Event T)) : Type 0 where
  pub values : List T
  pub some_value : 0 < length values
  pub all : values ++ left ≡ wanted
  pub is : events ≡ Put p values n ∷ holds_of p (length values)

-- it took some nodes and gave them back at once, or took none
pub record BackedOut {T : Type 0} (p most : ℕ) (events : List (Event T)) : Type 0 where
  pub nodes : ℕ
  pub at_most : nodes ≤ most
  pub is : events ≡ gave_back p nodes

-- in which order a fold goes through values that stood so from the top down
abbrev pub in_order : {T : Type 0} → Direction → List T → List T
in_order d values = turned (is_up d) values

-- it took all values by one exchange, folded them in this direction, and gave their nodes back by
-- another exchange
pub record FoldedAll {T : Type 0} (p : ℕ) (d : Direction) (n : ℕ) (folded : List T) (events : List (Event T)) : Type 0 where
  pub values : List T
  pub is : events ≡ Free p (length values) ∷ TakeAll p values n ∷ []
  pub order : folded ≡ in_order d values

-- the values that a refused put hands back
abbrev pub handed_back : {T : Type 0} → PutRefused (List T) → List T
handed_back (Full values) = values
handed_back (Closed values) = values
handed_back (Spent values word tag) = values

module _ {T : Type 0} (p : ℕ) where
  -- A refused put hands all its values back. A put that found no node has taken none
  abbrev pub MakesRefusal : PutRefused (List T) → List (Event T) → Type 0
  MakesRefusal (Full values) events = events ≡ []
  MakesRefusal (Closed values) events = BackedOut p (length values) events
  MakesRefusal (Spent values FreeWord tag) events = events ≡ []
  MakesRefusal (Spent values TopWord tag) events = BackedOut p (length values) events
  MakesRefusal (Spent values word tag) events = ⊥

  abbrev pub MakesPut : List T → Result (ℕ × List T) (PutRefused (List T)) → List (Event T) → Type 0
  MakesPut wanted (Ok r) events = PutAtOnce p wanted r.0 r.1 events
  MakesPut wanted (Err why) events = (handed_back why ≡ wanted) × MakesRefusal why events

  -- a take or a fold that is refused has done nothing, and names no word but the top
  abbrev pub MakesNothing : TakeRefused → List (Event T) → Type 0
  MakesNothing (TakeSpent TopWord tag) events = events ≡ []
  MakesNothing (TakeSpent word tag) events = ⊥
  MakesNothing why events = events ≡ []

  abbrev pub MakesTake : Result (T × ℕ) TakeRefused → List (Event T) → Type 0
  MakesTake (Ok r) events = events ≡ Free p 1 ∷ Take p r.0 r.1 ∷ []
  MakesTake (Err why) events = MakesNothing why events

  abbrev pub MakesFold : Direction → Result (List T × ℕ) TakeRefused → List (Event T) → Type 0
  MakesFold d (Ok r) events = FoldedAll p d r.1 r.0 events
  MakesFold d (Err why) events = MakesNothing why events

  -- the answer is one of the call, and the events are those of the answer
  abbrev pub Makes : Call T → Answer T → List (Event T) → Type 0
  Makes (CallPut v vs) (AnswerPut r) events = MakesPut (v ∷ vs) r events
  Makes (CallTake One) (AnswerTake r) events = MakesTake r events
  Makes (CallTake (Whole d)) (AnswerFold r) events = MakesFold d r events
  Makes CallClose (AnswerClose done) events = events ≡ (if done then Close p ∷ [] else [])
  Makes CallShut (AnswerShut done) events = events ≡ (if done then Shut p ∷ [] else [])
  Makes CallLook (AnswerLook empty) events = events ≡ []
  Makes CallGauge (AnswerGauge closed used) events = events ≡ []
  Makes call a events = ⊥

  -- So far the call and the events are these

  -- it puts these values
  abbrev pub IsPut : Call T → List T → Type 0
  IsPut (CallPut v vs) values = values ≡ v ∷ vs
  IsPut call values = ⊥

  -- and has taken a node for each of some of them
  abbrev pub HasHeld : Call T → Putting T → List (Event T) → Type 0
  HasHeld call put events = IsPut call put.values × (events ≡ holds_of p (length put.chain)) × (length put.chain ≤ length put.values)

  -- the chain is still to be given back
  abbrev pub HasToGive : Call T → Giving T → List (Event T) → Type 0
  HasToGive call give events = Makes call give.answer (Free p (length give.chain) ∷ events)

  abbrev pub HasMade : Call T → Line T → List (Event T) → Type 0
  HasMade call (Idle (Some a)) events = Makes call a events
  HasMade call (Idle None) events = ⊥
  HasMade call (LoadFree put) events = HasHeld call put events
  HasMade call (LoadFreeLink put w) events = HasHeld call put events
  HasMade call (TakeFree put w k) events = HasHeld call put events
  HasMade call (LinkTaken put) events = HasHeld call put events
  HasMade call (LoadTop put) events = HasHeld call put events
  HasMade call (LinkToTop put w) events = HasHeld call put events
  HasMade call (SwapTop put w) events = HasHeld call put events
  HasMade call (LoadTopToRefuse values) events = IsPut call values × (events ≡ [])
  HasMade call (LoadTopToTake taking) events = (call ≡ CallTake taking) × (events ≡ [])
  HasMade call (LoadTopLink w) events = (call ≡ CallTake One) × (events ≡ [])
  HasMade call (TakeTop w k) events = (call ≡ CallTake One) × (events ≡ [])
  HasMade call (TakeChain d w) events = (call ≡ CallTake (Whole d)) × (events ≡ [])
  HasMade call (LoadLinkToTurn give above i) events = HasToGive call give events
  HasMade call (TurnLink give above i k) events = HasToGive call give events
  HasMade call (LoadLinkToFold give i) events = HasToGive call give events
  HasMade call (LoadFreeToGive give) events = HasToGive call give events
  HasMade call (LinkToFree give w) events = HasToGive call give events
  HasMade call (GiveBack give w) events = HasToGive call give events
  HasMade call LoadTopToClose events = (call ≡ CallClose) × (events ≡ [])
  HasMade call (MarkTop w) events = (call ≡ CallClose) × (events ≡ [])
  HasMade call LoadTopToShut events = (call ≡ CallShut) × (events ≡ [])
  HasMade call (ShutTop w) events = (call ≡ CallShut) × (events ≡ [])
  HasMade call LoadTopToLook events = (call ≡ CallLook) × (events ≡ [])
  HasMade call LoadTopToGauge events = (call ≡ CallGauge) × (events ≡ [])

-- A range leaves values out only if no node could be had. The histories are those that the pass had
-- seen at the begin of its operation, and has seen by now

module _ {T : Type 0} where
  -- a put goes to the top with all its values, or no further node could be had
  abbrev pub HasAll : Shape → List (Event T) → List (Event T) → Putting T → Type 0
  HasAll c begun seen put = (length put.values ≤ length put.chain) ⊎ Sometime begun seen (HasNoCell c)

  abbrev pub PutsAll : Shape → List (Event T) → List (Event T) → Answer T → Type 0
  PutsAll c begun seen (AnswerPut (Ok r)) = (r.1 ≡ []) ⊎ Sometime begun seen (HasNoCell c)
  PutsAll c begun seen a = Unit {0}

  abbrev pub IsAll : Shape → List (Event T) → List (Event T) → Line T → Type 0
  IsAll c begun seen (Idle (Some a)) = PutsAll c begun seen a
  IsAll c begun seen (LoadTop put) = HasAll c begun seen put
  IsAll c begun seen (LinkToTop put w) = HasAll c begun seen put
  IsAll c begun seen (SwapTop put w) = HasAll c begun seen put
  IsAll c begun seen (LoadLinkToTurn give above i) = PutsAll c begun seen give.answer
  IsAll c begun seen (TurnLink give above i k) = PutsAll c begun seen give.answer
  IsAll c begun seen (LoadLinkToFold give i) = PutsAll c begun seen give.answer
  IsAll c begun seen (LoadFreeToGive give) = PutsAll c begun seen give.answer
  IsAll c begun seen (LinkToFree give w) = PutsAll c begun seen give.answer
  IsAll c begun seen (GiveBack give w) = PutsAll c begun seen give.answer
  IsAll c begun seen l = Unit {0}

-- what pass p has done of its call by the time it is at a line
pub record Deeds {T : Type 0} (c : Shape) (p : ℕ) (call : Call T) (l : Line T) (begun seen : List (Event T)) : Type 0 where
  pub between : List (Event T)
  pub is : seen ≡ between ++ begun
  pub made : HasMade p call l (own p between)
  pub all : IsAll c begun seen l

-- What pass p has done once its call is answered. The answer is one of the call. The pass's own events are
-- exactly those of the answer
pub record HasDone {T : Type 0} (c : Shape) (p : ℕ) (call : Call T) (a : Answer T) (begun seen : List (Event T)) : Type 0 where
  pub between : List (Event T)
  pub is : seen ≡ between ++ begun
  pub made : Makes p call a (own p between)
  pub all : PutsAll c begun seen a

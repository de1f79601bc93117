-- What the code knows at a line of the stack.
use Rattle.std.specs.Prelude.{◌≡◌, ◌≢◌, ℕ, ◌<◌, ◌≤◌, true, false, List, [], ◌∷◌, Option as Slot, Some, None, Ok, Err, map}
use Rattle.tagged_index.specs.Fields.{index_of}
use Rattle.tagged_index.specs.declared.word.TheConstants.{NULL}
use Rattle.index_list.specs.declared.front.Front.{Front}
use Rattle.index_list.specs.declared.front.Front.TheVariants.{First, Last}
use Rattle.stack_machine.specs.declared.lines.Direction.{Direction}
use Rattle.stack_machine.specs.declared.lines.Direction.TheVariants.{Down, Up}
use Rattle.stack_machine.specs.declared.lines.Taking.TheVariants.{One, Whole}
use Rattle.bounded_model.specs.declared.views.Answered.{Answered}
use Rattle.bounded_model.specs.declared.views.Answered.TheVariants.{Put as PutAnswered, Take as TakeAnswered, Fold as FoldAnswered, Close as CloseAnswered, Shut as ShutAnswered, Look as LookAnswered, Gauge as GaugeAnswered, Heard}
use Rattle.stack_machine.specs.declared.lines.Answer.{Answer}
use Rattle.stack_machine.specs.declared.lines.Answer.TheVariants.{Put as AnswerPut, Take as AnswerTake, Fold as AnswerFold, Close as AnswerClose, Shut as AnswerShut, Look as AnswerLook, Gauge as AnswerGauge}
use Rattle.stack_machine.specs.declared.lines.Call.{Call}
use Rattle.stack_machine.specs.declared.lines.Call.TheVariants.{Put as CallPut, Take as CallTake, Close as CallClose, Shut as CallShut, Look as CallLook, Gauge as CallGauge}
use Rattle.stack_machine.specs.declared.lines.Line.{Line}
use Rattle.stack_machine.specs.declared.lines.Line.TheVariants.{Idle, LoadFree, LoadFreeLink, TakeFree, LoadTopToTake, LoadTopLink, TakeTop, TakeChain, LoadLinkToTurn, LoadLinkToFold}
use Rattle.stack_machine.specs.Machine.{is_idle, starts, is_up, took, took_all, table}
use Rattle.machine.specs.Seats.{all_alike}
use Rattle.running.specs.Machine.{Names}
use Rattle.stack_table.specs.declared.operation.Operation.{Operation}
use Rattle.stack_table.specs.declared.operation.Operation.TheVariants.{Put as PutFirst, Take as TakeFirst, Close as CloseFirst, Shut as ShutFirst, Look as LookFirst, Fold as FoldFirst, Gauge as GaugeFirst}
use Rattle.stack_table.specs.declared.operation.Listed.{Listed}
use Rattle.stack_table.specs.declared.operation.Listed.TheVariants.{End, More'}
use mathlib.Core.Option.{some}
use Rattle.index_list.specs.Steps.{numbers}
use Rattle.machine.specs.Words.{Tagged}
use Rattle.machine.specs.Chains.{turned}
use Rattle.stack_machine.specs.Answers.{shape}
use Rattle.running.specs.Tables.{next_of, line_of, values}
use Rattle.stack_table.specs.Slots.{Links, IsWhole}

-- a fold that begins with the first node goes down, one that begins with the last node goes up
abbrev pub direction : Front → Direction
direction First = Down
direction Last = Up

module _ {T : Type 0} where
  -- the values that a listing shows
  abbrev pub listed : Listed T → List T
  listed End = []
  listed (More' v marker others) = v.value ∷ listed others

  -- the machine's call of an operation, whose first line is the machine's
  abbrev pub call_of : Operation T → Call T
  call_of (PutFirst v others) = CallPut v.value (listed others)
  call_of TakeFirst = CallTake One
  call_of CloseFirst = CallClose
  call_of ShutFirst = CallShut
  call_of LookFirst = CallLook
  call_of (FoldFirst front) = CallTake (Whole (direction front))
  call_of GaugeFirst = CallGauge

  -- a put of more than one value, which reads its values back if it is refused
  abbrev pub PutsMany : Call T → Type 0
  PutsMany (CallPut v (w ∷ more)) = Unit {0}
  PutsMany call = ⊥

  -- what its call has answered, of a pass that is idle at this line
  abbrev pub answered : Answer T → Answered T
  answered (AnswerPut (Ok r)) = PutAnswered (Ok r.0)
  answered (AnswerPut (Err why)) = PutAnswered (Err why)
  answered (AnswerTake r) = TakeAnswered r
  answered (AnswerFold r) = FoldAnswered r
  answered (AnswerClose b) = CloseAnswered b
  answered (AnswerShut b) = ShutAnswered b
  answered (AnswerLook b) = LookAnswered b
  answered (AnswerGauge closed used) = GaugeAnswered closed used

  abbrev pub reply : Line T → Answered T
  reply (Idle (Some a)) = answered a
  reply l = Heard

  abbrev pub first_line : Operation T → Line T
  first_line o = starts (call_of o)

  -- no operation begins idle
  pub begins_busy : (o : Operation T) → is_idle (first_line o) ≡ false
  begins_busy (PutFirst v others) = λ i. false
  begins_busy o = λ i. false

  abbrev pub names : Names (Line T) (Operation T)
  names = record {
    shares = all_alike (Idle None);
    is_idle = is_idle;
    quiet = λ l. Idle None;
    first = λ o rest. first_line o;
    rests = λ l i. true;
    calm = λ l i. Idle None;
    starts = λ o rest. begins_busy o;
  }

  -- the next line, by the word found and the slots moved
  abbrev pub next : ℕ → ℕ → Line T → ℕ → List (ℕ × Slot T) → Line T
  next n limit l y zs = next_of (Idle None) l (table (shape n limit) l) y zs

  -- where exchanges that brought slots lead
  abbrev pub won_take : Tagged → List (ℕ × Slot T) → Line T
  won_take w zs = line_of (Idle None) (took w (map some (values zs)))

  abbrev pub won_chain : Direction → Tagged → List (ℕ × Slot T) → Line T
  won_chain d w zs = line_of (Idle None) (took_all d w (turned (is_up d) (numbers zs)) (map some (turned (is_up d) (values zs))))

  -- which slots an exchange brings
  abbrev pub Brings : ℕ → Line T → List (ℕ × Slot T) → Type 0
  Brings n (TakeFree put w k) zs = zs ≡ (w.index, None) ∷ []
  Brings n (TakeTop w k) zs = (v : T) × (zs ≡ (w.index, Some v) ∷ [])
  Brings n (TakeChain d w) zs = IsWhole n w.index d zs
  Brings n l zs = Unit {0}

  -- what the word that a line finds tells the code
  abbrev pub Says : ℕ → Line T → ℕ → Type 0
  Says n (LoadFree put) y = index_of y ≢ NULL → index_of y < n
  Says n (LoadFreeLink put w) y = y ≤ NULL
  Says n (LoadTopToTake taking) y = index_of y ≢ NULL → index_of y < n
  Says n (LoadTopLink w) y = y ≤ NULL
  Says n (LoadLinkToTurn give above i) y = (y ≤ NULL) × Links give.chain i y
  Says n (LoadLinkToFold give i) y = (y ≤ NULL) × Links give.chain i y
  Says n l y = Unit {0}

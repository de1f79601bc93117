-- What the calls of a ring give, from the answers of its machine.
use Rattle.std.proofs.Common.{◌≡◌, ℕ, ◌+◌, ◌*◌, ◌<◌, ◌≤◌, Bool, true, false, List, [], ◌∷◌, length, sym, ap, ◌∙◌, subst, arith}
use Rattle.std.specs.Prelude.{Result, Ok, Err}
use Rattle.bounded_model.specs.declared.answers.Word.{Word}
use Rattle.bounded_model.specs.declared.answers.Word.TheVariants.{Cells, Nodes, Next, Free as FreeWord, Top, Count}
use Rattle.bounded_model.specs.declared.answers.PutRefused.{PutRefused}
use Rattle.bounded_model.specs.declared.answers.PutRefused.TheVariants.{Full, Closed, Spent}
use Rattle.bounded_model.specs.declared.answers.TakeRefused.{TakeRefused}
use Rattle.bounded_model.specs.declared.answers.TakeRefused.TheVariants.{Empty, Closed as TakeClosed, Shut as TakeShut, Spent as TakeSpent}
use Rattle.bounded_model.specs.declared.history.Event.{Event}
use Rattle.bounded_model.specs.declared.history.Event.TheVariants.{Hold, Put, Take, Free, Close, Shut}
use Rattle.bounded_model.specs.declared.views.PassView.{PassView}
use Rattle.bounded_model.specs.Histories.{own}
use Rattle.bounded_model.specs.Justified as right
use Rattle.bounded_model.specs.Justified.{IsOpen, Sometime}
use Rattle.bounded_model.specs.Laws.{Adds, BacksOut, PutGives, TakeGives, CloseGives, ShutGives, LookGives, LenGives}
use Rattle.bounded_model.specs.Machine.{Shape, State, state}
use Rattle.machine.specs.Seats.{pass_of}
use Rattle.machine.specs.declared.seats.View.{View}
use Rattle.ring_machine.specs.Answers.{shape, HasAllPuts, HasAllValues, IsFullNow, IsGauged, IsSpentNow}
use Rattle.ring_machine.specs.Deeds.{Deeds}
use Rattle.ring_machine.specs.Machine.{ends}
use Rattle.ring_machine.specs.declared.lines.Answer.{Answer}
use Rattle.ring_machine.specs.declared.lines.Answer.TheVariants.{Put as AnswerPut, Take as AnswerTake, Close as AnswerClose, Shut as AnswerShut, Look as AnswerLook, Len as AnswerLen, Gauge as AnswerGauge}
use Rattle.ring_machine.specs.declared.lines.Call.{Call}
use Rattle.ring_machine.specs.declared.lines.Call.TheVariants.{Put as CallPut}
use Rattle.running.specs.Going.{Ended}
use Rattle.ring_table.specs.Core.{ring_with, shape_for}
use Rattle.ring_table.specs.Lines.{call_of}
use Rattle.ring_table.specs.declared.line.SeatLine.{SeatLine}
use Rattle.ring_table.specs.declared.line.SeatLine.TheVariants.{At}
use Rattle.ring_table.specs.declared.operation.Operation.{Operation}
use Rattle.ring_table.specs.declared.operation.Operation.TheVariants.{Take as TakeFirst, Close as CloseFirst, Shut as ShutFirst, Look as LookFirst, Len as LenFirst, Gauge as GaugeFirst}
use Rattle.ring_table.proofs.Shapes.{with_passes, state_same}

-- an answer is right whatever passes may be out, if what it says is said of the state alone
module _ {T : Type 0} (c : Shape) (passes : ℕ) {old new : List (Event T)} (Says : State T → Type 0) where
  pub still_right : Sometime old new (λ h. Says (state c h)) → Sometime old new (λ h. Says (state (with_passes c passes) h))
  still_right s = record { at = s.at; since = s.since; until = s.until; holds = subst Says (sym (state_same c passes s.at)) s.holds }

-- a part of what was so at some time
part : {T : Type 0} {old new : List (Event T)} {P Q : List (Event T) → Type 0} → ((h : List (Event T)) → P h → Q h) → Sometime old new P → Sometime old new Q
part q s = record { at = s.at; since = s.since; until = s.until; holds = q s.at s.holds }

module _ {T : Type 0} (rule : List (Event T) → Type 0) (n laps passes : ℕ) (v : View T (SeatLine T)) (begun : PassView T) (cell : ℕ) where
  abbrev Ends : Operation T → Answer T → Type 0
  Ends o a = Ended (ring_with T n laps passes rule) o v begun (At (ends cell a))

  right_for : (Says : State T → Type 0) → Sometime begun.seen (pass_of v).seen (λ h. Says (state (shape n laps) h)) → Sometime begun.seen (pass_of v).seen (λ h. Says (state (shape_for T n laps passes) h))
  right_for Says = still_right (shape n laps) passes Says

  -- why a put was refused, as its last line tells it
  full_told : {o : Operation T} (y : T) → Ends o (AnswerPut (Err (Full y))) → Sometime begun.seen (pass_of v).seen (IsFullNow n laps)
  full_told y e = e.tells

  spent_told : {o : Operation T} (y : T) (word : Word) (t : ℕ) → Ends o (AnswerPut (Err (Spent y word t))) → Sometime begun.seen (pass_of v).seen (IsSpentNow n laps word t)
  spent_told y word t e = e.tells

  -- and what that says of a ring alone
  pub put_full : {o : Operation T} (y : T) → Ends o (AnswerPut (Err (Full y))) → Sometime begun.seen (pass_of v).seen (λ h. HasAllValues (shape_for T n laps passes) h × IsOpen (shape_for T n laps passes) h)
  put_full y e = right_for (λ s. (length s.values ≡ n) × (s.closed ≡ false)) (part (λ h r. (r.1, r.0.1)) (full_told y e))

  pub put_spent : {o : Operation T} (y : T) (word : Word) (t : ℕ) → Ends o (AnswerPut (Err (Spent y word t))) → Sometime begun.seen (pass_of v).seen (HasAllPuts (shape_for T n laps passes) laps)
  put_spent y word t e = right_for (λ s. s.puts ≡ laps * n) (part (λ h r. r.1) (spent_told y word t e))

  adds_of : {o : Operation T} {a : Answer T} (e : Ends o a) (d : Deeds n (pass_of v).number (call_of o) (ends cell a) begun.seen (pass_of v).seen) (events : List (Event T)) → own (pass_of v).number d.between ≡ events → Adds begun (pass_of v) events
  adds_of e d events made = record {
    number = e.number;
    steps = e.steps;
    between = d.between;
    seen = d.is;
    own_events = ap (λ (k : ℕ). own k d.between) (sym e.number) ∙ made;
  }

  module _ (o : Operation T) (x : T) where
    abbrev Done : Result ℕ (PutRefused T) → Type 0
    Done r = Deeds n (pass_of v).number (CallPut x) (ends cell (AnswerPut r)) begun.seen (pass_of v).seen

    put_adds : (r : Result ℕ (PutRefused T)) (e : Ends o (AnswerPut r)) (d : Done r) (events : List (Event T)) → own (pass_of v).number d.between ≡ events → Adds begun (pass_of v) events
    put_adds r e d events made = record { number = e.number; steps = e.steps; between = d.between; seen = d.is; own_events = ap (λ (k : ℕ). own k d.between) (sym e.number) ∙ made }

    none_held : (r : Result ℕ (PutRefused T)) (e : Ends o (AnswerPut r)) (d : Done r) → own (pass_of v).number d.between ≡ [] → BacksOut begun (pass_of v) 1
    none_held r e d made = record { held = 0; at_most = omega arith; adds = put_adds r e d [] made }

    gives_so : (r : Result ℕ (PutRefused T)) → Ends o (AnswerPut r) → Done r → PutGives (shape_for T n laps passes) begun x (pass_of v) r
    gives_so (Ok k) e d = put_adds (Ok k) e d (Put begun.number (x ∷ []) k ∷ Hold begun.number ∷ []) (d.made ∙ ap (λ (j : ℕ). Put j (x ∷ []) k ∷ Hold j ∷ []) e.number)
    gives_so (Err (Full y)) e d = (d.made.0, put_adds (Err (Full y)) e d [] d.made.1, right_for (λ s. (length s.values + s.held ≡ n) × (s.closed ≡ false)) (part (λ h r. r.0) (full_told y e)))
    gives_so (Err (Closed y)) e d = (d.made.0, none_held (Err (Closed y)) e d d.made.1, right_for (λ s. s.closed ≡ true) e.tells)
    gives_so (Err (Spent y (Next i) t)) e d = (d.made.0, none_held (Err (Spent y (Next i) t)) e d d.made.1, right_for (λ s. (Unit {0} × (2 * laps < t + 2)) × (2 * laps ≤ 2 * s.holds)) (part (λ h r. r.0) (spent_told y (Next i) t e)))
    gives_so (Err (Spent y Cells t)) e d = absurd d.made
    gives_so (Err (Spent y Nodes t)) e d = absurd d.made
    gives_so (Err (Spent y FreeWord t)) e d = absurd d.made
    gives_so (Err (Spent y Top t)) e d = absurd d.made
    gives_so (Err (Spent y Count t)) e d = absurd d.made

    -- an operation that is a put of x gives what a put of x promises
    pub put_gives : call_of o ≡ CallPut x → (r : Result ℕ (PutRefused T)) → Ends o (AnswerPut r) → PutGives (shape_for T n laps passes) begun x (pass_of v) r
    put_gives is r e = gives_so r e (subst (λ (call : Call T). Deeds n (pass_of v).number call (ends cell (AnswerPut r)) begun.seen (pass_of v).seen) is e.deeds)

  pub take_gives : (r : Result (T × ℕ) TakeRefused) → Ends TakeFirst (AnswerTake r) → TakeGives (shape_for T n laps passes) begun (pass_of v) r
  take_gives (Ok r) e = adds_of e e.deeds (Free begun.number 1 ∷ Take begun.number r.0 r.1 ∷ []) (e.deeds.made ∙ ap (λ (k : ℕ). Free k 1 ∷ Take k r.0 r.1 ∷ []) e.number)
  take_gives (Err Empty) e = (adds_of e e.deeds [] e.deeds.made, right_for (λ s. (s.values ≡ []) × (s.closed ≡ false) × (s.shut ≡ false)) e.tells)
  take_gives (Err TakeClosed) e = (adds_of e e.deeds [] e.deeds.made, right_for (λ s. (s.values ≡ []) × (s.closed ≡ true) × (s.shut ≡ false)) e.tells)
  take_gives (Err TakeShut) e = (adds_of e e.deeds [] e.deeds.made, right_for (λ s. s.shut ≡ true) e.tells)
  take_gives (Err (TakeSpent word t)) e = absurd e.deeds.made

  pub close_gives : (b : Bool) → Ends CloseFirst (AnswerClose b) → CloseGives (shape_for T n laps passes) begun (pass_of v) b
  close_gives true e = adds_of e e.deeds (Close begun.number ∷ []) (e.deeds.made ∙ ap (λ (k : ℕ). Close k ∷ []) e.number)
  close_gives false e = (adds_of e e.deeds [] e.deeds.made, right_for (λ s. s.closed ≡ true) e.tells)

  pub shut_gives : (b : Bool) → Ends ShutFirst (AnswerShut b) → ShutGives (shape_for T n laps passes) begun (pass_of v) b
  shut_gives true e = adds_of e e.deeds (Shut begun.number ∷ []) (e.deeds.made ∙ ap (λ (k : ℕ). Shut k ∷ []) e.number)
  shut_gives false e = (adds_of e e.deeds [] e.deeds.made, right_for (λ s. s.shut ≡ true) e.tells)

  looked : (b : Bool) → Ends LookFirst (AnswerLook b) → Sometime begun.seen (pass_of v).seen (λ h. right.Justifies (shape_for T n laps passes) h (right.Looked b))
  looked true e = right_for (λ s. s.values ≡ []) e.tells
  looked false e = right_for (λ s. s.values ≡ [] → ⊥) e.tells

  pub look_gives : (b : Bool) → Ends LookFirst (AnswerLook b) → LookGives (shape_for T n laps passes) begun (pass_of v) b
  look_gives b e = (adds_of e e.deeds [] e.deeds.made, looked b e)

  pub len_gives : (k : ℕ) → Ends LenFirst (AnswerLen k) → LenGives (shape_for T n laps passes) begun (pass_of v) k
  len_gives k e = (adds_of e e.deeds [] e.deeds.made, right_for (λ s. length s.values ≡ k) e.tells)

  -- a gauge says nothing of passes, and is right as it was told
  pub gauge_gives : (closed : Bool) (used : ℕ) → Ends GaugeFirst (AnswerGauge closed used) → Adds begun (pass_of v) [] × Sometime begun.seen (pass_of v).seen (IsGauged n laps closed used)
  gauge_gives closed used e = (adds_of e e.deeds [] e.deeds.made, e.tells)

-- A put that was refused as full, in the linearization of its run.
use Rattle.std.proofs.Common.{◌≡◌, ℕ, ◌<◌, List, [], ◌∷◌, Err, refl, ap, subst}
use Rattle.bounded_model.specs.declared.answers.PutRefused.TheVariants.{Full}
use Rattle.bounded_model.specs.declared.views.PassView.{PassView}
use Rattle.machine.specs.declared.seats.View.{View}
use Rattle.machine.specs.Seats.{pass_of}
use Rattle.ring_machine.specs.declared.lines.Answer.{Answer}
use Rattle.ring_machine.specs.declared.lines.Answer.TheVariants.{Put as AnswerPut}
use Rattle.ring_machine.specs.declared.lines.Call.{Call}
use Rattle.ring_machine.specs.declared.lines.Call.TheVariants.{Put as CallPut, Take as CallTake, Close as CallClose, Shut as CallShut, Look as CallLook, Len as CallLen, Gauge as CallGauge}
use Rattle.ring_machine.specs.Machine.{ends, first_of, cell_of}
use Rattle.ring_table.specs.declared.line.SeatLine.{SeatLine}
use Rattle.ring_table.specs.declared.line.SeatLine.TheVariants.{At, Stock}
use Rattle.ring_table.specs.declared.operation.Operation.{Operation}
use Rattle.ring_table.specs.Core.{core, ring_on}
use Rattle.ring_table.specs.Lines.{call_of}
use Rattle.ring_table.specs.Seats.{names}
use Rattle.running.specs.Acts.{Begins, Now, IsFresh, AllFresh, played}
use Rattle.running.specs.Going.{HasRun}
use Rattle.step_core.specs.Linearizable.{Operation as Made, Entry, Invokes, Responds, Hand, Updates, Reads, IsLinearization}
use Rattle.step_core.specs.ring.Object.{object, full_put}
use Rattle.step_core.proofs.ring.Full.{by_calls}
use Rattle.runs.specs.Heard.{heard, IsLinearizable}
use Rattle.runs.specs.Point.{IsPointOf, HasPoint}
use Rattle.runs.proofs.Point.{run_has_point, point_runs}
use Rattle.runs.specs.ring.Bounded.{call_in}
use Rattle.runs.specs.ring.Full.{refused_put, WasFull}
use Rattle.runs.specs.ring.Linearizable.{answer_at}
use Rattle.runs.proofs.ring.Overtaken.{fresh_older}
use Rattle.runs.proofs.ring.Rings.{linearizable}

module _ {T : Type 0} where
  -- the call that begins at the first line of a call
  same_call : (c : ℕ) (call : Call T) → call_in (At (first_of c call)) ≡ call
  same_call c (CallPut v) = refl
  same_call c CallTake = refl
  same_call c CallClose = refl
  same_call c CallShut = refl
  same_call c CallLook = refl
  same_call c CallLen = refl
  same_call c CallGauge = refl

  -- only a pass begins a call
  begun_at : (n laps passes : ℕ) (o : Operation T) (k : Now names (core T n laps passes)) (rest : SeatLine T) → IsFresh names (core T n laps passes) k (Begins (names.first o rest)) → call_in (names.first o rest) ≡ call_of o
  begun_at n laps passes o k (At l) fresh = same_call (cell_of l) (call_of o)
  begun_at n laps passes o k (Stock cs) fresh = absurd fresh

  pub has_point : (n laps passes : ℕ) (o : Operation T) (v : View T (SeatLine T)) (begun : PassView T) (c : ℕ) (said : Answer T) (ran : HasRun (ring_on T n laps passes) o v begun (At (ends c said)))
      → (calls : IsLinearizable names (core T n laps passes) call_in answer_at (object n laps) ran.now) → HasPoint calls.course (heard names (core T n laps passes) call_in answer_at ran.before) (record { by = (pass_of v).number; call = call_of o; answer = said })
  has_point n laps passes o v begun c said ran calls =
      let p : ℕ = (pass_of v).number in
      let k = ran.course in
      let fresh : AllFresh names (core T n laps passes) ((p, Begins (names.first o ran.rest)) ∷ ran.before) = fresh_older n laps passes k.since ((p, Begins (names.first o ran.rest)) ∷ ran.before) (subst (AllFresh names (core T n laps passes)) k.is k.fresh) in
      run_has_point (ring_on T n laps passes) call_in answer_at (object n laps) o v begun (At (ends c said)) said (call_of o) ran (begun_at n laps passes o (played names (core T n laps passes) ran.before) ran.rest fresh.0) refl refl calls

  -- the point of a put that is refused as full reads the ring
  reads_full : (n laps p : ℕ) (x y : T) (point : Entry T (Call T) (Answer T)) (older : List (Entry T (Call T) (Answer T))) → IsPointOf (refused_put p x y) point → IsLinearization (object n laps) (point ∷ older) → point ≡ full_put p x y
  reads_full n laps p x y (Invokes q call) older is run = absurd is
  reads_full n laps p x y (Responds q said) older is run = absurd is
  reads_full n laps p x y (Hand e) older is run = absurd is
  reads_full n laps p x y (Updates j e) older is run =
      let no = subst (λ (k : Made (Call T) (Answer T)). (object {T = T} n laps).updates k e) is run.1 in
      absurd no
  reads_full n laps p x y (Reads j) older is run = ap Reads is

  pub full : (n laps passes : ℕ) → 0 < n → (o : Operation T) (v : View T (SeatLine T)) (begun : PassView T) (c : ℕ) (x y : T) → call_of o ≡ CallPut x
      → (ran : HasRun (ring_on T n laps passes) o v begun (At (ends c (AnswerPut (Err (Full y)))))) → WasFull n laps passes (pass_of v).number x y ran.before ran.now
  full n laps passes some_slot o v begun c x y is ran =
      let p : ℕ = (pass_of v).number in
      let calls = linearizable n laps passes ran.now some_slot ran.course.allowed ran.course.fresh in
      let at : HasPoint calls.course (heard names (core T n laps passes) call_in answer_at ran.before) (refused_put p x y) =
      subst (λ (call : Call T). HasPoint calls.course (heard names (core T n laps passes) call_in answer_at ran.before) (record { by = p; call = call; answer = AnswerPut (Err (Full y)) })) is
      (has_point n laps passes o v begun c (AnswerPut (Err (Full y))) ran calls) in
      let run : IsLinearization (object n laps) (at.point ∷ at.older) = point_runs (object n laps) calls.course (heard names (core T n laps passes) call_in answer_at ran.before) (refused_put p x y) at calls.right in
      let reads : IsLinearization (object n laps) (full_put p x y ∷ at.older) =
      subst (λ (e : Entry T (Call T) (Answer T)). IsLinearization (object n laps) (e ∷ at.older)) (reads_full n laps p x y at.point at.older at.of_call run) run in
      record { calls = calls; refusal = at; back = reads.1.0; full = by_calls n laps p x y [] at.older reads }

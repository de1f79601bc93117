-- A put that was refused as full, in the linearization of its run.
use Rattle.std.proofs.Common.{◌≡◌, ℕ, ◌<◌, List, [], ◌∷◌, Err, refl, ap, subst}
use Rattle.tagged_index.specs.declared.word.TheConstants.{NULL}
use Rattle.bounded_model.specs.declared.answers.PutRefused.TheVariants.{Full}
use Rattle.bounded_model.specs.declared.views.PassView.{PassView}
use Rattle.machine.specs.declared.seats.View.{View}
use Rattle.machine.specs.Seats.{pass_of}
use Rattle.queue_machine.specs.declared.lines.Answer.{Answer}
use Rattle.queue_machine.specs.declared.lines.Answer.TheVariants.{Put as AnswerPut}
use Rattle.queue_machine.specs.declared.lines.Call.{Call}
use Rattle.queue_machine.specs.declared.lines.Call.TheVariants.{Put as CallPut, Take as CallTake, Close as CallClose, Shut as CallShut, Look as CallLook, Len as CallLen, Gauge as CallGauge}
use Rattle.queue_machine.specs.declared.lines.Line.{Line}
use Rattle.queue_machine.specs.Machine.{ends, starts}
use Rattle.queue_table.specs.declared.operation.Operation.{Operation}
use Rattle.queue_table.specs.Core.{core, queue}
use Rattle.queue_table.specs.Lines.{call_of, names}
use Rattle.running.specs.Going.{HasRun}
use Rattle.step_core.specs.Linearizable.{Operation as Made, Entry, Invokes, Responds, Hand, Updates, Reads, IsLinearization}
use Rattle.step_core.specs.queue.Object.{object, answer, full_put}
use Rattle.step_core.proofs.queue.Full.{by_calls}
use Rattle.runs.specs.Heard.{heard, IsLinearizable}
use Rattle.runs.specs.Point.{IsPointOf, HasPoint}
use Rattle.runs.proofs.Point.{run_has_point, point_runs}
use Rattle.runs.specs.queue.Bounded.{call_at}
use Rattle.runs.specs.queue.Full.{refused_put, WasFull}
use Rattle.runs.proofs.queue.Queues.{linearizable}

module _ {T : Type 0} where
  -- the call that begins at the first line of a call
  same_call : (call : Call T) → call_at (starts call) ≡ call
  same_call (CallPut v) = refl
  same_call CallTake = refl
  same_call CallClose = refl
  same_call CallShut = refl
  same_call CallLook = refl
  same_call CallLen = refl
  same_call CallGauge = refl

  pub has_point : (n limit : ℕ) (o : Operation T) (v : View T (Line T)) (begun : PassView T) (said : Answer T) (ran : HasRun (queue T n limit) o v begun (ends said))
      → (calls : IsLinearizable names (core T n limit) call_at answer (object n limit) ran.now) → HasPoint calls.course (heard names (core T n limit) call_at answer ran.before) (record { by = (pass_of v).number; call = call_of o; answer = said })
  has_point n limit o v begun said ran calls = run_has_point (queue T n limit) call_at answer (object n limit) o v begun (ends said) said (call_of o) ran (same_call (call_of o)) refl refl calls

  -- the point of a put that is refused as full reads the queue
  reads_full : (n limit p : ℕ) (x y : T) (point : Entry T (Call T) (Answer T)) (older : List (Entry T (Call T) (Answer T))) → IsPointOf (refused_put p x y) point → IsLinearization (object n limit) (point ∷ older) → point ≡ full_put p x y
  reads_full n limit p x y (Invokes q call) older is run = absurd is
  reads_full n limit p x y (Responds q said) older is run = absurd is
  reads_full n limit p x y (Hand e) older is run = absurd is
  reads_full n limit p x y (Updates j e) older is run =
      let no = subst (λ (k : Made (Call T) (Answer T)). (object {T = T} n limit).updates k e) is run.1 in
      absurd no
  reads_full n limit p x y (Reads j) older is run = ap Reads is

  pub full : (n limit : ℕ) → 0 < n → n < NULL → 0 < limit → (o : Operation T) (v : View T (Line T)) (begun : PassView T) (x y : T) → call_of o ≡ CallPut x
      → (ran : HasRun (queue T n limit) o v begun (ends (AnswerPut (Err (Full y))))) → WasFull n limit (pass_of v).number x y ran.before ran.now
  full n limit some_cell small some_tag o v begun x y is ran =
      let p : ℕ = (pass_of v).number in
      let calls = linearizable n limit some_cell small some_tag ran.now ran.course.allowed in
      let at : HasPoint calls.course (heard names (core T n limit) call_at answer ran.before) (refused_put p x y) =
      subst (λ (c : Call T). HasPoint calls.course (heard names (core T n limit) call_at answer ran.before) (record { by = p; call = c; answer = AnswerPut (Err (Full y)) })) is
      (has_point n limit o v begun (AnswerPut (Err (Full y))) ran calls) in
      let run : IsLinearization (object n limit) (at.point ∷ at.older) = point_runs (object n limit) calls.course (heard names (core T n limit) call_at answer ran.before) (refused_put p x y) at calls.right in
      let reads : IsLinearization (object n limit) (full_put p x y ∷ at.older) =
      subst (λ (e : Entry T (Call T) (Answer T)). IsLinearization (object n limit) (e ∷ at.older)) (reads_full n limit p x y at.point at.older at.of_call run) run in
      record { calls = calls; refusal = at; back = reads.1.0; full = by_calls n limit p x y [] at.older reads }

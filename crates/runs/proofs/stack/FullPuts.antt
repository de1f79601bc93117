-- A put that was refused as full, in the linearization of its run.
use Rattle.std.proofs.Common.{◌≡◌, ℕ, ◌<◌, ◌≤◌, List, [], ◌∷◌, Err, refl, ap, subst}
use Rattle.tagged_index.specs.declared.word.TheConstants.{NULL}
use Rattle.bounded_model.specs.declared.answers.PutRefused.TheVariants.{Full}
use Rattle.bounded_model.specs.declared.views.PassView.{PassView}
use Rattle.machine.specs.declared.seats.View.{View}
use Rattle.machine.specs.Seats.{pass_of}
use Rattle.stack_machine.specs.declared.lines.Answer.{Answer}
use Rattle.stack_machine.specs.declared.lines.Answer.TheVariants.{Put as AnswerPut}
use Rattle.stack_machine.specs.declared.lines.Call.{Call}
use Rattle.stack_machine.specs.declared.lines.Call.TheVariants.{Put as CallPut, Take as CallTake, Close as CallClose, Shut as CallShut, Look as CallLook, Gauge as CallGauge}
use Rattle.stack_machine.specs.declared.lines.Line.{Line}
use Rattle.stack_machine.specs.Machine.{ends, starts}
use Rattle.stack_table.specs.declared.operation.Operation.{Operation}
use Rattle.stack_table.specs.Core.{core, stack}
use Rattle.stack_table.specs.Lines.{call_of, names}
use Rattle.running.specs.Going.{HasRun}
use Rattle.step_core.specs.Linearizable.{Operation as Made, Entry, Invokes, Responds, Hand, Updates, Reads, IsLinearization}
use Rattle.step_core.specs.stack.Object.{object, answer, full_put}
use Rattle.step_core.proofs.stack.Full.{is_full}
use Rattle.runs.specs.Heard.{heard, IsLinearizable}
use Rattle.runs.specs.Point.{IsPointOf, HasPoint}
use Rattle.runs.proofs.Point.{run_has_point, point_runs}
use Rattle.runs.specs.stack.Bounded.{call_at}
use Rattle.runs.specs.stack.Full.{refused_put, WasFull}
use Rattle.runs.proofs.stack.Stacks.{linearizable}

module _ {T : Type 0} where
  -- the call that begins at the first line of a call
  same_call : (call : Call T) → call_at (starts call) ≡ call
  same_call (CallPut v vs) = refl
  same_call (CallTake taking) = refl
  same_call CallClose = refl
  same_call CallShut = refl
  same_call CallLook = refl
  same_call CallGauge = refl

  pub has_point : (n limit : ℕ) (o : Operation T) (v : View T (Line T)) (begun : PassView T) (said : Answer T) (ran : HasRun (stack T n limit) o v begun (ends said))
      → (calls : IsLinearizable names (core T n limit) call_at answer (object n limit) ran.now) → HasPoint calls.course (heard names (core T n limit) call_at answer ran.before) (record { by = (pass_of v).number; call = call_of o; answer = said })
  has_point n limit o v begun said ran calls = run_has_point (stack T n limit) call_at answer (object n limit) o v begun (ends said) said (call_of o) ran (same_call (call_of o)) refl refl calls

  -- the point of a put that is refused as full reads the stack
  reads_full : (n limit p : ℕ) (x : T) (xs ys : List T) (point : Entry T (Call T) (Answer T)) (older : List (Entry T (Call T) (Answer T))) → IsPointOf (refused_put p x xs ys) point → IsLinearization (object n limit) (point ∷ older) → point ≡ full_put p x xs ys
  reads_full n limit p x xs ys (Invokes q call) older is run = absurd is
  reads_full n limit p x xs ys (Responds q said) older is run = absurd is
  reads_full n limit p x xs ys (Hand e) older is run = absurd is
  reads_full n limit p x xs ys (Updates j e) older is run =
      let no = subst (λ (k : Made (Call T) (Answer T)). (object {T = T} n limit).updates k e) is run.1 in
      absurd no
  reads_full n limit p x xs ys (Reads j) older is run = ap Reads is

  pub full : (n limit : ℕ) → 0 < n → n ≤ NULL → (o : Operation T) (v : View T (Line T)) (begun : PassView T) (x : T) (xs ys : List T) → call_of o ≡ CallPut x xs
      → (ran : HasRun (stack T n limit) o v begun (ends (AnswerPut (Err (Full ys))))) → WasFull n limit (pass_of v).number x xs ys ran.before ran.now
  full n limit some_node small o v begun x xs ys is ran =
      let p : ℕ = (pass_of v).number in
      let calls = linearizable n limit some_node small ran.now ran.course.allowed in
      let at : HasPoint calls.course (heard names (core T n limit) call_at answer ran.before) (refused_put p x xs ys) =
      subst (λ (c : Call T). HasPoint calls.course (heard names (core T n limit) call_at answer ran.before) (record { by = p; call = c; answer = AnswerPut (Err (Full ys)) })) is
      (has_point n limit o v begun (AnswerPut (Err (Full ys))) ran calls) in
      let run : IsLinearization (object n limit) (at.point ∷ at.older) = point_runs (object n limit) calls.course (heard names (core T n limit) call_at answer ran.before) (refused_put p x xs ys) at calls.right in
      let reads : IsLinearization (object n limit) (full_put p x xs ys ∷ at.older) =
      subst (λ (e : Entry T (Call T) (Answer T)). IsLinearization (object n limit) (e ∷ at.older)) (reads_full n limit p x xs ys at.point at.older at.of_call run) run in
      record { calls = calls; refusal = at; back = reads.1.0; full = is_full n limit p x xs ys [] at.older reads }

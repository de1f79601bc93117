-- The queue's laws, of the acts that led to a table.
use Rattle.std.proofs.Common.{◌≡◌, ◌⊎◌, ℕ, ◌<◌, false, ◌∷◌, ◌++◌, refl, inl, arith}
use Rattle.std.specs.List.{AllByRecursion as Every}
use Rattle.tagged_index.specs.declared.word.TheConstants.{NULL}
use Rattle.machine.specs.Seats.{Acts}
use Rattle.queue_machine.specs.declared.lines.Line.{Line}
use Rattle.queue_machine.specs.Machine.{State, is_idle, queue}
use Rattle.queue_machine.specs.Answers.{shape}
use Rattle.queue_table.specs.declared.operation.Operation.{Operation}
use Rattle.queue_table.specs.declared.operation.Operation.TheVariants.{Put as PutFirst, Take as TakeFirst, Close as CloseFirst, Shut as ShutFirst, Look as LookFirst, Len as LenFirst, Gauge as GaugeFirst}
use Rattle.queue_table.specs.Lines.{names}
use Rattle.queue_table.specs.Core.{core, queue as on_table}
use Rattle.step_core.specs.queue.Bound.{MeetsRule}
use Rattle.step_core.proofs.queue.Run.{run_meets}
use Rattle.step_core.proofs.queue.Points.{queue_linearizable}
use Rattle.step_core.specs.queue.Object.{object, answer}
use Rattle.step_core.proofs.queue.Ends.{queue_overtaken}
use Rattle.running.specs.Acts.{Begins, AllProper, Course, IsAllowed}
use Rattle.runs.specs.Runs.{schedule_of, IsRunning}
use Rattle.runs.specs.Heard.{IsLinearizable}
use Rattle.runs.specs.queue.Bounded.{call_at, state_after, IsBounded}
use Rattle.runs.proofs.Underway.{steps_are_own, later_are_own}
use Rattle.runs.proofs.Heard.{passes_of, all_below, linearizable_acts}

module _ {T : Type 0} where
  pub running : (n limit : ℕ) → IsRunning (on_table T n limit) (queue (shape n limit)) call_at
  running n limit = record { first = refl; rest = λ p. refl; idle = λ l. refl; steps = λ memory p l. refl; starts = starts }
    where
      starts : (o : Operation T) (rest l : Line T) → (queue (shape n limit)).starts (call_at (names.first o rest)) l ≡ names.first o rest
      starts (PutFirst v) rest l = refl
      starts TakeFirst rest l = refl
      starts CloseFirst rest l = refl
      starts ShutFirst rest l = refl
      starts LookFirst rest l = refl
      starts LenFirst rest l = refl
      starts GaugeFirst rest l = refl

  module _ (n limit : ℕ) (some_cell : 0 < n) (small : n < NULL) (some_tag : 0 < limit) where
    pub meets : (passes : ℕ) (acts : Acts (Line T)) → MeetsRule n limit (state_after n limit passes acts)
    meets passes acts = run_meets n limit passes (schedule_of call_at acts) some_cell small some_tag

    pub linearizable : (acts : Acts (Line T)) → Every (λ a. IsAllowed names (core T n limit) a.1) acts → IsLinearizable names (core T n limit) call_at answer (object n limit) acts
    linearizable acts allowed = linearizable_acts (on_table T n limit) (queue (shape n limit)) call_at answer (running n limit) (object n limit) (passes_of acts) acts (all_below acts) allowed (queue_linearizable n limit (passes_of acts) (schedule_of call_at acts) some_cell small some_tag)

    -- of an operation that goes on, or that has ended in a proper run
    pub bounded_run : (x : ℕ) (before now : Acts (Line T)) (first l : Line T) → Course names (core T n limit) before now x first l → (is_idle l ≡ false) ⊎ AllProper names (core T n limit) now → IsBounded n limit before now x first
    bounded_run x before now first l k counts = record {
      since = k.since;
      is = k.is;
      bound = λ passes low.
          let s : State T = state_after n limit passes ((x, Begins first) ∷ before) in
          omega (
            arith,
            queue_overtaken n limit x s (schedule_of call_at k.since) (meets passes ((x, Begins first) ∷ before)),
            steps_are_own (on_table T n limit) (queue (shape n limit)) call_at (running n limit) x before now first l k passes low counts,
          );
      from_any_point = λ later earlier cut passes low.
          let s : State T = state_after n limit passes (earlier ++ (x, Begins first) ∷ before) in
          omega (
            arith,
            queue_overtaken n limit x s (schedule_of call_at later) (meets passes (earlier ++ (x, Begins first) ∷ before)),
            later_are_own (on_table T n limit) (queue (shape n limit)) call_at (running n limit) x before now first l k passes low later earlier cut counts,
          );
    }

    pub bounded : (x : ℕ) (before now : Acts (Line T)) (first l : Line T) → Course names (core T n limit) before now x first l → is_idle l ≡ false → IsBounded n limit before now x first
    bounded x before now first l k busy = bounded_run x before now first l k (inl busy)

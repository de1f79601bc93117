-- The stack's laws, of the acts that led to a table.
use Rattle.std.proofs.Common.{◌≡◌, ℕ, ◌<◌, ◌≤◌, false, ◌∷◌, ◌++◌, refl, sym, subst, arith, ◌⊎◌, inl}
use Rattle.std.specs.List.{AllByRecursion as Every}
use mathlib.Core.Option.{Option, none, some}
use lib.ListN.{get_elem?}
use Rattle.tagged_index.specs.declared.word.TheConstants.{NULL}
use Rattle.machine.specs.Seats.{Acts}
use Rattle.machine.specs.Bound.{AtLine}
use Rattle.stack_machine.specs.declared.lines.Line.{Line}
use Rattle.stack_machine.specs.Machine.{Pass, is_idle, stack}
use Rattle.stack_machine.specs.Answers.{shape}
use Rattle.stack_table.specs.declared.operation.Operation.{Operation}
use Rattle.stack_table.specs.declared.operation.Operation.TheVariants.{Put as PutFirst, Take as TakeFirst, Close as CloseFirst, Shut as ShutFirst, Look as LookFirst, Fold as FoldFirst, Gauge as GaugeFirst}
use Rattle.stack_table.specs.Lines.{names}
use Rattle.stack_table.specs.Core.{core, stack as on_table}
use Rattle.step_core.specs.stack.Bound.{IsSingle}
use Rattle.step_core.specs.stack.Law.{MeetsRule}
use Rattle.step_core.proofs.stack.Run.{run_stays}
use Rattle.step_core.proofs.stack.Points.{stack_linearizable}
use Rattle.step_core.specs.stack.Object.{object, answer}
use Rattle.step_core.proofs.stack.Ends.{stack_overtaken, single_overtaken, step_single}
use Rattle.running.specs.Acts.{Begins, Course, IsAllowed, played, AllProper}
use Rattle.runs.specs.Runs.{schedule_of, IsRunning}
use Rattle.runs.specs.Heard.{IsLinearizable}
use Rattle.runs.proofs.Underway.{steps_are_own, begins_at, later_are_own, none_begun, line_begun, at_point}
use Rattle.runs.proofs.Points.{stays}
use Rattle.runs.proofs.Heard.{passes_of, all_below, linearizable_acts}
use Rattle.runs.specs.stack.Bounded.{call_at, state_after, IsBounded}

module _ {T : Type 0} where
  pub running : (n limit : ℕ) → IsRunning (on_table T n limit) (stack (shape n limit)) call_at
  running n limit = record { first = refl; rest = λ p. refl; idle = λ l. refl; steps = λ memory p l. refl; starts = starts }
    where
      starts : (o : Operation T) (rest l : Line T) → (stack (shape n limit)).starts (call_at (names.first o rest)) l ≡ names.first o rest
      starts (PutFirst v others) rest l = refl
      starts TakeFirst rest l = refl
      starts CloseFirst rest l = refl
      starts ShutFirst rest l = refl
      starts LookFirst rest l = refl
      starts (FoldFirst front) rest l = refl
      starts GaugeFirst rest l = refl

  module _ (n limit : ℕ) (some_node : 0 < n) (small : n ≤ NULL) where
    pub meets : (passes : ℕ) (acts : Acts (Line T)) → MeetsRule n limit (state_after n limit passes acts)
    meets passes acts = (run_stays n limit passes (schedule_of call_at acts) some_node small).rule

    pub linearizable : (acts : Acts (Line T)) → Every (λ a. IsAllowed names (core T n limit) a.1) acts → IsLinearizable names (core T n limit) call_at answer (object n limit) acts
    linearizable acts allowed = linearizable_acts (on_table T n limit) (stack (shape n limit)) call_at answer (running n limit) (object n limit) (passes_of acts) acts (all_below acts) allowed (stack_linearizable n limit (passes_of acts) (schedule_of call_at acts) some_node small)

    at_single : (first : Line T) → IsSingle first → (o : Option (Pass T)) → ((v : Pass T) → o ≡ some v → v.line ≡ first) → AtLine IsSingle o
    at_single first single none at = tt
    at_single first single (some v) at = subst IsSingle (sym (at v refl)) single

    module _ (x : ℕ) (before now : Acts (Line T)) (first l : Line T) (k : Course names (core T n limit) before now x first l) (counts : (is_idle l ≡ false) ⊎ AllProper names (core T n limit) now) where
      abbrev older : Acts (Line T)
      older = (x, Begins first) ∷ before

      -- of an operation that goes on, or that has ended in a proper run
      pub bounded_run : IsBounded n limit before now x first
      bounded_run = record {
        since = k.since;
        is = k.is;
        bound = λ passes low. omega (
          arith,
          stack_overtaken n limit some_node x (state_after n limit passes older) (schedule_of call_at k.since) (meets passes older),
          steps_are_own (on_table T n limit) (stack (shape n limit)) call_at (running n limit) x before now first l k passes low counts,
        );
        single = λ one passes low. omega (
          arith,
          single_overtaken n limit some_node x (state_after n limit passes older) (schedule_of call_at k.since) (meets passes older)
              (at_single first one (get_elem? (state_after n limit passes older).passes x) (begins_at (on_table T n limit) (stack (shape n limit)) call_at (running n limit) x before now first l k passes low)),
          steps_are_own (on_table T n limit) (stack (shape n limit)) call_at (running n limit) x before now first l k passes low counts,
        );
        from_any_point = λ later earlier cut passes low. omega (
          arith,
          stack_overtaken n limit some_node x (state_after n limit passes (earlier ++ older)) (schedule_of call_at later) (meets passes (earlier ++ older)),
          later_are_own (on_table T n limit) (stack (shape n limit)) call_at (running n limit) x before now first l k passes low later earlier cut counts,
        );
        single_from_any_point = λ one later earlier cut passes low.
            let on = on_table T n limit in
            let machine = stack {T = T} (shape n limit) in
            let none = (none_begun on machine call_at (running n limit) x before now first l k passes low later earlier cut).1 in
            let began : (played names (core T n limit) older).line x ≡ first = line_begun on machine call_at (running n limit) x before now first l k passes low (played names (core T n limit) before) k.rested in
            let single : IsSingle ((played names (core T n limit) (earlier ++ older)).line x) = stays on x IsSingle (λ memory l one. step_single (shape n limit) memory x l one) earlier older none (subst IsSingle (sym began) one) in
            let there = at_point on machine call_at (running n limit) x before now first l k passes low later earlier cut in
            omega (
              arith,
              single_overtaken n limit some_node x (state_after n limit passes (earlier ++ older)) (schedule_of call_at later) (meets passes (earlier ++ older))
                  (at_single ((played names (core T n limit) (earlier ++ older)).line x) single (get_elem? (state_after n limit passes (earlier ++ older)).passes x) there),
              later_are_own on machine call_at (running n limit) x before now first l k passes low later earlier cut counts,
            );
      }

    pub bounded : (x : ℕ) (before now : Acts (Line T)) (first l : Line T) → Course names (core T n limit) before now x first l → is_idle l ≡ false → IsBounded n limit before now x first
    bounded x before now first l k busy = bounded_run x before now first l k (inl busy)

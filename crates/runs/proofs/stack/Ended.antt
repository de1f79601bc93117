-- Calls on a stack end: each that does, and each pass, is good for so many steps at most.
use Rattle.std.proofs.Common.{◌≡◌, ℕ, suc, ◌<◌, ◌≤◌, arith}
use mathlib.Core.Option.{some}
use lib.ListN.{get_elem?}
use Rattle.tagged_index.specs.declared.word.TheConstants.{NULL}
use Rattle.machine.specs.Progress.{AtOnce, Only}
use Rattle.machine.specs.Seats.{Acts}
use Rattle.machine.proofs.Scheduled.{passes_after}
use Rattle.stack_machine.specs.declared.lines.Line.{Line}
use Rattle.stack_machine.specs.Machine.{Pass, stack}
use Rattle.stack_machine.specs.Answers.{shape}
use Rattle.step_core.specs.stack.Bound.{IsSingle}
use Rattle.step_core.specs.stack.Costs.{IsSingleCall}
use Rattle.step_core.proofs.stack.Ends.{stack_ends, singles_end}
use Rattle.runs.specs.Runs.{schedule_of}
use Rattle.runs.proofs.Costs.{at_once as few}
use Rattle.runs.specs.stack.Bounded.{call_at, state_after}
use Rattle.runs.specs.stack.Ended.{CallsEnd, CallsOfOneValueEnd}
use Rattle.runs.proofs.stack.Stacks.{meets}

module _ {T : Type 0} where
  pub at_once : (n limit passes others : ℕ) (later earlier : Acts (Line T)) → 0 < n → n ≤ NULL → AtOnce (stack (shape n limit)) (suc others) (schedule_of call_at later) (state_after n limit passes earlier) → CallsEnd n limit passes others later earlier
  at_once n limit passes others later earlier some_node small once =
      stack_ends n limit some_node others (state_after n limit passes earlier) (schedule_of call_at later) (meets n limit some_node small passes earlier) once

  pub of_all : (n limit others : ℕ) (later earlier : Acts (Line T)) → 0 < n → n ≤ NULL → CallsEnd n limit (suc others) others later earlier
  of_all n limit others later earlier some_node small =
      at_once n limit (suc others) others later earlier some_node small
      (few (stack {T = T} (shape n limit)) (suc others) (suc others) (omega arith) (schedule_of call_at later) (state_after n limit (suc others) earlier) (passes_after (stack {T = T} (shape n limit)) (suc others) (schedule_of call_at earlier)))

  pub of_one_value : (n limit passes others : ℕ) (later earlier : Acts (Line T)) → 0 < n → n ≤ NULL → AtOnce (stack (shape n limit)) (suc others) (schedule_of call_at later) (state_after n limit passes earlier)
      → ((q : ℕ) (v : Pass T) → get_elem? (state_after n limit passes earlier).passes q ≡ some v → IsSingle v.line) → Only IsSingleCall (schedule_of call_at later) → CallsOfOneValueEnd n limit passes others later earlier
  of_one_value n limit passes others later earlier some_node small once single only =
      singles_end n limit some_node others (state_after n limit passes earlier) (schedule_of call_at later) (meets n limit some_node small passes earlier) single only once

-- Calls on a queue end: each that does, and each pass, is good for so many steps at most.
use Rattle.std.proofs.Common.{ℕ, suc, ◌<◌, arith}
use Rattle.tagged_index.specs.declared.word.TheConstants.{NULL}
use Rattle.machine.specs.Progress.{AtOnce}
use Rattle.machine.specs.Seats.{Acts}
use Rattle.machine.proofs.Scheduled.{passes_after}
use Rattle.queue_machine.specs.declared.lines.Line.{Line}
use Rattle.queue_machine.specs.Machine.{queue}
use Rattle.queue_machine.specs.Answers.{shape}
use Rattle.step_core.proofs.queue.Ends.{queue_ends}
use Rattle.runs.specs.Runs.{schedule_of}
use Rattle.runs.proofs.Costs.{at_once as few}
use Rattle.runs.specs.queue.Bounded.{call_at, state_after}
use Rattle.runs.specs.queue.Ended.{CallsEnd}
use Rattle.runs.proofs.queue.Queues.{meets}

module _ {T : Type 0} where
  pub at_once : (n limit passes others : ℕ) (later earlier : Acts (Line T)) → 0 < n → n < NULL → 0 < limit → AtOnce (queue (shape n limit)) (suc others) (schedule_of call_at later) (state_after n limit passes earlier) → CallsEnd n limit passes others later earlier
  at_once n limit passes others later earlier some_cell small some_tag once =
      queue_ends n limit others (state_after n limit passes earlier) (schedule_of call_at later) (meets n limit some_cell small some_tag passes earlier) once

  pub of_all : (n limit others : ℕ) (later earlier : Acts (Line T)) → 0 < n → n < NULL → 0 < limit → CallsEnd n limit (suc others) others later earlier
  of_all n limit others later earlier some_cell small some_tag =
      at_once n limit (suc others) others later earlier some_cell small some_tag
      (few (queue {T = T} (shape n limit)) (suc others) (suc others) (omega arith) (schedule_of call_at later) (state_after n limit (suc others) earlier) (passes_after (queue {T = T} (shape n limit)) (suc others) (schedule_of call_at earlier)))

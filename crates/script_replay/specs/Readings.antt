-- How a queue's and a stack's roots, passes and operations are read.
use Rattle.std.specs.Prelude.{ℕ, List}
use Rattle.ms_queue.specs.Calls as queue
use Rattle.treiber_stack.specs.Calls as stack
use Rattle.player.specs.Shows.{Reading}

-- a queue of texts
abbrev pub Queue : Type 0
Queue = queue.Queue (List ℕ)

abbrev pub queue_reading : Queue → Reading (queue.Root (List ℕ)) (queue.Pass (List ℕ)) (queue.AnyOp (List ℕ))
queue_reading c = record {
  shape = queue.shape_of c;
  is_root = queue.IsRootOf c;
  root = queue.root_in;
  is_pass = queue.IsPassOf c;
  pass = queue.pass_in;
  is_making = queue.IsMakingCall c;
  made = queue.making;
}

-- and a stack
abbrev pub Stack : Type 0
Stack = stack.Stack (List ℕ)

abbrev pub stack_reading : Stack → Reading (stack.Root (List ℕ)) (stack.Pass (List ℕ)) (stack.AnyOp (List ℕ))
stack_reading c = record {
  shape = stack.shape_of c;
  is_root = stack.IsRootOf c;
  root = stack.root_in;
  is_pass = stack.IsPassOf c;
  pass = stack.pass_in;
  is_making = stack.IsMakingCall c;
  made = stack.making;
}

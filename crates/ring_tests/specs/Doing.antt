-- What the passes of a ring do.
use Rattle.std.specs.Prelude.{ℕ}
use Rattle.bounded_model.specs.declared.commands.Command.{Command}
use Rattle.ring_queue.specs.Calls.{IsCounting, IsGauging, IsPassOf, RingQueue, IsMakingCall}
use Rattle.ring_tests.specs.declared.doing.Doing.{Doing}
use Rattle.ring_tests.specs.declared.doing.Doing.TheVariants.{Rests, Calls, Counts, Gauges}

-- a pass of this ring, between its calls or in one
abbrev pub IsDoing : RingQueue ℕ → Doing → Type 0
IsDoing c (Rests pass) = IsPassOf c pass
IsDoing c (Calls op) = (call : Command ℕ) × IsMakingCall c call op
IsDoing c (Counts op) = IsCounting c op
IsDoing c (Gauges op) = IsGauging c op

-- A root that had no memory for a pass is as it was.
use Rattle.std.proofs.Common.{inl, inr, refl}
use Rattle.std.specs.Prelude.{Err}
use Rattle.lockfree_c.specs.Calls.{Reading}
use Rattle.lockfree_c.specs.Held.{HeldSplit}
use Rattle.lockfree_c.specs.Queues.{queue_reading}
use Rattle.lockfree_c.specs.Rings.{ring_reading}
use Rattle.lockfree_c.specs.Sides.{SideSplit}
use Rattle.lockfree_c.specs.Stacks.{stack_reading}
use Rattle.lockfree_c.specs.declared.answers.TheConstants.{NO_MEMORY}
use Rattle.lockfree_c.specs.declared.held.Held.{Held}
use Rattle.lockfree_c.specs.declared.held.Held.TheVariants.{Nothing, Queue, Stack, Ring, Producer, Consumer}
use Rattle.lockfree_c.specs.declared.side.Side.{Side}
use Rattle.lockfree_c.specs.declared.side.Side.TheVariants.{Root, Pass, Rest}

side_unsplit : {C R P O W L : Type 0} (reading : C → Reading R P O W) (s : Side C R P O W L) → SideSplit reading s s (Err NO_MEMORY)
side_unsplit reading (Root r) = (refl, (refl, inl refl))
side_unsplit reading (Pass p) = (refl, inr refl)
side_unsplit reading (Rest l) = (refl, inr refl)

pub unsplit : (h : Held) → HeldSplit h h (Err NO_MEMORY)
unsplit Nothing = inr refl
unsplit (Queue s) = side_unsplit queue_reading s
unsplit (Stack s) = side_unsplit stack_reading s
unsplit (Ring s) = side_unsplit ring_reading s
unsplit (Producer p) = (refl, inr refl)
unsplit (Consumer c) = (refl, inr refl)

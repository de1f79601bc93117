use Rattle.lockfree_c.specs.Held.{AreRingLimits, IsNewRing}
use Rattle.lockfree_c.proofs.New.{new_in}
use Rattle.lockfree_c.proofs.creating.make_ring.Goals as goal

pub returns-clause-gives : goal.returns-clause-gives
returns-clause-gives c = new_in (IsNewRing c.args.capacity c.args.laps c.args.passes) (AreRingLimits c.args.capacity c.args.laps c.args.passes) c.args.root.now c.place.new.root c.place.result (λ b. b.value) c.boxed_ring.result c.if-root.false c.boxed_ring.ensures c.place.ensures

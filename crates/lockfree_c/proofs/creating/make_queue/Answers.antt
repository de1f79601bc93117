use Rattle.lockfree_c.specs.Held.{AreLimits, IsNewQueue}
use Rattle.lockfree_c.proofs.New.{new_in}
use Rattle.lockfree_c.proofs.creating.make_queue.Goals as goal

pub returns-clause-gives : goal.returns-clause-gives
returns-clause-gives c = new_in (IsNewQueue c.args.capacity c.args.tag_limit) (AreLimits c.args.capacity c.args.tag_limit) c.args.root.now c.place.new.root c.place.result (λ b. b.value) c.boxed_queue.result c.if-root.false c.boxed_queue.ensures c.place.ensures

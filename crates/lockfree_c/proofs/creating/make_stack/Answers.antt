use Rattle.lockfree_c.specs.Held.{AreLimits, IsNewStack}
use Rattle.lockfree_c.proofs.New.{new_in}
use Rattle.lockfree_c.proofs.creating.make_stack.Goals as goal

pub returns-clause-gives : goal.returns-clause-gives
returns-clause-gives c = new_in (IsNewStack c.args.capacity c.args.tag_limit) (AreLimits c.args.capacity c.args.tag_limit) c.args.root.now c.place.new.root c.place.result (λ b. b.value) c.boxed_stack.result c.if-root.false c.boxed_stack.ensures c.place.ensures

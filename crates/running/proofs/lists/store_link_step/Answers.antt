use Rattle.running.proofs.Going.{steps_so}
use Rattle.running.proofs.lists.store_link_step.Goals as goal

pub store_link-requires-clause-may : goal.store_link-requires-clause-may
store_link-requires-clause-may g c = (c.requires.access, c.requires.plain)

pub returns-clause-seat : goal.returns-clause-seat
returns-clause-seat g c = (c.store_link.ensures.seat.0, c.store_link.ensures.step.0)

pub returns-clause-steps : goal.returns-clause-steps
returns-clause-steps g c = λ begun l going. steps_so (g.met.M.Lawful.lawful c.args.table.now.key) going c.store_link.ensures.step.1.1.said

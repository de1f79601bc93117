use Rattle.running.proofs.Going.{steps_so}
use Rattle.running.proofs.lists.load_top_step.Goals as goal

pub load_top-requires-clause-may : goal.load_top-requires-clause-may
load_top-requires-clause-may g c = (c.requires.access, tt)

pub returns-clause-seat : goal.returns-clause-seat
returns-clause-seat g c = (c.load_top.ensures.seat.0, c.load_top.ensures.step.0)

pub returns-clause-steps : goal.returns-clause-steps
returns-clause-steps g c = λ begun l going. steps_so (g.met.M.Lawful.lawful c.args.table.now.key) going c.load_top.ensures.step.1.said

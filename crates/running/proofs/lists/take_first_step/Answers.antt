use Rattle.std.proofs.Common.{Bool, ap}
use Rattle.index_list.specs.declared.change.Change.TheVariants.{Take}
use Rattle.running.specs.Lists.{side}
use Rattle.running.proofs.Listing.{missed, brought}
use Rattle.running.proofs.lists.take_first_step.Goals as goal

pub try_take-requires-clause-may : goal.try_take-requires-clause-may
try_take-requires-clause-may g c = (c.requires.access, tt)

pub returns-clause-won : goal.returns-clause-won
returns-clause-won g c h = brought (g.met.M.Lawful.lawful c.args.table.now.key) g.M.ListMachine.lists (ap (λ (b : Bool). side b (Take c.args.next)) c.requires.carries) (c.try_take.ensures.won h)

pub returns-clause-lost : goal.returns-clause-lost
returns-clause-lost g c h = missed (g.met.M.Lawful.lawful c.args.table.now.key) g.M.ListMachine.lists (c.try_take.ensures.lost h)

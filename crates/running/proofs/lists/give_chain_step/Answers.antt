use Rattle.std.proofs.Common.{Bool, [], ap, subst, sym}
use Rattle.index_list.specs.declared.change.Change.TheVariants.{GiveChain}
use Rattle.running.specs.Lists.{side, Rests}
use Rattle.running.proofs.Listing.{no_more, missed, returned}
use Rattle.running.proofs.lists.give_chain_step.Goals as goal

pub try_give_chain-requires-clause-may : goal.try_give_chain-requires-clause-may
try_give_chain-requires-clause-may g c = (c.requires.access, tt)

pub try_give_chain-requires-clause-slots : goal.try_give_chain-requires-clause-slots
try_give_chain-requires-clause-slots g c = let a = c.args in let me = a.seat.now.me in
    (me.1, subst (λ (b : Bool). Rests (g.M.Machine.machine c.args.table.now.key) g.M.ListMachine.lists b a.operation.now me.0 me.1) (sym c.requires.carries) c.requires.fits, ([], no_more me.1))

pub returns-clause-won : goal.returns-clause-won
returns-clause-won g c h = returned (g.met.M.Lawful.lawful c.args.table.now.key) g.M.ListMachine.lists (ap (λ (b : Bool). side b (GiveChain c.args.first)) c.requires.carries) c.requires.fits (c.try_give_chain.ensures.won h)

pub returns-clause-lost : goal.returns-clause-lost
returns-clause-lost g c h = missed (g.met.M.Lawful.lawful c.args.table.now.key) g.M.ListMachine.lists (c.try_give_chain.ensures.lost h)

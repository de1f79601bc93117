use Rattle.running.proofs.Listing.{no_indexes, missed, bare_seat, bare_won}
use Rattle.running.proofs.lists.shut_step.Goals as goal

pub try_shut-requires-clause-may : goal.try_shut-requires-clause-may
try_shut-requires-clause-may g c = (c.requires.access, tt)

pub returns-clause-seat : goal.returns-clause-seat
returns-clause-seat g c = let t = c.try_shut in
    (t.ensures.seat.0, bare_seat (g.met.M.Lawful.lawful c.args.table.now.key) g.M.ListMachine.lists t.result t.ensures.won (λ xs. no_indexes (g.M.ListMachine.lists.layout.carries c.args.list)) t.ensures.lost)

pub returns-clause-won : goal.returns-clause-won
returns-clause-won g c = let t = c.try_shut in
    bare_won (g.met.M.Lawful.lawful c.args.table.now.key) g.M.ListMachine.lists t.result t.ensures.won (λ xs. no_indexes (g.M.ListMachine.lists.layout.carries c.args.list))

pub returns-clause-lost : goal.returns-clause-lost
returns-clause-lost g c h = (missed (g.met.M.Lawful.lawful c.args.table.now.key) g.M.ListMachine.lists (c.try_shut.ensures.lost h)).1

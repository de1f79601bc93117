use Rattle.running.proofs.Listing.{none_carried, missed, bare_seat, bare_won}
use Rattle.running.proofs.lists.take_bare_step.Goals as goal

pub try_take-requires-clause-may : goal.try_take-requires-clause-may
try_take-requires-clause-may g c = (c.requires.access, tt)

pub returns-clause-seat : goal.returns-clause-seat
returns-clause-seat g c = let t = c.try_take in
    (t.ensures.seat.0, bare_seat (g.met.M.Lawful.lawful c.args.table.now.key) g.M.ListMachine.lists t.result t.ensures.won (λ xs. none_carried _ c.requires.carries) t.ensures.lost)

pub returns-clause-won : goal.returns-clause-won
returns-clause-won g c = let t = c.try_take in
    bare_won (g.met.M.Lawful.lawful c.args.table.now.key) g.M.ListMachine.lists t.result t.ensures.won (λ xs. none_carried _ c.requires.carries)

pub returns-clause-lost : goal.returns-clause-lost
returns-clause-lost g c h = (missed (g.met.M.Lawful.lawful c.args.table.now.key) g.M.ListMachine.lists (c.try_take.ensures.lost h)).1

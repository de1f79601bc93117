use Rattle.running.proofs.Meeting.{peeks_allowed}
use Rattle.running.proofs.seats.peek.Goals as goal

pub load_as-requires : goal.load_as-requires
load_as-requires g c = record { table = c.requires.table.0; word = c.requires.table.1; allowed = peeks_allowed (g.met.M.Lawful.lawful c.args.table.now.key) c.args.table.now.table_id.slots c.args.seat.now.id c.args.at c.args.seat.now.me c.requires.may }

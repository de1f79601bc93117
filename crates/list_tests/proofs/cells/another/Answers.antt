use Rattle.std.proofs.Common.{arith}
use Rattle.cell_list.proofs.Laws.{joined}
use Rattle.list_tests.proofs.cells.another.Goals as goal

pub split_seat-requires : goal.split_seat-requires
split_seat-requires c = let four = c.requires.1 in (c.requires.0, omega arith, joined _ _ c.args.seat.now.id c.args.seat.now.me.0)

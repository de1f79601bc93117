use Rattle.std.proofs.Common.{subst}
use Rattle.tagged_index.specs.declared.limit.Limits.{Limits}
use Rattle.running.specs.Passes.{pass_line, root_line}
use Rattle.ring_table.specs.Seats.{names}
use Rattle.ring_table.specs.declared.line.SeatLine.{SeatLine}
use Rattle.ring_queue.specs.Calls.{machine_of}
use Rattle.ring_queue.specs.code.Roots.{MayTake}
use Rattle.ring_queue.proofs.life.ring.RingQueue.join.Goals as goal

pub take_back-requires : goal.take_back-requires
take_back-requires g c =
    let q = c.args.self.now in
    let root = c.args.parent.now in
    let joined = c.join.new.parent in
    subst (λ (k : Limits). MayTake g.row.T.Denot k root.stock c.args.by.kept) q.keyed (record {
      out = joined.out;
      line = root_line names root.root;
      quiet = pass_line names c.args.by.pass;
      stocks = c.requires.root.stocks;
      has = c.requires.pass.keeps;
      after = subst (λ (l : SeatLine g.row.T.Denot). (machine_of q).core.IsStock joined.out l) c.join.ensures.lines c.join.ensures.root.stock;
    })

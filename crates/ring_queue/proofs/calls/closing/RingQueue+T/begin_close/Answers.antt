use Rattle.running.proofs.Back.{runs_from}
use Rattle.ring_queue.specs.code.Closing.{mark_account}
use Rattle.ring_queue.specs.Calls.{keeps, machine_of}
use Rattle.ring_queue.proofs.calls.closing.RingQueue+T.begin_close.Goals as goal

pub returns-clause-ran : goal.returns-clause-ran
returns-clause-ran g c =
    let q = c.args.self.now in
    let begun = c.begin.ensures in
    runs_from (machine_of q) (mark_account q.table.shared.key) keeps q.table.shared.table_id c.args.by c.requires c.begin.result begun.under_way begun.pass

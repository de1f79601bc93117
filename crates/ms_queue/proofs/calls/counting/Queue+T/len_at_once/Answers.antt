use Rattle.ms_queue.proofs.Returns.{count_tried}
use Rattle.ms_queue.proofs.FastPath.{at_most}
use Rattle.ms_queue.proofs.calls.counting.Queue+T.len_at_once.Goals as goal

pub returns-clause-gives : goal.returns-clause-gives
returns-clause-gives g c = count_tried c.args.self.now c.args.by c.leave.result (c.leave.ensures.rested c.args.by c.requires c.len_fast-first.ensures.ran)

pub returns-clause-took : goal.returns-clause-took
returns-clause-took g c = at_most c.len_fast-first.result.0 _ c.len_fast-first.ensures.took c.leave.result c.leave.ensures.same

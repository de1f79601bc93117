use Rattle.bounded_model.specs.Calls.{CallGives}
use Rattle.running.proofs.Back.{stepped}
use Rattle.ring_queue.specs.code.Machine.{is_call}
use Rattle.ring_queue.specs.code.Every.{every_account}
use Rattle.ring_queue.specs.Calls.{keeps, machine_of, shape_of}
use Rattle.ring_queue.proofs.stepwise.RingQueueStepwise.step.Goals as goal

pub returns : goal.returns
returns g c =
    let q = c.args.self.now in
    stepped (machine_of q) (every_account q.table.shared.key) keeps q.table.shared.table_id is_call (λ call begun now r. CallGives (shape_of q) begun call now r) c.args.op c.step.result c.step.ensures

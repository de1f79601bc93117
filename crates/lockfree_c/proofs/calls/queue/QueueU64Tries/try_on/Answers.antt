use Rattle.std.proofs.Common.{subst}
use Rattle.bounded_model.specs.Calls.{CallGives}
use Rattle.ms_queue.specs.code.Machine.{is_call}
use Rattle.ms_queue.specs.code.Every.{every_account}
use Rattle.ms_queue.specs.Calls.{keeps, machine_of, shape_of}
use Rattle.lockfree_c.specs.Calls.{TookFor}
use Rattle.lockfree_c.specs.Queues.{queue_reading}
use Rattle.lockfree_c.proofs.Runs.{took_for, tried_for}
use Rattle.lockfree_c.proofs.calls.queue.QueueU64Tries.try_on.Goals as goal

pub returns-clause-tried : goal.returns-clause-tried
returns-clause-tried c =
    let on = c.args.self.now in
    tried_for (machine_of on) (every_account on.table.shared.key) keeps on.table.shared.table_id is_call (λ call begun now r. CallGives (shape_of on) begun call now r) c.steps_for.result c.args.operation c.run_for.result c.run_for.ensures

pub returns-clause-took : goal.returns-clause-took
returns-clause-took c =
    let on = c.args.self.now in
    let took = took_for (machine_of on) (every_account on.table.shared.key) keeps on.table.shared.table_id is_call (λ call begun now r. CallGives (shape_of on) begun call now r) c.steps_for.result c.args.operation c.run_for.result c.run_for.ensures in
    subst (λ n. TookFor (queue_reading on) n c.args.operation c.run_for.result) c.steps_for.ensures took

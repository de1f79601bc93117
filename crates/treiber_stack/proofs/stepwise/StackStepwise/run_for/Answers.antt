use Rattle.bounded_model.specs.Calls.{CallGives}
use Rattle.running.proofs.Back.{stepped_for}
use Rattle.treiber_stack.specs.code.Machine.{is_call}
use Rattle.treiber_stack.specs.code.Every.{every_account}
use Rattle.treiber_stack.specs.Calls.{keeps, machine_of, shape_of}
use Rattle.treiber_stack.proofs.stepwise.StackStepwise.run_for.Goals as goal

pub returns-clause-ran : goal.returns-clause-ran
returns-clause-ran g c =
    let q = c.args.self.now in
    stepped_for (machine_of q) (every_account q.table.shared.key) keeps q.table.shared.table_id is_call (λ call begun now r. CallGives (shape_of q) begun call now r) c.args.steps c.args.op c.run_for.result c.run_for.ensures

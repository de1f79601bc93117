use Rattle.std.proofs.Common.{refl}
use Rattle.stack_table.specs.declared.operation.Operation.TheVariants.{Look as LookFirst}
use Rattle.running.proofs.Back.{new_call}
use Rattle.treiber_stack.specs.Calls.{machine_with}
use Rattle.treiber_stack.proofs.life.stack.Stack.look.Goals as goal

pub returns : goal.returns
returns g c =
    let q = c.args.self.now in
    let b = c.whole.ensures.rested c.args.by c.requires c.look_fast-first.ensures.ran in
    let gives = b.gives refl in
    record {
      of = b.of;
      gives = gives.0;
      answered = gives.1;
      ran = record { operation = LookFirst; call = refl; ran = b.ran };
      new = new_call (machine_with g.D.Tie.rule q) q.table.shared.table_id c.args.by c.requires.on c.whole.result.0 (c.whole.ensures.new c.args.by.pass c.look_fast-first.ensures.ran);
    }

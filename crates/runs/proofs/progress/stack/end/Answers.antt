use Rattle.std.proofs.Common.{arith}
use Rattle.treiber_stack.specs.Calls.{room_of, limit_of}
use Rattle.runs.proofs.stack.Stacks.{linearizable}
use Rattle.runs.proofs.stack.Total.{total_work}
use Rattle.runs.proofs.progress.stack.end.Goals as goal

pub returns-clause-run : goal.returns-clause-run
returns-clause-run g c =
    let stack = c.args.stack in
    let limits = stack.table.shared.key in
    let run = c.finish.ensures.all.run in
    record {
      run = run;
      extends = c.finish.ensures.all.extends;
      linearizable = linearizable (room_of stack) (limit_of stack) (let e = limits.some_capacity in omega arith) (let e = limits.capacity_in_range in omega arith) run.acts run.allowed;
      work = λ nobody. total_work (room_of stack) (limit_of stack) (let e = limits.some_capacity in omega arith) (let e = limits.capacity_in_range in omega arith) _ _ run c.requires.on.sound nobody;
    }

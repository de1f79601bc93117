use Rattle.std.proofs.Common.{arith}
use Rattle.ms_queue.specs.Calls.{room_of, limit_of}
use Rattle.runs.proofs.queue.Queues.{linearizable}
use Rattle.runs.proofs.queue.Total.{total_work}
use Rattle.runs.proofs.progress.queue.end.Goals as goal

pub returns-clause-run : goal.returns-clause-run
returns-clause-run g c =
    let queue = c.args.queue in
    let limits = queue.table.shared.key in
    let run = c.finish.ensures.all.run in
    record {
      run = run;
      extends = c.finish.ensures.all.extends;
      linearizable = linearizable (room_of queue) (limit_of queue) (let e = limits.some_capacity in omega arith) (let e = limits.capacity_in_range in omega arith) (let e = limits.some_tag_limit in omega arith) run.acts run.allowed;
      work = λ nobody. total_work (room_of queue) (limit_of queue) (let e = limits.some_capacity in omega arith) (let e = limits.capacity_in_range in omega arith) (let e = limits.some_tag_limit in omega arith) _ _ run c.requires.on.sound nobody;
    }

pub returns-clause-work : goal.returns-clause-work
returns-clause-work g c = λ nobody.
    let queue = c.args.queue in
    let limits = queue.table.shared.key in
    (total_work (room_of queue) (limit_of queue) (let e = limits.some_capacity in omega arith) (let e = limits.capacity_in_range in omega arith) (let e = limits.some_tag_limit in omega arith) _ _ c.finish.ensures.run c.requires.on.sound nobody).fees

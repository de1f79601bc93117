use Rattle.std.proofs.Common.{arith}
use Rattle.ring_queue.specs.Calls.{room_of, laps_of, passes_of}
use Rattle.runs.proofs.ring.Rings.{linearizable}
use Rattle.runs.proofs.ring.Total.{total_work}
use Rattle.runs.proofs.progress.ring.end.Goals as goal

pub returns-clause-run : goal.returns-clause-run
returns-clause-run g c =
    let ring = c.args.ring in
    let limits = ring.table.shared.key in
    let run = c.finish.ensures.all.run in
    record {
      run = run;
      extends = c.finish.ensures.all.extends;
      linearizable = linearizable (room_of ring) (laps_of ring) (passes_of ring) run.acts (let e = limits.some_capacity in omega arith) run.allowed run.fresh;
      work = λ nobody. total_work (room_of ring) (laps_of ring) (passes_of ring) (let e = limits.some_capacity in omega arith) _ _ run c.requires.on.sound nobody;
    }

pub returns-clause-work : goal.returns-clause-work
returns-clause-work g c = λ nobody.
    let ring = c.args.ring in
    let limits = ring.table.shared.key in
    (total_work (room_of ring) (laps_of ring) (passes_of ring) (let e = limits.some_capacity in omega arith) _ _ c.finish.ensures.run c.requires.on.sound nobody).fees

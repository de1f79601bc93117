use Rattle.running.proofs.Back.{new_call, runs_from}
use Rattle.ms_queue.specs.code.Closing.{close_account}
use Rattle.ms_queue.specs.Calls.{keeps, machine_with}
use Rattle.ms_queue.proofs.life.queue.Queue.close_as.Goals as goal

pub whole-requires : goal.whole-requires
whole-requires g c =
    let q = c.args.self.now in
    let e = c.begin-pass.ensures in
    (c.args.by.pass, runs_from (machine_with g.D.Tie.rule q) (close_account q.table.shared.key) keeps q.table.shared.table_id c.args.by c.requires.pass c.begin-pass.result e.under_way e.pass)

pub returns : goal.returns
returns g c =
    let q = c.args.self.now in
    let e = c.begin-pass.ensures in
    let ran = runs_from (machine_with g.D.Tie.rule q) (close_account q.table.shared.key) keeps q.table.shared.table_id c.args.by c.requires.pass c.begin-pass.result e.under_way e.pass in
    let b = c.whole.ensures.rested c.args.by c.requires.pass ran in
    let gives = b.gives e.same.0 in
    record {
      of = b.of;
      tied = b.of.on.rests.tied;
      gives = gives.0;
      answered = gives.1;
      ran = record { operation = c.begin-pass.result.operation; call = e.same.0; ran = b.ran };
      new = new_call (machine_with g.D.Tie.rule q) q.table.shared.table_id c.args.by c.requires.pass.on c.whole.result.0 (c.whole.ensures.new c.args.by.pass ran);
    }

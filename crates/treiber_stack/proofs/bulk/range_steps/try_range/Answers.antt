use Rattle.treiber_stack.proofs.RangeTrying.{begins, stops_so, ran_on}
use Rattle.treiber_stack.proofs.bulk.range_steps.try_range.Goals as goal

pub try_for-requires-clause-ran : goal.try_for-requires-clause-ran
try_for-requires-clause-ran g c =
    let a = c.args in
    let b = c.of-begun in
    (a.by, begins g.D.Tie.rule a.on.now a.operation.now a.by c.requires.0 a.held a.at b.result b.ensures.0 b.ensures.1 c.requires.1)

pub returns-in-Again-clause-ran : goal.returns-in-Again-clause-ran
returns-in-Again-clause-ran g c vs is =
    let a = c.args in
    let b = c.of-begun in
    let r = c.in-Again in
    ran_on g.D.Tie.rule a.on.now a.operation.now a.by vs a.held a.at b.result b.ensures.0 b.ensures.1 is r.pass r.range
    (r.ensures.ran a.by (begins g.D.Tie.rule a.on.now a.operation.now a.by vs a.held a.at b.result b.ensures.0 b.ensures.1 is))
    (r.ensures.told (record { begun = b.result; held = a.held; at = a.at }) (λ x t. t))

pub returns-in-Done-clause-ran : goal.returns-in-Done-clause-ran
returns-in-Done-clause-ran g c vs is =
    let a = c.args in
    let b = c.of-begun in
    let r = c.in-Done in
    stops_so g.D.Tie.rule a.on.now a.operation.now a.by vs a.held a.at b.result b.ensures.0 b.ensures.1 is r.pass r.stopped
    (r.ensures.told (record { begun = b.result; held = a.held; at = a.at }) (λ x t. t))
    (r.ensures.ran a.by (begins g.D.Tie.rule a.on.now a.operation.now a.by vs a.held a.at b.result b.ensures.0 b.ensures.1 is)).0

pub returns-in-Again-clause-took : goal.returns-in-Again-clause-took
returns-in-Again-clause-took g c = c.in-Again.ensures.took

pub returns-in-Done-clause-took : goal.returns-in-Done-clause-took
returns-in-Done-clause-took g c = c.in-Done.ensures.took

use Rattle.ms_queue.specs.Calls.{root_in}
use Rattle.example_rule.proofs.Opening.{first_producer}
use Rattle.example_rule.proofs.stream.open.Goals as goal

pub returns : goal.returns
returns c =
    let given = c.in-Some-split.ensures.gives in
    (first_producer c.in_ok-stream.stream (root_in c.in_ok-stream.root) (root_in c.split.new.parent) c.in-Some-split.pass c.in_ok-stream.ensures.2 given.0 given.1, c.in-Some-split-2.ensures.gives.0)

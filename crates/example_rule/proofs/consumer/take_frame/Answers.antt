use Rattle.ms_queue.specs.Calls.{pass_in}
use Rattle.example_rule.proofs.Taking.{took_its_number}
use Rattle.example_rule.proofs.consumer.take_frame.Goals as goal

pub returns-clause-value : goal.returns-clause-value
returns-clause-value g c = took_its_number c.args.stream.now (pass_in c.args.by) c.take_as.result.0 c.take_as.result.1 c.take_as.ensures.gives c.take_as.ensures.of

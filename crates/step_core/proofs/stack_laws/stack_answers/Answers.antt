use Rattle.step_core.proofs.stack.Run.{all_done, none_unanswered}
use Rattle.step_core.proofs.stack_laws.stack_answers.Goals as goal

pub returns : goal.returns
returns g c = record { answered = none_unanswered; done = all_done }

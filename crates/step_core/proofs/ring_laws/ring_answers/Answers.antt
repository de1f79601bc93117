use Rattle.step_core.proofs.ring.Run.{all_done, none_unanswered}
use Rattle.step_core.proofs.ring_laws.ring_answers.Goals as goal

pub returns : goal.returns
returns g c = record { answered = none_unanswered; done = all_done }

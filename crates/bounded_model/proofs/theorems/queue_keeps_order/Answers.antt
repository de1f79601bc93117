use Rattle.std.proofs.Common.{◌∙◌}
use Rattle.bounded_model.proofs.Balance.{values_of-sent, first_in_first_out}
use Rattle.bounded_model.proofs.Numbers.{sends_count, takes_count}
use Rattle.bounded_model.proofs.theorems.queue_keeps_order.Goals as goal

pub returns-clause-values : goal.returns-clause-values
returns-clause-values g c = λ shape h fifo legal. values_of-sent h ∙ first_in_first_out shape h fifo legal

pub returns-clause-puts : goal.returns-clause-puts
returns-clause-puts g c = λ shape h fifo legal. (sends_count shape h fifo legal).1

pub returns-clause-takes : goal.returns-clause-takes
returns-clause-takes g c = λ shape h fifo legal. (takes_count shape h fifo legal).1

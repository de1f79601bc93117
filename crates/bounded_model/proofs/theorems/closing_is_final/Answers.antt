use Rattle.bounded_model.proofs.Staying.{closed_ends_puts, shut_ends_takes, one_close, one_shut}
use Rattle.bounded_model.proofs.theorems.closing_is_final.Goals as goal

pub returns-clause-puts : goal.returns-clause-puts
returns-clause-puts g c = closed_ends_puts

pub returns-clause-takes : goal.returns-clause-takes
returns-clause-takes g c = shut_ends_takes

pub returns-clause-one_close : goal.returns-clause-one_close
returns-clause-one_close g c = one_close

pub returns-clause-one_shut : goal.returns-clause-one_shut
returns-clause-one_shut g c = one_shut

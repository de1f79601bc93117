use Rattle.runs.proofs.WrongTables.{two_histories-refused, one_pass_twice-refused, own_unseen-refused}
use Rattle.runs.proofs.shown.seats_near_misses.Goals as goal

pub returns : goal.returns
returns c = record { two_histories_refused = two_histories-refused; one_pass_twice_refused = one_pass_twice-refused; own_unseen_refused = own_unseen-refused }

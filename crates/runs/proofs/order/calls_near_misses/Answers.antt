use Rattle.runs.proofs.WrongCalls.{early_point-refused, late_call-refused, late_point-refused, out_of_turn-refused}
use Rattle.runs.proofs.order.calls_near_misses.Goals as goal

pub returns : goal.returns
returns c = record {
  out_of_turn_refused = out_of_turn-refused;
  late_call_refused = late_call-refused;
  early_point_refused = early_point-refused;
  late_point_refused = late_point-refused;
}

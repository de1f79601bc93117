use Rattle.runs.proofs.queue.WrongActs.{idle_step-refused, hearing_in_a_look-refused, one_look-done, forgotten_answer-refused, forgotten_step-refused}
use Rattle.runs.proofs.queue_laws.headline.queue_headline_near_misses.Goals as goal

pub returns : goal.returns
returns c = record {
  idle_step_refused = idle_step-refused;
  hearing_in_a_look_refused = hearing_in_a_look-refused;
  one_look_done = one_look-done;
  forgotten_answer_refused = forgotten_answer-refused;
  forgotten_step_refused = forgotten_step-refused;
}

-- What a ring's call has answered is worth what the call costs.
use Rattle.std.proofs.Common.{◌≡◌, ℕ, ◌+◌, ◌*◌, ◌<◌, ◌≤◌, true, List, Some, None, Ok, Err, subst, arith}
use Rattle.std.proofs.lemmas.Bool.{false≢true}
use mathlib.Core.Option.{Option, some}
use lib.ListN.{get_elem?}
use Rattle.bounded_model.specs.declared.history.Event.{Event}
use Rattle.bounded_model.specs.declared.views.Answered.{Answered}
use Rattle.bounded_model.specs.declared.views.Answered.TheVariants.{Put, Take, Fold, Close, Shut, Look, Len, Gauge, Heard}
use Rattle.bounded_model.specs.Histories.{own}
use Rattle.machine.specs.Seats.{Acts}
use Rattle.machine.proofs.Sums.{at_map}
use Rattle.ring_machine.specs.declared.lines.Answer.{Answer}
use Rattle.ring_machine.specs.declared.lines.Answer.TheVariants.{Put as AnswerPut, Take as AnswerTake, Close as AnswerClose, Shut as AnswerShut, Look as AnswerLook, Len as AnswerLen, Gauge as AnswerGauge}
use Rattle.ring_machine.specs.declared.lines.Call.{Call}
use Rattle.ring_machine.specs.declared.lines.Call.TheVariants.{Put as CallPut, Take as CallTake, Close as CallClose, Shut as CallShut, Look as CallLook, Len as CallLen, Gauge as CallGauge}
use Rattle.ring_machine.specs.declared.lines.Line.{Line}
use Rattle.ring_machine.specs.declared.lines.Line.TheVariants.{Idle}
use Rattle.ring_machine.specs.Deeds.{Makes}
use Rattle.ring_machine.specs.Machine as ring
use Rattle.ring_table.specs.declared.line.SeatLine.{SeatLine}
use Rattle.ring_table.specs.declared.line.SeatLine.TheVariants.{At, Stock}
use Rattle.ring_table.specs.Core.{core, reply_at}
use Rattle.ring_table.specs.Lines.{answered}
use Rattle.ring_table.specs.Seats.{is_idle, names}
use Rattle.running.specs.Acts.{AllFresh}
use Rattle.runs.specs.Runs.{Below}
use Rattle.step_core.specs.ring.Costs.{cost}
use Rattle.step_core.proofs.ring.Run.{Story as LineStory}
use Rattle.runs.specs.ring.Machine.{From, Pass}
use Rattle.runs.specs.ring.Bounded.{state_after}
use Rattle.runs.specs.ring.Work.{fee}
use Rattle.runs.proofs.ring.Follows.{goes}
use Rattle.runs.proofs.ring.Pool.{Goes}
use Rattle.runs.proofs.ring.PoolRule.{Story}
use Rattle.runs.proofs.ring.Rings.{Allowed, follows}

module _ {T : Type 0} (k : ℕ) where
  worth_answer : (p : ℕ) (call : Call T) (a : Answer T) (events : List (Event T)) → Makes p call a events → cost k call ≤ fee k (answered a)
  worth_answer p (CallPut v) (AnswerPut (Ok n)) events made = omega arith
  worth_answer p (CallPut v) (AnswerPut (Err why)) events made = omega arith
  worth_answer p CallTake (AnswerTake r) events made = omega arith
  worth_answer p CallClose (AnswerClose b) events made = omega arith
  worth_answer p CallShut (AnswerShut b) events made = omega arith
  worth_answer p CallLook (AnswerLook b) events made = omega arith
  worth_answer p CallLen (AnswerLen n) events made = omega arith
  worth_answer p CallGauge (AnswerGauge closed used) events made = omega arith
  worth_answer p call a events made = absurd made

  pub fee_small : (a : Answered T) → fee k a ≤ 17 + 24 * k
  fee_small (Put r) = omega arith
  fee_small (Take r) = omega arith
  fee_small (Fold r) = omega arith
  fee_small (Close b) = omega arith
  fee_small (Shut b) = omega arith
  fee_small (Look b) = omega arith
  fee_small (Len n) = omega arith
  fee_small (Gauge closed used) = omega arith
  fee_small Heard = omega arith

module _ {T : Type 0} (n laps passes : ℕ) (k : ℕ) where
  worth_line : (p : ℕ) (call : Call T) (l : Line T) (b seen : List (Event T)) → LineStory n laps (n + passes) p (some call) l b seen → ring.is_idle l ≡ true → cost k call ≤ fee k (reply_at (At l))
  worth_line p call (Idle c (Some a)) b seen story idle = worth_answer k p call a (own p story.1.between) story.1.made
  worth_line p call (Idle c None) b seen story idle = absurd story.1.made
  worth_line p call l b seen story idle = absurd (false≢true idle)

  worth_seat : (p : ℕ) (from : From T) (l : SeatLine T) (b seen : List (Event T)) → Story n laps (n + passes) p (some from) (Goes l) b seen → is_idle l ≡ true → cost k from.1 ≤ fee k (reply_at l)
  worth_seat p from (At l) b seen story idle = worth_line p from.1 l b seen story idle
  worth_seat p from (Stock cs) b seen story idle = absurd story

  -- A pass that is between two calls, after acts in which each was begun with a cell that was free
  module _ (some_slot : 0 < n) (numbers : ℕ) (acts : Acts (SeatLine T)) (low : Below numbers acts) (allowed : Allowed n laps passes acts) (fresh : AllFresh names (core T n laps passes) acts) where
    pub worth : (p : ℕ) (v : Pass T) (from : From T) → get_elem? (state_after n laps passes numbers acts).passes p ≡ some v → v.call ≡ some from → is_idle v.line ≡ true → cost k from.1 ≤ fee k (reply_at v.line)
    worth p v from at is idle =
        let f = follows n laps passes some_slot numbers acts low allowed fresh in
        worth_seat p from v.line v.begun v.seen
        (subst (λ (o : Option (From T)). Story n laps (n + passes) p o (Goes v.line) v.begun v.seen) is (f.keeps.story p (goes v) (at_map goes (state_after n laps passes numbers acts).passes p v at)))
        idle

use Rattle.std.proofs.Common.{[], sym, ◌∙◌}
use Rattle.std.proofs.lemmas.Bool.{not-false, not-true}
use Rattle.ring_queue.specs.code.Closing.{aim_of}
use Rattle.ring_queue.proofs.Closes.{mark_goes, mark_refused, mark_meets, mark_loses, mark_wins}
use Rattle.ring_queue.proofs.code.closing.MarkAtCodeRingQueueSeatLineOperationRingedAnsweredBool0.next.Goals as goal

pub returns-in-On-clause-leads : goal.returns-in-On-clause-leads
returns-in-On-clause-leads g c = let a = c.args in mark_goes a.on.now c.in-Walking.is a.outcome a._seat.now.me.1 c.requires.came c.in-On.at (c.in-On.ensures (aim_of c.in-Walking.mark) [] a._seat.now.me.1 c.full.ensures)

pub returns-in-Lost-clause-leads : goal.returns-in-Lost-clause-leads
returns-in-Lost-clause-leads g c = let a = c.args in mark_goes a.on.now c.in-Walking.is a.outcome a._seat.now.me.1 c.requires.came c.in-Lost.at (c.in-Lost.ensures (aim_of c.in-Walking.mark) [] a._seat.now.me.1 c.full.ensures)

pub returns-then-is_set-clause-leads : goal.returns-then-is_set-clause-leads
returns-then-is_set-clause-leads g c = let a = c.args in mark_refused a.on.now c.in-Walking.is a.outcome a._seat.now.me.1 c.requires.came c.in-Done.end (c.in-Done.ensures (aim_of c.in-Walking.mark) [] a._seat.now.me.1 c.full.ensures) (sym c.is_set.ensures ∙ c.if-is_set.true)

pub returns-else-is_set-clause-leads : goal.returns-else-is_set-clause-leads
returns-else-is_set-clause-leads g c = let a = c.args in mark_meets a.on.now c.in-Walking.is a.outcome a._seat.now.me.1 c.requires.came c.in-Done.end (c.in-Done.ensures (aim_of c.in-Walking.mark) [] a._seat.now.me.1 c.full.ensures) (sym c.is_set.ensures ∙ c.if-is_set.false)

pub returns-then-not-outcome-clause-leads : goal.returns-then-not-outcome-clause-leads
returns-then-not-outcome-clause-leads g c = let a = c.args in mark_loses a.on.now c.in-Setting.end a.outcome a._seat.now.me.1 c.in-Setting.is c.requires.knows (not-true a.outcome.won c.if-not-outcome.true)

pub returns-else-not-outcome-clause-leads : goal.returns-else-not-outcome-clause-leads
returns-else-not-outcome-clause-leads g c = let a = c.args in mark_wins a.on.now c.in-Setting.end a.outcome a._seat.now.me.1 c.in-Setting.is (not-false a.outcome.won c.if-not-outcome.false)

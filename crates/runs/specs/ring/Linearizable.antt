-- The answer in the response of a pass whose seat is at a line.
use mathlib.Core.Option.{Option, none}
use Rattle.ring_machine.specs.declared.lines.Answer.{Answer}
use Rattle.ring_table.specs.declared.line.SeatLine.{SeatLine}
use Rattle.ring_table.specs.declared.line.SeatLine.TheVariants.{At, Stock}
use Rattle.step_core.specs.ring.Object.{answer}

abbrev pub answer_at : {T : Type 0} → SeatLine T → Option (Answer T)
answer_at (At l) = answer l
answer_at (Stock cs) = none

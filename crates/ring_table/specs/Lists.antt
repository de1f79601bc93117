-- A ring has no lists of indexes.
use Rattle.std.specs.Prelude.{false, []}
use mathlib.Core.Option.{none}
use Rattle.running.specs.Lists.{Lists}
use Rattle.ring_table.specs.declared.line.SeatLine.{SeatLine}

abbrev pub lists : {T : Type 0} → Lists (SeatLine T)
lists = record { layout = record { top = λ l. 0; link = λ l i. 0; keeps = λ l. false; carries = λ l. false }; held = λ l line. []; step = λ line. none }

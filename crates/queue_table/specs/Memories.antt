-- The queue's memory, read off the words and slots of its table.
use Rattle.std.specs.Prelude.{ℕ, List, Option as Slot}
use mathlib.Core.Option.{Option}
use Rattle.queue_machine.specs.Machine.{Memory, memories}
pub use Rattle.running.specs.Tables.{at_home}
use Rattle.running.specs.Tables as tables
use Rattle.queue_table.specs.Layout.{layout}

module _ {T : Type 0} where
  abbrev pub memory_of : List ℕ → List (Option (Slot T)) → Memory T
  memory_of words homes = tables.memory_in memories (layout 0) words homes

  abbrev pub Sane : ℕ → List ℕ → List (Option (Slot T)) → Type 0
  Sane n words homes = tables.Sane (layout n) words homes

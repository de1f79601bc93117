-- The ring's memory, read off the words and slots of its table.
use Rattle.std.specs.Prelude.{ℕ, List, Option as Slot}
use mathlib.Core.Option.{Option}
use Rattle.ring_machine.specs.Machine.{Memory, memories}
use Rattle.running.specs.Tables as tables
use Rattle.ring_table.specs.Layout.{layout}

module _ {T : Type 0} (n cells : ℕ) where
  abbrev pub memory_of : List ℕ → List (Option (Slot T)) → Memory T
  memory_of words homes = tables.memory_in memories (layout n cells) words homes

  abbrev pub Sane : List ℕ → List (Option (Slot T)) → Type 0
  Sane words homes = tables.Sane (layout n cells) words homes

-- Giving a node and a cell back, by steps.
use Rattle.std.specs.Prelude.{ℕ, ◌+◌, ◌<◌, List, [], ◌∷◌, Option as Slot, None, ◌≡◌}
use Rattle.queue_machine.specs.declared.lines.Giving.{Giving}
use Rattle.queue_machine.specs.declared.lines.Freeing.{Freeing}
use Rattle.queue_machine.specs.declared.lines.Line.TheVariants.{LinkToNodes, GiveNode, LoadCellsToGive, LinkToCells, GiveCell}
use Rattle.ms_queue.specs.Prelude.{Answer, Line, LoadNodesToGive, MatchNext, Next, ends, fields_of}
use Rattle.ms_queue.specs.declared.code.giving.Held.{Held}
use Rattle.ms_queue.specs.declared.code.giving.Give.{Give}
use Rattle.ms_queue.specs.declared.code.giving.Give.TheVariants.{LoadNodes, LinkNode, GiveNode as TakeBackNode, LoadCells, LinkCell, GiveCell as TakeBackCell}

-- they are a cell and a node of a queue of n cells
abbrev pub AreHeld : ℕ → Held → Type 0
AreHeld n held = (held.cell < n) × (held.node < n + 1)

module _ {T : Type 0} where
  abbrev pub giving : Answer T → Held → Giving T
  giving a held = record { cell = held.cell; node = held.node; answer = a }

  abbrev pub freeing : Answer T → Held → Freeing T
  freeing a held = record { cell = held.cell; answer = a }

  -- the machine's line
  abbrev pub give_line : Answer T → Held → Give → Line T
  give_line a held LoadNodes = LoadNodesToGive (giving a held)
  give_line a held (LinkNode w) = LinkToNodes (giving a held) (fields_of w)
  give_line a held (TakeBackNode w) = GiveNode (giving a held) (fields_of w)
  give_line a held LoadCells = LoadCellsToGive (freeing a held)
  give_line a held (LinkCell w) = LinkToCells (freeing a held) (fields_of w)
  give_line a held (TakeBackCell w) = GiveCell (freeing a held) (fields_of w)

  -- the slots in hand: that of the cell, emptied
  abbrev pub held_slot : Held → List (ℕ × Slot T)
  held_slot held = (held.cell, None) ∷ []

  -- what a step leads to, with these slots in hand after it
  abbrev pub Gives : Line T → Answer T → Held → List (ℕ × Slot T) → Next Give (Unit {0}) → Type 0
  Gives l a held has to = MatchNext to (λ at. (l ≡ give_line a held at) × (has ≡ held_slot held)) (λ done. (l ≡ ends a) × (has ≡ []))

-- Where the cells of a ring are, and from where a step brings one into a pass's hand.
use Rattle.std.specs.Prelude.{ℕ, ◌⊎◌, List, []}
use Rattle.machine.specs.Places.{Has, InOnePlace, IsInside}
use Rattle.ring_machine.specs.declared.lines.Line.{Line}
use Rattle.ring_machine.specs.declared.lines.Line.TheVariants.{PutCell, TakeCell}
use Rattle.ring_machine.specs.Machine.{Memory, held_cells}
use Rattle.ring_machine.specs.Rule.{cells_in}

module _ {T : Type 0} where
  -- No cell is in two places: each of the `cells` cells is in one slot or the spare one of one pass. No cell is free
  abbrev pub NothingTwice : ℕ → ℕ → Memory T → List (Line T) → Type 0
  NothingTwice n cells m lines = InOnePlace held_cells cells [] (cells_in n m.slot) lines

  -- where the cell was that the next step of a line brings into its pass's hand: in a slot. Only these two lines bring
  -- one
  module _ (n : ℕ) (m : Memory T) (lines : List (Line T)) where
    abbrev pub CellWas : Line T → ℕ → Type 0
    CellWas (PutCell w v x) c = IsInside held_cells [] (cells_in n m.slot) lines c
    CellWas (TakeCell w x) c = IsInside held_cells [] (cells_in n m.slot) lines c
    CellWas l c = ⊥

    -- A step from l to l' wins only a cell that no pass had. Each cell in its pass's hand was in that hand before, or
    -- it was in no hand and in the place from which the line takes it
    pub record WinsUnheld (l l' : Line T) : Type 0 where
      pub cells : (c : ℕ) → Has (held_cells l') c → Has (held_cells l) c ⊎ CellWas l c

-- The spare cell with which an operation begins: it is free.
use Rattle.std.specs.Prelude.{◌≡◌, ◌≢◌, ℕ, ◌<◌, false}
use Rattle.machine.specs.Words.{Tagged}
use Rattle.ring_machine.specs.declared.lines.Line.{Line}
use Rattle.ring_machine.specs.Machine.{Memory, cell_of, is_idle}
use Rattle.ring_table.specs.declared.line.SeatLine.{SeatLine}
use Rattle.ring_table.specs.declared.line.SeatLine.TheVariants.{At, Stock}

module _ {T : Type 0} (n cells : ℕ) where
  -- Cell c, one of `cells` cells, is free: it is in none of n slots, and no pass in an operation has it as its spare
  -- one
  pub record IsFree (slot : ℕ → Tagged) (line : ℕ → SeatLine T) (c : ℕ) : Type 0 where
    pub is_cell : c < cells
    pub in_no_slot : (i : ℕ) → i < n → (slot i).index ≢ c
    pub with_no_pass : (q : ℕ) (l : Line T) → line q ≡ At l → is_idle l ≡ false → cell_of l ≢ c

  -- a seat that is not a pass's begins nothing
  abbrev pub FreeAt : Memory T → (ℕ → SeatLine T) → SeatLine T → Type 0
  FreeAt m line (At l) = IsFree m.slot line (cell_of l)
  FreeAt m line (Stock cs) = ⊥

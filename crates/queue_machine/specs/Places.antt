-- Where the cells and nodes of a queue are, and from where a step takes one into a pass's hand.
use Rattle.std.specs.Prelude.{ℕ, ◌+◌, ◌⊎◌, List, ◌∷◌, map}
use Rattle.machine.specs.Words.{Stands}
use Rattle.machine.specs.Places.{Has, InOnePlace, IsFree, IsInside}
use Rattle.queue_machine.specs.declared.lines.Line.{Line}
use Rattle.queue_machine.specs.declared.lines.Line.TheVariants.{TakeCell, TakeNode, TakeHead}
use Rattle.queue_machine.specs.Machine.{Memory, next_of, held_cells, held_nodes}

module _ {T : Type 0} where
  -- the free cells, the free nodes, and the nodes of the chain after the dummy, as the words have them
  pub record Listed (m : Memory T) : Type 0 where
    pub cells : List ℕ
    pub nodes : List ℕ
    pub behind : List ℕ
    pub free_cells : Stands m.clink m.cells.index cells
    pub free_nodes : Stands m.nlink m.nodes.index nodes
    pub chain : Stands (next_of m) m.head.index (m.head.index ∷ behind)

  -- the cells and the nodes that are in the chain
  abbrev pub chained_cells : (m : Memory T) → Listed m → List ℕ
  chained_cells m g = map m.cell g.behind

  abbrev pub chained_nodes : (m : Memory T) → Listed m → List ℕ
  chained_nodes m g = m.head.index ∷ g.behind

  -- No cell and no node is in two places: each is free, in the chain, or in the hand of one pass
  pub record NothingTwice (n : ℕ) (m : Memory T) (lines : List (Line T)) : Type 0 where
    pub lists : Listed m
    pub cells : InOnePlace held_cells n lists.cells (chained_cells m lists) lines
    pub nodes : InOnePlace held_nodes (n + 1) lists.nodes (chained_nodes m lists) lines

  -- Where the cell, and the node, was that the next step of a line brings into its pass's hand. A put's was
  -- free, and a take's was in the chain. No other line brings one
  module _ (m : Memory T) (g : Listed m) (lines : List (Line T)) where
    abbrev pub CellWas : Line T → ℕ → Type 0
    CellWas (TakeCell v w k) c = IsFree held_cells g.cells (chained_cells m g) lines c
    CellWas (TakeHead h x k) c = IsInside held_cells g.cells (chained_cells m g) lines c
    CellWas l c = ⊥

    abbrev pub NodeWas : Line T → ℕ → Type 0
    NodeWas (TakeNode put w k) j = IsFree held_nodes g.nodes (chained_nodes m g) lines j
    NodeWas (TakeHead h x k) j = IsInside held_nodes g.nodes (chained_nodes m g) lines j
    NodeWas l j = ⊥

  -- A step from l to l' wins only what no pass had. Each cell and each node in its pass's hand was already in
  -- that hand, or it was in no hand, at the place that the line takes it from
  pub record WinsUnheld (m : Memory T) (lines : List (Line T)) (l l' : Line T) : Type 0 where
    pub lists : Listed m
    pub cells : (c : ℕ) → Has (held_cells l') c → Has (held_cells l) c ⊎ CellWas m lists lines l c
    pub nodes : (j : ℕ) → Has (held_nodes l') j → Has (held_nodes l) j ⊎ NodeWas m lists lines l j

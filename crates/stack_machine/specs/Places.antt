-- Where the nodes of a stack are, and from where a step takes one into a pass's hand.
use Rattle.std.specs.Prelude.{ℕ, ◌⊎◌, List}
use Rattle.machine.specs.Words.{Stands}
use Rattle.machine.specs.Places.{Has, InOnePlace, IsFree, IsInside}
use Rattle.stack_machine.specs.declared.lines.Line.{Line}
use Rattle.stack_machine.specs.declared.lines.Line.TheVariants.{TakeFree, TakeTop, TakeChain}
use Rattle.stack_machine.specs.Machine.{Memory, held}

module _ {T : Type 0} where
  -- the free nodes and the nodes of the stack, as the words have them
  pub record Listed (m : Memory T) : Type 0 where
    pub frees : List ℕ
    pub stack : List ℕ
    pub free_stands : Stands m.link m.free.index frees
    pub top_stands : Stands m.link m.top.index stack

  -- No node is in two places: each is free, on the stack, or in the hand of one pass
  pub record NoNodeTwice (n : ℕ) (m : Memory T) (lines : List (Line T)) : Type 0 where
    pub lists : Listed m
    pub nodes : InOnePlace held n lists.frees lists.stack lines

  -- Where the node was that the next step of a line brings into its pass's hand. A put's was free, and a
  -- take's or a fold's was on the stack. No other line brings one
  abbrev pub NodeWas : (m : Memory T) → Listed m → List (Line T) → Line T → ℕ → Type 0
  NodeWas m g lines (TakeFree put w k) i = IsFree held g.frees g.stack lines i
  NodeWas m g lines (TakeTop w k) i = IsInside held g.frees g.stack lines i
  NodeWas m g lines (TakeChain d w) i = IsInside held g.frees g.stack lines i
  NodeWas m g lines l i = ⊥

  -- A step from l to l' wins only what no pass had. Each node in its pass's hand was already in that hand, or
  -- it was in no hand, at the place that the line takes it from
  pub record WinsUnheld (m : Memory T) (lines : List (Line T)) (l l' : Line T) : Type 0 where
    pub lists : Listed m
    pub nodes : (i : ℕ) → Has (held l') i → Has (held l) i ⊎ NodeWas m lists lines l i

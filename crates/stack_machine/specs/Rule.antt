-- What holds of the stack between any two steps: of its words and links, of its slots, and of its
-- history.
use Rattle.std.specs.Prelude.{◌≡◌, ◌≢◌, ℕ, ◌+◌, ◌<◌, ◌≤◌, false, ltb, if◌then◌else◌, List, [], ◌∷◌, ◌++◌, length, reverse, None, Some}
use mathlib.Core.Option.{Option, some}
use lib.ListN.{get_elem?}
use Rattle.tagged_index.specs.declared.word.TheConstants.{NULL}
use Rattle.bounded_model.specs.declared.history.Event.{Event}
use Rattle.bounded_model.specs.declared.history.Event.TheVariants.{Put}
use Rattle.bounded_model.specs.Machine as bounded
use Rattle.machine.specs.Words.{Tagged, times, total, Stands, IsChain}
use Rattle.machine.specs.OneList.{ReadTop, ReadLink}
use Rattle.stack_machine.specs.declared.lines.Putting.{Putting}
use Rattle.stack_machine.specs.declared.lines.Line.{Line}
use Rattle.stack_machine.specs.declared.lines.Line.TheVariants.{Idle, LoadFree, LoadFreeLink, TakeFree, LinkTaken, LoadTop, LinkToTop, SwapTop, LoadTopToRefuse, LoadTopToTake, LoadTopLink, TakeTop, TakeChain, LoadLinkToTurn, TurnLink, LoadLinkToFold, LoadFreeToGive, LinkToFree, GiveBack, LoadTopToClose, MarkTop, LoadTopToShut, ShutTop, LoadTopToLook, LoadTopToGauge}
use Rattle.stack_machine.specs.Machine.{Memory, held}
use Rattle.machine.specs.Chains.{last, HasValues}
use Rattle.bounded_model.specs.Justified.{Sometime, IsFull}
use Rattle.stack_machine.specs.Answers.{IsRight, shape, state}

-- the free nodes and the nodes of the stack, the top first
pub record Lists : Type 0 where
  pub frees : List ℕ
  pub stack : List ℕ

module _ {T : Type 0} where
  -- a put that wants one more node
  pub record Collects (link : ℕ → ℕ) (put : Putting T) : Type 0 where
    pub chained : IsChain link put.chain
    pub wants : length put.chain < length put.values

  -- a put whose newest node is not linked to the others yet
  pub record Adds (link : ℕ → ℕ) (put : Putting T) : Type 0 where
    pub chained : IsChain link (bounded.without_first put.chain)
    pub some_node : 0 < length put.chain
    pub few : length put.chain ≤ length put.values

  -- a put whose chain goes on top
  pub record Puts (link : ℕ → ℕ) (put : Putting T) : Type 0 where
    pub chained : IsChain link put.chain
    pub some_node : 0 < length put.chain
    pub few : length put.chain ≤ length put.values

-- a chain that is given back
pub record Gives (link : ℕ → ℕ) (chain : List ℕ) : Type 0 where
  pub chained : IsChain link chain
  pub some_node : 0 < length chain

-- a walk down a chain has come to node i
pub record Walks (link : ℕ → ℕ) (chain : List ℕ) (i : ℕ) : Type 0 where
  pub above : List ℕ
  pub left : List ℕ
  pub is : chain ≡ above ++ left
  pub chained : IsChain link chain
  pub stands : Stands link i left
  pub here : i ≢ NULL

-- a chain is being turned round: the nodes above i are linked upwards, from the lowest of them on
pub record Turns (link : ℕ → ℕ) (chain : List ℕ) (lowest i : ℕ) : Type 0 where
  pub turned : List ℕ
  pub left : List ℕ
  pub is : chain ≡ reverse turned ++ left
  pub upwards : Stands link lowest turned
  pub downwards : Stands link i left
  pub here : i ≢ NULL

-- what a pass has read and holds
module _ {T : Type 0} (limit : ℕ) (m : Memory T) (g : Lists) where
  abbrev pub IsFine : Line T → Type 0
  IsFine (Idle a) = Unit {0}
  IsFine (LoadFree put) = Collects m.link put
  IsFine (LoadFreeLink put w) = Collects m.link put × ReadTop limit m.free g.frees w
  IsFine (TakeFree put w k) = Collects m.link put × ReadTop limit m.free g.frees w × ReadLink m.free m.link w k
  IsFine (LinkTaken put) = Adds m.link put
  IsFine (LoadTop put) = Puts m.link put
  IsFine (LinkToTop put w) = Puts m.link put × (w.mark ≡ false) × (w.tag < limit)
  IsFine (SwapTop put w) = Puts m.link put × (w.mark ≡ false) × (w.tag < limit) × (m.link (last put.chain) ≡ w.index)
  IsFine (LoadTopToRefuse values) = Unit {0}
  IsFine (LoadTopToTake taking) = Unit {0}
  IsFine (LoadTopLink w) = ReadTop limit m.top g.stack w × (w.second ≡ false)
  IsFine (TakeTop w k) = ReadTop limit m.top g.stack w × (w.second ≡ false) × ReadLink m.top m.link w k
  IsFine (TakeChain d w) = (w.index ≢ NULL) × (w.second ≡ false) × (w.tag < limit)
  IsFine (LoadLinkToTurn give lowest i) = Turns m.link give.chain lowest i
  IsFine (TurnLink give lowest i k) = Turns m.link give.chain lowest i × (m.link i ≡ k)
  IsFine (LoadLinkToFold give i) = Walks m.link give.chain i
  IsFine (LoadFreeToGive give) = Gives m.link give.chain
  IsFine (LinkToFree give w) = Gives m.link give.chain
  IsFine (GiveBack give w) = Gives m.link give.chain × (m.link (last give.chain) ≡ w.index)
  IsFine LoadTopToClose = Unit {0}
  IsFine (MarkTop w) = w.mark ≡ false
  IsFine LoadTopToShut = Unit {0}
  IsFine (ShutTop w) = w.second ≡ false
  IsFine LoadTopToLook = Unit {0}
  IsFine LoadTopToGauge = Unit {0}

module _ (T : Type 0) where
  -- The words and the links. Both lists stand, and each node below n is once on one of them or in
  -- one hand. No other node is in any of these
  pub record Linked (n limit : ℕ) (m : Memory T) (g : Lists) (lines : List (Line T)) : Type 0 where
    pub small : n ≤ NULL
    pub free_stands : Stands m.link m.free.index g.frees
    pub top_stands : Stands m.link m.top.index g.stack
    pub once : (i : ℕ) → times i g.frees + times i g.stack + total (λ l. times i (held l)) lines ≡ if ltb i n then 1 else 0
    pub fine : (q : ℕ) (l : Line T) → get_elem? lines q ≡ some l → IsFine limit m g l

-- The slots at home: those of free nodes are empty, those of the stack have its values
pub record Filled (T : Type 0) (m : Memory T) (g : Lists) (values : List T) : Type 0 where
  pub empty : (i : ℕ) → 0 < times i g.frees → m.home i ≡ some None
  pub stored : HasValues m.home g.stack values

-- the nodes that a pass holds for a put
abbrev pub putting : {T : Type 0} → Line T → List ℕ
putting (LoadFree put) = put.chain
putting (LoadFreeLink put w) = put.chain
putting (TakeFree put w k) = put.chain
putting (LinkTaken put) = put.chain
putting (LoadTop put) = put.chain
putting (LinkToTop put w) = put.chain
putting (SwapTop put w) = put.chain
putting l = []

-- how many values were put
abbrev pub values_put : {T : Type 0} → List (Event T) → ℕ
values_put [] = 0
values_put (Put p vs k ∷ h) = length vs + values_put h
values_put (e ∷ h) = values_put h

-- The history is legal, and the words, lists and hands are as it says. `who` says which pass a line belongs
-- to, if any. `spare` is why a tag at the limit means at least limit / 2 holds
pub record Told (T : Type 0) (n limit : ℕ) (free top : Tagged) (g : Lists) (who : ℕ → Option ℕ) (lines : List (Line T)) (history : List (Event T)) : Type 0 where
  pub legal : bounded.Legal (shape n limit) history
  pub room : length g.frees + length g.stack + (state n limit history).held ≡ n
  pub out : (state n limit history).held ≡ total (λ l. length (held l)) lines
  pub listed : length g.stack ≡ length (state n limit history).values
  pub hands : (q p : ℕ) (l : Line T) → get_elem? lines q ≡ some l → who q ≡ some p → (state n limit history).hand p ≡ length (held l)
  pub alone : (q r p : ℕ) → who q ≡ some p → who r ≡ some p → q ≡ r
  pub closed : top.mark ≡ (state n limit history).closed
  pub shut : top.second ≡ (state n limit history).shut
  pub free_tag : free.tag ≡ (state n limit history).holds
  pub top_tag : top.tag ≡ (state n limit history).puts + (state n limit history).takes
  pub free_limit : free.tag ≤ limit
  pub top_limit : top.tag ≤ limit
  pub spare : values_put history + total (λ l. length (putting l)) lines ≤ (state n limit history).holds

pub record Good (T : Type 0) (n limit : ℕ) (m : Memory T) (g : Lists) (who : ℕ → Option ℕ) (lines : List (Line T)) (history : List (Event T)) : Type 0 where
  pub linked : Linked T n limit m g lines
  pub filled : Filled T m g (state n limit history).values
  pub told : Told T n limit m.free m.top g who lines history

-- good with some lists
pub record Kept (T : Type 0) (n limit : ℕ) (m : Memory T) (who : ℕ → Option ℕ) (lines : List (Line T)) (history : List (Event T)) : Type 0 where
  pub lists : Lists
  pub good : Good T n limit m lists who lines history

-- What a line says about the histories that its pass had seen at the begin and has seen by now. A put that
-- found no node had found all of them taken. The answer that is on its way is right
module _ {T : Type 0} (n limit : ℕ) (begun seen : List (Event T)) where
  abbrev pub Tells : Line T → Type 0
  Tells (Idle None) = Unit {0}
  Tells (Idle (Some a)) = IsRight n limit begun seen a
  Tells (LoadTopToRefuse values) = Sometime begun seen (IsFull (shape n limit))
  Tells (LoadLinkToTurn give lowest i) = IsRight n limit begun seen give.answer
  Tells (TurnLink give lowest i k) = IsRight n limit begun seen give.answer
  Tells (LoadLinkToFold give i) = IsRight n limit begun seen give.answer
  Tells (LoadFreeToGive give) = IsRight n limit begun seen give.answer
  Tells (LinkToFree give w) = IsRight n limit begun seen give.answer
  Tells (GiveBack give w) = IsRight n limit begun seen give.answer
  Tells l = Unit {0}

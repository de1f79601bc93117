-- What holds of the queue between any two steps: of its words and links, of its tags, of its cells,
-- and of its history.
use Rattle.std.specs.Prelude.{◌≡◌, ◌≢◌, ℕ, ◌+◌, ◌*◌, ◌<◌, ◌≤◌, true, false, ltb, if◌then◌else◌, List, ◌∷◌, ◌++◌, length, map, None, Some}
use mathlib.Core.Option.{Option, some}
use lib.ListN.{get_elem?}
use Rattle.tagged_index.specs.declared.word.TheConstants.{NULL}
use Rattle.bounded_model.specs.declared.history.Event.{Event}
use Rattle.bounded_model.specs.Machine as bounded
use Rattle.bounded_model.specs.Justified.{Sometime, Justifies, IsFull, IsEmpty, IsClosed, Counted}
use Rattle.machine.specs.Words.{Tagged, times, total, Stands}
use Rattle.machine.specs.OneList.{ReadTop, ReadLink}
use Rattle.machine.specs.Chains.{last, HasValues}
use Rattle.queue_machine.specs.declared.lines.Linking.{Linking}
use Rattle.queue_machine.specs.declared.lines.Seeking.{Seeking}
use Rattle.queue_machine.specs.declared.lines.Seeking.TheVariants.{ToLink, ToRefuse, ToClose, ToGauge}
use Rattle.queue_machine.specs.declared.lines.Line.{Line}
use Rattle.queue_machine.specs.declared.lines.Line.TheVariants.{Idle, LoadCells, LoadCellLink, TakeCell, LoadNodes, LoadNodeLink, TakeNode, StoreCell, LoadNext, PrepareNext, LoadTail, LoadTailNext, CheckTail, SwingTail, LinkNext, SwingToLinked, MarkNext, LoadHead, LoadTailToTake, LoadHeadNext, CheckHead, SwingTailToTake, LoadCell, TakeHead, LoadNodesToGive, LinkToNodes, GiveNode, LoadCellsToGive, LinkToCells, GiveCell, LoadHeadToLook, LoadNextToLook, CheckHeadToLook, LoadHeadToCount, LoadTailToCount, LoadNextToCount, CheckHeadToCount, CheckNextToGauge, LoadHeadToShut, ShutHead}
use Rattle.queue_machine.specs.Machine.{Memory, held_cells, held_nodes, counted}
use Rattle.queue_machine.specs.Answers.{IsRight, shape, state}

-- the free cells; the free nodes; the nodes of the chain, and the parts of it before and after the
-- node that the tail names; the cells of its nodes without the first
pub record Lists : Type 0 where
  pub cells : List ℕ
  pub nodes : List ℕ
  pub chain : List ℕ
  pub before : List ℕ
  pub after : List ℕ
  pub queued : List ℕ

-- What passes have read. All of these depend on tags: a pass that changes the head to another node,
-- the tail, or a link of the chain raises its tag

-- w was the head, or the tail: since then its tag has risen, or it still names the same node
pub record Past (now w : Tagged) : Type 0 where
  pub tag : w.tag ≤ now.tag
  pub index : w.tag ≡ now.tag → w.index ≡ now.index

-- n was a link of the chain: since then its tag has risen, or it is still there
pub record Was (now n : Tagged) : Type 0 where
  pub tag : n.tag ≤ now.tag
  pub is : n.tag ≡ now.tag → now ≡ n

-- n was read as the link of w: as long as the top has w's tag, n is still that link, if it names a node
abbrev pub Follows : Tagged → (ℕ → Tagged) → Tagged → Tagged → Type 0
Follows top next w n = w.tag ≡ top.tag → n.index ≢ NULL → next w.index ≡ n

-- w was the tail after h had been the head: as long as h still is, w names its node or has passed it
abbrev pub HasPassed : Tagged → Tagged → Tagged → Type 0
HasPassed head h w = h.tag ≡ head.tag → w.index ≢ h.index → h.tag < w.tag

-- w was the tail after h had been the head. Until a take is made, its node is in the chain, and it is the tail's if no node stands after it
pub record Spans (head tail : Tagged) (next : ℕ → Tagged) (chain : List ℕ) (h w : Tagged) : Type 0 where
  pub past : Past tail w
  pub there : h.tag ≡ head.tag → 0 < times w.index chain
  pub last : h.tag ≡ head.tag → (next w.index).index ≡ NULL → w.tag ≡ tail.tag

-- the tail was w, and n was the link of its node and names another: the tail can be moved to it
pub record Lags (tail : Tagged) (next : ℕ → Tagged) (w n : Tagged) : Type 0 where
  pub node : n.index ≢ NULL
  pub past : Past tail w
  pub follows : w.tag ≡ tail.tag → next w.index ≡ n

-- n was the null link of the node of w: as long as it is there, that node is the last, and w is the tail
pub record Ends (tail : Tagged) (next : ℕ → Tagged) (w n : Tagged) : Type 0 where
  pub null : n.index ≡ NULL
  pub unmarked : n.mark ≡ false
  pub was : Was (next w.index) n
  pub last : n.tag ≡ (next w.index).tag → (w.tag ≡ tail.tag) × (w.index ≡ tail.index)

-- a link to which a node can be linked: null, with room for its tag to rise. k is the tag of
-- `NODES`
pub record IsFresh (limit k : ℕ) (x : Tagged) : Type 0 where
  pub null : x.index ≡ NULL
  pub unmarked : x.mark ≡ false
  pub below : x.tag < limit
  pub small : x.tag ≤ 2 * k

-- a node that can be linked
pub record IsPrepared {T : Type 0} (limit : ℕ) (m : Memory T) (link : Linking T) : Type 0 where
  pub fresh : IsFresh limit m.nodes.tag (m.next link.node)
  pub cell : m.cell link.node ≡ link.cell

-- what a pass has read and holds
module _ {T : Type 0} (limit : ℕ) (m : Memory T) (g : Lists) where
  abbrev pub Seeks : Seeking T → Type 0
  Seeks (ToLink link) = IsPrepared limit m link
  Seeks (ToRefuse v) = Unit {0}
  Seeks ToClose = Unit {0}
  Seeks ToGauge = Unit {0}

  -- the node's link was written less than twice as often as nodes were taken
  abbrev pub HasRoom : ℕ → Type 0
  HasRoom j = (m.next j).tag + 1 ≤ 2 * m.nodes.tag

  abbrev pub IsFine : Line T → Type 0
  IsFine (Idle a) = Unit {0}
  -- put: a cell ..
  IsFine (LoadCells v) = Unit {0}
  IsFine (LoadCellLink v w) = ReadTop limit m.cells g.cells w
  IsFine (TakeCell v w k) = ReadTop limit m.cells g.cells w × ReadLink m.cells m.clink w k
  -- .. a node ..
  IsFine (LoadNodes put) = Unit {0}
  IsFine (LoadNodeLink put w) = ReadTop limit m.nodes g.nodes w
  IsFine (TakeNode put w k) = ReadTop limit m.nodes g.nodes w × ReadLink m.nodes m.nlink w k
  -- .. which is prepared
  IsFine (StoreCell link) = HasRoom link.node
  IsFine (LoadNext link) = HasRoom link.node × (m.cell link.node ≡ link.cell)
  IsFine (PrepareNext link n) = HasRoom link.node × (m.cell link.node ≡ link.cell) × (m.next link.node ≡ n) × (n.tag + 2 ≤ limit)
  -- to the end of the chain
  IsFine (LoadTail s) = Seeks s
  IsFine (LoadTailNext s w) = Seeks s × Past m.tail w
  IsFine (CheckTail s w n) = Seeks s × Past m.tail w × Was (m.next w.index) n × Follows m.tail m.next w n
  IsFine (SwingTail s w n) = Seeks s × Lags m.tail m.next w n
  IsFine (LinkNext link w n) = IsPrepared limit m link × Ends m.tail m.next w n
  IsFine (SwingToLinked v w x) = Lags m.tail m.next w x
  IsFine (MarkNext w n) = Ends m.tail m.next w n
  -- take
  IsFine LoadHead = Unit {0}
  IsFine (LoadTailToTake h) = Past m.head h × (h.second ≡ false)
  IsFine (LoadHeadNext h w) = Past m.head h × (h.second ≡ false) × Past m.tail w × HasPassed m.head h w
  IsFine (CheckHead h w n) = Past m.head h × (h.second ≡ false) × Past m.tail w × HasPassed m.head h w × Follows m.head m.next h n
  IsFine (SwingTailToTake w n) = Lags m.tail m.next w n
  IsFine (LoadCell h n) = Past m.head h × (h.second ≡ false) × (n.index ≢ NULL) × Follows m.head m.next h n × (h.tag < m.tail.tag)
  IsFine (TakeHead h n k) = Past m.head h × (h.second ≡ false) × (n.index ≢ NULL) × Follows m.head m.next h n × (h.tag < m.tail.tag) × (h.tag ≡ m.head.tag → m.cell n.index ≡ k)
  -- giving back
  IsFine (LoadNodesToGive give) = Unit {0}
  IsFine (LinkToNodes give w) = Unit {0}
  IsFine (GiveNode give w) = m.nlink give.node ≡ w.index
  IsFine (LoadCellsToGive give) = Unit {0}
  IsFine (LinkToCells give w) = Unit {0}
  IsFine (GiveCell give w) = m.clink give.cell ≡ w.index
  -- look, len, gauge, shut
  IsFine LoadHeadToLook = Unit {0}
  IsFine (LoadNextToLook h) = Past m.head h
  IsFine (CheckHeadToLook h n) = Unit {0}
  IsFine LoadHeadToCount = Unit {0}
  IsFine (LoadTailToCount h) = h.tag ≤ m.head.tag
  IsFine (LoadNextToCount h w) = (h.tag ≤ m.head.tag) × Spans m.head m.tail m.next g.chain h w
  IsFine (CheckHeadToCount h w n) = Unit {0}
  IsFine (CheckNextToGauge w n) = Ends m.tail m.next w n
  IsFine LoadHeadToShut = Unit {0}
  IsFine (ShutHead h) = h.second ≡ false

-- The chain stands: the head names its first node, each link the next, and the last link is null. The tail
-- names its last node or the one before. The tail's tag is the number of takes plus the number of nodes
-- before its node. Only a null link has the mark
pub record IsChained (head tail : Tagged) (next : ℕ → Tagged) (cell : ℕ → ℕ) (g : Lists) : Type 0 where
  pub stands : Stands (λ j. (next j).index) head.index g.chain
  pub split : g.chain ≡ g.before ++ tail.index ∷ g.after
  pub short : length g.after ≤ 1
  pub place : tail.tag ≡ head.tag + length g.before
  pub stored : g.queued ≡ map cell (bounded.without_first g.chain)
  pub tidy : (j : ℕ) → (next j).mark ≡ true → (next j).index ≡ NULL

module _ (T : Type 0) where
  -- The words and the links. Both free lists and the chain stand. Each cell below n is once free, in the
  -- chain or in one hand, and so is each node below n + 1. No other cell or node is in any of these. Whatever
  -- link a pass reads, of whatever node, names a node or is null
  pub record Linked (n limit : ℕ) (m : Memory T) (g : Lists) (lines : List (Line T)) : Type 0 where
    pub small : n < NULL
    pub cells_stand : Stands m.clink m.cells.index g.cells
    pub nodes_stand : Stands m.nlink m.nodes.index g.nodes
    pub chained : IsChained m.head m.tail m.next m.cell g
    pub named : (j : ℕ) → (m.next j).index ≢ NULL → (m.next j).index < n + 1
    pub cells_once : (i : ℕ) → times i g.cells + times i g.queued + total (λ l. times i (held_cells l)) lines ≡ if ltb i n then 1 else 0
    pub nodes_once : (j : ℕ) → times j g.nodes + times j g.chain + total (λ l. times j (held_nodes l)) lines ≡ if ltb j (n + 1) then 1 else 0
    pub fine : (q : ℕ) (l : Line T) → get_elem? lines q ≡ some l → IsFine limit m g l

-- The cells at home: those of the free list are empty, and those of the chain have its values
pub record Filled (T : Type 0) (m : Memory T) (g : Lists) (values : List T) : Type 0 where
  pub empty : (i : ℕ) → 0 < times i g.cells → m.home i ≡ some None
  pub stored : HasValues m.home g.queued values

-- a pass that has a cell and wants a node
abbrev pub wanting : {T : Type 0} → Line T → ℕ
wanting (LoadNodes put) = 1
wanting (LoadNodeLink put w) = 1
wanting (TakeNode put w k) = 1
wanting l = 0

-- a pass that has a cell and no node
abbrev pub bare : {T : Type 0} → Line T → ℕ
bare (LoadNodes put) = 1
bare (LoadNodeLink put w) = 1
bare (TakeNode put w k) = 1
bare (LoadCellsToGive give) = 1
bare (LinkToCells give w) = 1
bare (GiveCell give w) = 1
bare l = 0

-- a put that has its cell and is not yet linked
abbrev pub seeks_link : {T : Type 0} → Seeking T → ℕ
seeks_link (ToLink link) = 1
seeks_link s = 0

abbrev pub putting : {T : Type 0} → Line T → ℕ
putting (LoadNodes put) = 1
putting (LoadNodeLink put w) = 1
putting (TakeNode put w k) = 1
putting (StoreCell link) = 1
putting (LoadNext link) = 1
putting (PrepareNext link n) = 1
putting (LoadTail s) = seeks_link s
putting (LoadTailNext s w) = seeks_link s
putting (CheckTail s w n) = seeks_link s
putting (SwingTail s w n) = seeks_link s
putting (LinkNext link w n) = 1
putting l = 0

-- No tag passes the limit. At most one node is taken for each cell taken. A node's link is written at most
-- twice for each node taken. So if its tag is at the limit, the history has at least limit / 2 holds
pub record Numbered (T : Type 0) (limit : ℕ) (m : Memory T) (g : Lists) (lines : List (Line T)) : Type 0 where
  pub cells_limit : m.cells.tag ≤ limit
  pub nodes_tag : m.nodes.tag + total wanting lines ≤ m.cells.tag
  pub next_limit : (j : ℕ) → (m.next j).tag ≤ limit
  pub next_small : (j : ℕ) → (m.next j).tag ≤ 2 * m.nodes.tag + 1
  pub fresh : (m.next (last (m.tail.index ∷ g.after))).mark ≡ false → IsFresh limit m.nodes.tag (m.next (last (m.tail.index ∷ g.after)))

-- The history is legal, and the words, lists and hands are as it says. `who` says which pass a line belongs
-- to, if any. `spare` is why a pass that has a cell and wants a node always finds one. `ahead` is why no tag
-- of the head or the tail meets the limit
pub record Told (T : Type 0) (n limit : ℕ) (m : Memory T) (g : Lists) (who : ℕ → Option ℕ) (lines : List (Line T)) (history : List (Event T)) : Type 0 where
  pub legal : bounded.Legal (shape n limit) history
  pub room : length g.cells + length g.queued + (state n limit history).held ≡ n
  pub spare : length g.nodes ≡ length g.cells + total bare lines
  pub out : (state n limit history).held ≡ total (λ l. length (held_cells l)) lines
  pub listed : length g.queued ≡ length (state n limit history).values
  pub hands : (q p : ℕ) (l : Line T) → get_elem? lines q ≡ some l → who q ≡ some p → (state n limit history).hand p ≡ length (held_cells l)
  pub alone : (q r p : ℕ) → who q ≡ some p → who r ≡ some p → q ≡ r
  pub closed_marked : (state n limit history).closed ≡ true → (m.next m.tail.index).mark ≡ true
  pub marked_closed : (j : ℕ) → (m.next j).mark ≡ true → (state n limit history).closed ≡ true
  pub shut : m.head.second ≡ (state n limit history).shut
  pub cells_tag : m.cells.tag ≡ (state n limit history).holds
  pub head_tag : m.head.tag ≡ (state n limit history).takes
  pub balance : (state n limit history).puts ≡ (state n limit history).takes + length (state n limit history).values
  pub ahead : (state n limit history).puts + total putting lines ≤ (state n limit history).holds

pub record Good (T : Type 0) (n limit : ℕ) (m : Memory T) (g : Lists) (who : ℕ → Option ℕ) (lines : List (Line T)) (history : List (Event T)) : Type 0 where
  pub linked : Linked T n limit m g lines
  pub filled : Filled T m g (state n limit history).values
  pub numbered : Numbered T limit m g lines
  pub told : Told T n limit m g who lines history

-- good with some lists
pub record Kept (T : Type 0) (n limit : ℕ) (m : Memory T) (who : ℕ → Option ℕ) (lines : List (Line T)) (history : List (Event T)) : Type 0 where
  pub lists : Lists
  pub good : Good T n limit m lists who lines history

-- What the history that a pass has seen by now says about the words that it has read. It speaks of
-- no word that is there now. A claim that needs the head or the tail to be still the one read is
-- made by the numbers of takes and puts, which are their tags
module _ {T : Type 0} (n limit : ℕ) (seen : List (Event T)) where
  -- what the link x of the tail's node told, w having been the tail
  pub record EndTells (w x : Tagged) : Type 0 where
    pub marked : x.mark ≡ true → IsClosed (shape n limit) seen
    pub null : IsClosed (shape n limit) seen → w.tag ≡ (state n limit seen).puts → x.index ≡ NULL → x.mark ≡ true

  -- what the link x of the head's node told, h having been the head
  pub record FrontTells (h x : Tagged) : Type 0 where
    pub since : h.tag ≤ (state n limit seen).takes
    pub tidy : x.mark ≡ true → x.index ≡ NULL
    pub null : (state n limit seen).takes ≡ h.tag → x.index ≡ NULL → IsEmpty (shape n limit) seen × (x.mark ≡ (state n limit seen).closed)
    pub node : (state n limit seen).takes ≡ h.tag → x.index ≢ NULL → IsEmpty (shape n limit) seen → ⊥

-- What a line says about the histories that its pass had seen at the begin and has seen by now
module _ {T : Type 0} (n limit : ℕ) (begun seen : List (Event T)) where
  -- a put that found no cell had found all of them taken
  abbrev pub SeeksFor : Seeking T → Type 0
  SeeksFor (ToLink link) = Unit {0}
  SeeksFor (ToRefuse v) = Sometime begun seen (IsFull (shape n limit))
  SeeksFor ToClose = Unit {0}
  SeeksFor ToGauge = Unit {0}

  -- what the link x of the node of w told about the values, w having been the tail after h had been the head
  pub record CountTells (h w x : Tagged) : Type 0 where
    pub since : h.tag ≤ (state n limit seen).takes
    pub held : (state n limit seen).takes ≡ h.tag → Sometime begun seen (λ k. Justifies (shape n limit) k (Counted (counted h w x)))

  abbrev pub Tells : Line T → Type 0
  Tells (Idle None) = Unit {0}
  Tells (Idle (Some a)) = IsRight n limit begun seen a
  Tells (LoadTail s) = SeeksFor s
  Tells (LoadTailNext s w) = SeeksFor s
  Tells (CheckTail s w y) = SeeksFor s × EndTells n limit seen w y
  Tells (SwingTail s w n) = SeeksFor s
  Tells (LoadTailToTake h) = h.tag ≤ (state n limit seen).takes
  Tells (LoadHeadNext h w) = h.tag ≤ (state n limit seen).takes
  Tells (CheckHead h w y) = FrontTells n limit seen h y
  Tells (LoadNodesToGive give) = IsRight n limit begun seen give.answer
  Tells (LinkToNodes give w) = IsRight n limit begun seen give.answer
  Tells (GiveNode give w) = IsRight n limit begun seen give.answer
  Tells (LoadCellsToGive give) = IsRight n limit begun seen give.answer
  Tells (LinkToCells give w) = IsRight n limit begun seen give.answer
  Tells (GiveCell give w) = IsRight n limit begun seen give.answer
  Tells (LoadNextToLook h) = h.tag ≤ (state n limit seen).takes
  Tells (CheckHeadToLook h y) = FrontTells n limit seen h y
  Tells (LoadTailToCount h) = h.tag ≤ (state n limit seen).takes
  Tells (LoadNextToCount h w) = (h.tag ≤ (state n limit seen).takes) × ((state n limit seen).puts ≤ w.tag + 1)
  Tells (CheckHeadToCount h w y) = CountTells h w y
  Tells l = Unit {0}

-- The queue of Michael and Scott as a machine: any number of passes put, take, close, shut, look, count and
-- gauge, one atomic step at a time. `table` has its lines.
use Rattle.std.specs.Prelude.{ℕ, ◌+◌, ◌-◌, ◌==◌, leb, ltb, if◌then◌else◌, Bool, true, false, List, [], ◌∷◌, Option as Slot, Some, None, Ok, Err}
use mathlib.Core.Option.{Option, none, some}
use Rattle.tagged_index.specs.declared.word.TheConstants.{NULL}
use Rattle.bounded_model.specs.declared.answers.Word.TheVariants.{Cells as CellsWord, Nodes as NodesWord, Next as NextWord}
use Rattle.bounded_model.specs.declared.answers.PutRefused.TheVariants.{Full as PutFull, Closed as PutClosed, Spent as PutSpent}
use Rattle.bounded_model.specs.declared.answers.TakeRefused.TheVariants.{Empty as TakeEmpty, Closed as TakeClosed, Shut as TakeShut}
use Rattle.bounded_model.specs.declared.history.Event.{Event}
use Rattle.bounded_model.specs.declared.history.Event.TheVariants.{Hold, Put, Take, Free, Close, Shut}
use Rattle.bounded_model.specs.Machine.{Shape}
use Rattle.machine.specs.Schedule as schedule
use Rattle.machine.specs.Words.{Tagged, kept, raised, marked, with_second, store, start_word, start_link}
use Rattle.machine.specs.Chains.{with_home}
use Rattle.machine.specs.Program.{Memories, becomes, shuts, Then, stays, returns, brings, Deed, rests, loads, checks, follows, stores, links, attempts, swaps, answered, does, wins as won_by}
use Rattle.machine.specs.IndexList.{IndexList, load_top, follow_link, take_top, take_slot, link_to_top, give_top}
use Rattle.queue_machine.specs.declared.lines.Placing.{Placing}
use Rattle.queue_machine.specs.declared.lines.Linking.{Linking}
use Rattle.queue_machine.specs.declared.lines.Seeking.{Seeking}
use Rattle.queue_machine.specs.declared.lines.Seeking.TheVariants.{ToLink, ToRefuse, ToClose, ToGauge}
use Rattle.queue_machine.specs.declared.lines.Answer.{Answer}
use Rattle.queue_machine.specs.declared.lines.Answer.TheVariants.{Put as AnswerPut, Take as AnswerTake, Close as AnswerClose, Shut as AnswerShut, Look as AnswerLook, Len as AnswerLen, Gauge as AnswerGauge}
use Rattle.queue_machine.specs.declared.lines.Place.{Place}
use Rattle.queue_machine.specs.declared.lines.Place.TheVariants.{Cells as AtCells, Nodes as AtNodes, Head as AtHead, Tail as AtTail, Next as AtNext}
use Rattle.queue_machine.specs.declared.lines.Number.{Number}
use Rattle.queue_machine.specs.declared.lines.Number.TheVariants.{CellLink, NodeLink, Cell as CellOf}
use Rattle.queue_machine.specs.declared.lines.Line.{Line}
use Rattle.queue_machine.specs.declared.lines.Line.TheVariants.{Idle, LoadCells, LoadCellLink, TakeCell, LoadNodes, LoadNodeLink, TakeNode, StoreCell, LoadNext, PrepareNext, LoadTail, LoadTailNext, CheckTail, SwingTail, LinkNext, SwingToLinked, MarkNext, LoadHead, LoadTailToTake, LoadHeadNext, CheckHead, SwingTailToTake, LoadCell, TakeHead, LoadNodesToGive, LinkToNodes, GiveNode, LoadCellsToGive, LinkToCells, GiveCell, LoadHeadToLook, LoadNextToLook, CheckHeadToLook, LoadHeadToCount, LoadTailToCount, LoadNextToCount, CheckHeadToCount, CheckNextToGauge, LoadHeadToShut, ShutHead}
use Rattle.queue_machine.specs.declared.lines.Call.{Call}
use Rattle.queue_machine.specs.declared.lines.Call.TheVariants.{Put as CallPut, Take as CallTake, Close as CallClose, Shut as CallShut, Look as CallLook, Len as CallLen, Gauge as CallGauge}

-- The words, and what each value cell has. A cell that a pass holds has none; a cell that is empty at home
-- has some None. `clink` and `nlink` link the free cells and the free nodes, `next` the nodes of the chain;
-- `cell` says which cell has a node's value
pub record Memory (T : Type 0) : Type 0 where
  pub cells : Tagged
  pub nodes : Tagged
  pub head : Tagged
  pub tail : Tagged
  pub clink : ℕ → ℕ
  pub nlink : ℕ → ℕ
  pub next : ℕ → Tagged
  pub cell : ℕ → ℕ
  pub home : ℕ → Option (Slot T)

-- the words after one was stored at i
abbrev pub store_word : (ℕ → Tagged) → ℕ → Tagged → ℕ → Tagged
store_word next i x j = if j == i then x else next j

-- null without marks
abbrev pub null_word : ℕ → Tagged
null_word t = record { index = NULL; mark = false; second = false; tag = t }

-- which node is linked after node j
abbrev pub next_of : {T : Type 0} → Memory T → ℕ → ℕ
next_of m j = (m.next j).index

-- the number of values after the head h, if the tail was w and its node had the link n
abbrev pub counted : Tagged → Tagged → Tagged → ℕ
counted h w n = (if n.index == NULL then w.tag else w.tag + 1) - h.tag

-- node 0 is the dummy, the other nodes are free
abbrev pub start_nlink : ℕ → ℕ → ℕ
start_nlink n j = if j == 0 then NULL else start_link (n + 1) j

module _ {T : Type 0} where
  -- What the steps that change a word leave
  abbrev pub after_hold : Memory T → Tagged → ℕ → Memory T
  after_hold m w k = record m { cells = raised w k; home = with_home m.home w.index none }

  abbrev pub after_free : Memory T → Tagged → ℕ → Memory T
  after_free m w c = record m { cells = kept w c; home = with_home m.home c (some None) }

  abbrev pub after_node_take : Memory T → Tagged → ℕ → Memory T
  after_node_take m w k = record m { nodes = raised w k }

  abbrev pub after_node_give : Memory T → Tagged → ℕ → Memory T
  after_node_give m w j = record m { nodes = kept w j }

  abbrev pub after_clink : Memory T → ℕ → ℕ → Memory T
  after_clink m c x = record m { clink = store m.clink c x }

  abbrev pub after_nlink : Memory T → ℕ → ℕ → Memory T
  after_nlink m j x = record m { nlink = store m.nlink j x }

  abbrev pub after_cell : Memory T → ℕ → ℕ → Memory T
  after_cell m j c = record m { cell = store m.cell j c }

  abbrev pub after_next : Memory T → ℕ → Tagged → Memory T
  after_next m j x = record m { next = store_word m.next j x }

  -- node j is linked after the one that w names, and its cell c comes home with a value
  abbrev pub after_link_of : Memory T → Tagged → Tagged → ℕ → ℕ → T → Memory T
  after_link_of m w n j c v = record m { next = store_word m.next w.index (raised n j); home = with_home m.home c (some (Some v)) }

  abbrev pub after_link : Memory T → Tagged → Tagged → Linking T → Memory T
  after_link m w n link = after_link_of m w n link.node link.cell link.value

  abbrev pub after_swing : Memory T → Tagged → ℕ → Memory T
  after_swing m w j = record m { tail = raised w j }

  abbrev pub after_close : Memory T → Tagged → Tagged → Memory T
  after_close m w n = record m { next = store_word m.next w.index (marked (raised n NULL)) }

  abbrev pub after_take : Memory T → Tagged → Tagged → ℕ → Memory T
  after_take m h n c = record m { head = raised h n.index; home = with_home m.home c none }

  abbrev pub after_shut : Memory T → Tagged → Memory T
  after_shut m h = record m { head = with_second h }

  -- Where a pass continues, from its line and the word that it found
  abbrev pub ends : Answer T → Line T
  ends a = Idle (Some a)

  abbrev pub gives : Linking T → Answer T → Line T
  gives link a = LoadNodesToGive (record { cell = link.cell; node = link.node; answer = a })

  abbrev pub frees : ℕ → Answer T → Line T
  frees c a = LoadCellsToGive (record { cell = c; answer = a })

  abbrev pub found_cells : ℕ → T → Tagged → Line T
  found_cells limit v w =
      if w.index == NULL then LoadTail (ToRefuse v)
      else if leb limit w.tag then ends (AnswerPut (Err (PutSpent v CellsWord w.tag)))
      else LoadCellLink v w

  abbrev pub with_cell : T → ℕ → Placing T
  with_cell v c = record { value = v; cell = c }

  -- no pass finds null or the limit here
  abbrev pub found_nodes : ℕ → Placing T → Tagged → Line T
  found_nodes limit put w =
      if w.index == NULL then frees put.cell (AnswerPut (Err (PutSpent put.value NodesWord w.tag)))
      else if leb limit w.tag then frees put.cell (AnswerPut (Err (PutSpent put.value NodesWord w.tag)))
      else LoadNodeLink put w

  abbrev pub with_node : Placing T → ℕ → Linking T
  with_node put j = record { value = put.value; cell = put.cell; node = j }

  -- the preparation and the link each raise the tag
  abbrev pub found_next : ℕ → Linking T → Tagged → Line T
  found_next limit link n =
      if leb limit (n.tag + 1) then gives link (AnswerPut (Err (PutSpent link.value (NextWord link.node) n.tag)))
      else PrepareNext link n

  -- the end of the chain has the mark
  abbrev pub back_closed : Seeking T → Tagged → Line T
  back_closed (ToLink link) w = gives link (AnswerPut (Err (PutClosed link.value)))
  back_closed (ToRefuse v) w = ends (AnswerPut (Err (PutClosed v)))
  back_closed ToClose w = ends (AnswerClose false)
  back_closed ToGauge w = ends (AnswerGauge true w.tag)

  -- the end of the chain is null
  abbrev pub back_null : Seeking T → Tagged → Tagged → Line T
  back_null (ToLink link) w n = LinkNext link w n
  back_null (ToRefuse v) w n = ends (AnswerPut (Err (PutFull v)))
  back_null ToClose w n = MarkNext w n
  back_null ToGauge w n = CheckNextToGauge w n

  abbrev pub found_back : Seeking T → Tagged → Tagged → Line T
  found_back s w n = if n.mark then back_closed s w else if n.index == NULL then back_null s w n else SwingTail s w n

  abbrev pub found_head : Tagged → Line T
  found_head h = if h.second then ends (AnswerTake (Err TakeShut)) else LoadTailToTake h

  abbrev pub found_front : Tagged → Tagged → Tagged → Line T
  found_front h w n =
      if n.mark then ends (AnswerTake (Err TakeClosed))
      else if n.index == NULL then ends (AnswerTake (Err TakeEmpty))
      else if w.index == h.index then SwingTailToTake w n
      else LoadCell h n

  abbrev pub found_head_to_shut : Tagged → Line T
  found_head_to_shut h = if h.second then ends (AnswerShut false) else ShutHead h

abbrev pub same_place : Place → Place → Bool
same_place AtCells AtCells = true
same_place AtNodes AtNodes = true
same_place AtHead AtHead = true
same_place AtTail AtTail = true
same_place (AtNext i) (AtNext j) = i == j
same_place a b = false

abbrev pub same_number : Number → Number → Bool
same_number (CellLink i) (CellLink j) = i == j
same_number (NodeLink i) (NodeLink j) = i == j
same_number (CellOf i) (CellOf j) = i == j
same_number a b = false

-- the free cells are list 0, the free nodes list 1
abbrev pub top_of : Place → Option ℕ
top_of AtCells = some 0
top_of AtNodes = some 1
top_of at = none

abbrev pub link_of : Number → Option (ℕ × ℕ)
link_of (CellLink i) = some (0, i)
link_of (NodeLink j) = some (1, j)
link_of (CellOf j) = none

abbrev pub free_cells : IndexList Place Number
free_cells = record { top = AtCells; link = CellLink }

abbrev pub free_nodes : IndexList Place Number
free_nodes = record { top = AtNodes; link = NodeLink }

-- What one step does
abbrev pub Outcome : Type 0 → Type 0
Outcome T = schedule.Outcome (Memory T) (Line T) (Event T)

module _ {T : Type 0} where
  abbrev pub goes_on : Memory T → Line T → Outcome T
  goes_on m l = record { memory = m; line = l; events = [] }

  abbrev pub wins : Memory T → Line T → Event T → Outcome T
  wins m l e = record { memory = m; line = l; events = e ∷ [] }

  -- the memory as its places
  abbrev pub word_in : Memory T → Place → Tagged
  word_in m AtCells = m.cells
  word_in m AtNodes = m.nodes
  word_in m AtHead = m.head
  word_in m AtTail = m.tail
  word_in m (AtNext j) = m.next j

  abbrev pub number_in : Memory T → Number → ℕ
  number_in m (CellLink i) = m.clink i
  number_in m (NodeLink j) = m.nlink j
  number_in m (CellOf j) = m.cell j

  abbrev pub memories : Memories T (Memory T) Place Number
  memories = record {
    same_place = same_place;
    same_link = same_number;
    top_of = top_of;
    keeps = λ at. true;
    link_of = link_of;
    of = λ word number home. record {
      cells = word AtCells;
      nodes = word AtNodes;
      head = word AtHead;
      tail = word AtTail;
      clink = λ i. number (CellLink i);
      nlink = λ j. number (NodeLink j);
      next = λ j. word (AtNext j);
      cell = λ j. number (CellOf j);
      home = home;
    };
    word = word_in;
    link = number_in;
    home = λ m. m.home;
  }

  -- a won exchange leads to a line, by one event or by none
  abbrev pub by : Line T → (ℕ → Event T) → Then (Line T) (Event T)
  by l e = record { line = l; events = λ p. e p ∷ [] }

  abbrev pub on : Line T → Then (Line T) (Event T)
  on l = record { line = l; events = λ p. [] }

  -- the value that was in the cell that TakeHead has won
  abbrev pub took : Tagged → ℕ → List (Option (Slot T)) → Option (Then (Line T) (Event T))
  took h c (some (Some v) ∷ others) = some (by (LoadNodesToGive (record { cell = c; node = h.index; answer = AnswerTake (Ok (v, h.tag)) })) (λ p. Take p v h.tag))
  took h c were = none

  -- What each line does, with tags up to a limit
  abbrev pub table : ℕ → Line T → Deed T (Memory T) Place Number (Line T) (Event T)
  table limit (Idle a) = rests
  -- put: a cell from its free list ..
  table limit (LoadCells v) = load_top free_cells (found_cells limit v)
  table limit (LoadCellLink v w) = follow_link free_cells w (TakeCell v w)
  table limit (TakeCell v w k) = take_slot free_cells w k (λ was. some (by (LoadNodes (with_cell v w.index)) Hold)) (LoadCells v)
  -- .. a node from its own ..
  table limit (LoadNodes put) = load_top free_nodes (found_nodes limit put)
  table limit (LoadNodeLink put w) = follow_link free_nodes w (TakeNode put w)
  table limit (TakeNode put w k) = take_top free_nodes w k (stays (on (StoreCell (with_node put w.index)))) (LoadNodes put)
  -- .. which is prepared ..
  table limit (StoreCell link) = links (CellOf link.node) link.cell (LoadNext link)
  table limit (LoadNext link) = loads (AtNext link.node) (found_next limit link)
  table limit (PrepareNext link n) = stores (AtNext link.node) (null_word (n.tag + 1)) (LoadTail (ToLink link))
  -- .. and linked after the last one
  table limit (LoadTail s) = loads AtTail (LoadTailNext s)
  table limit (LoadTailNext s w) = loads (AtNext w.index) (CheckTail s w)
  table limit (CheckTail s w n) = checks AtTail w (found_back s w n) (LoadTail s)
  table limit (SwingTail s w n) = attempts AtTail w (raised w n.index) (LoadTail s)
  table limit (LinkNext link w n) = swaps (AtNext w.index) n (becomes (raised n link.node)) (returns ((link.cell, Some link.value) ∷ []) (by (SwingToLinked link.value w (raised n link.node)) (λ p. Put p (link.value ∷ []) w.tag))) (LoadTail (ToLink link))
  table limit (SwingToLinked v w x) = attempts AtTail w (raised w x.index) (ends (AnswerPut (Ok w.tag)))
  table limit (MarkNext w n) = swaps (AtNext w.index) n (becomes (marked (raised n NULL))) (stays (by (ends (AnswerClose true)) Close)) (LoadTail ToClose)
  -- take
  table limit LoadHead = loads AtHead found_head
  table limit (LoadTailToTake h) = loads AtTail (LoadHeadNext h)
  table limit (LoadHeadNext h w) = loads (AtNext h.index) (CheckHead h w)
  table limit (CheckHead h w n) = checks AtHead h (found_front h w n) LoadHead
  table limit (SwingTailToTake w n) = attempts AtTail w (raised w n.index) LoadHead
  table limit (LoadCell h n) = follows (CellOf n.index) (TakeHead h n)
  table limit (TakeHead h n k) = swaps AtHead h (becomes (raised h n.index)) (brings false (λ m. k ∷ []) (λ is. took h k)) LoadHead
  -- a node and a cell go back to their free lists
  table limit (LoadNodesToGive give) = load_top free_nodes (LinkToNodes give)
  table limit (LinkToNodes give w) = link_to_top free_nodes give.node w (GiveNode give w)
  table limit (GiveNode give w) = give_top free_nodes w give.node (stays (on (frees give.cell give.answer))) (LoadNodesToGive give)
  table limit (LoadCellsToGive give) = load_top free_cells (LinkToCells give)
  table limit (LinkToCells give w) = link_to_top free_cells give.cell w (GiveCell give w)
  table limit (GiveCell give w) = give_top free_cells w give.cell (returns ((give.cell, None) ∷ []) (by (ends give.answer) (λ p. Free p 1))) (LoadCellsToGive give)
  -- look, len, gauge, shut
  table limit LoadHeadToLook = loads AtHead LoadNextToLook
  table limit (LoadNextToLook h) = loads (AtNext h.index) (CheckHeadToLook h)
  table limit (CheckHeadToLook h n) = checks AtHead h (ends (AnswerLook (n.index == NULL))) LoadHeadToLook
  table limit LoadHeadToCount = loads AtHead LoadTailToCount
  table limit (LoadTailToCount h) = loads AtTail (LoadNextToCount h)
  table limit (LoadNextToCount h w) = loads (AtNext w.index) (CheckHeadToCount h w)
  table limit (CheckHeadToCount h w n) = checks AtHead h (ends (AnswerLen (counted h w n))) LoadHeadToCount
  table limit (CheckNextToGauge w n) = checks (AtNext w.index) n (ends (AnswerGauge false w.tag)) (LoadTail ToGauge)
  table limit LoadHeadToShut = loads AtHead found_head_to_shut
  table limit (ShutHead h) = swaps AtHead h shuts (stays (by (ends (AnswerShut true)) Shut)) LoadHeadToShut

  -- the step of pass p at a line, and whether it is an exchange that wins
  abbrev pub step : Shape → Memory T → ℕ → Line T → Outcome T
  step c m p l = does memories (Idle None) m p l (table c.limit l)

  abbrev pub wins_exchange : Memory T → Line T → Bool
  wins_exchange m l = won_by memories m (table 0 l)

  -- what the exchange of TakeHead leaves
  abbrev pub wins_value : Memory T → ℕ → Tagged → Tagged → ℕ → Option (Slot T) → Outcome T
  wins_value m p h n c was = answered memories (Idle None) m p AtHead (raised h n.index) (c ∷ []) (took h c (was ∷ []))

  -- the cell that a pass holds, if any
  abbrev pub seeking_cells : Seeking T → List ℕ
  seeking_cells (ToLink link) = link.cell ∷ []
  seeking_cells s = []

  abbrev pub seeking_nodes : Seeking T → List ℕ
  seeking_nodes (ToLink link) = link.node ∷ []
  seeking_nodes s = []

  abbrev pub held_cells : Line T → List ℕ
  held_cells (LoadNodes put) = put.cell ∷ []
  held_cells (LoadNodeLink put w) = put.cell ∷ []
  held_cells (TakeNode put w k) = put.cell ∷ []
  held_cells (StoreCell link) = link.cell ∷ []
  held_cells (LoadNext link) = link.cell ∷ []
  held_cells (PrepareNext link n) = link.cell ∷ []
  held_cells (LoadTail s) = seeking_cells s
  held_cells (LoadTailNext s w) = seeking_cells s
  held_cells (CheckTail s w n) = seeking_cells s
  held_cells (SwingTail s w n) = seeking_cells s
  held_cells (LinkNext link w n) = link.cell ∷ []
  held_cells (LoadNodesToGive give) = give.cell ∷ []
  held_cells (LinkToNodes give w) = give.cell ∷ []
  held_cells (GiveNode give w) = give.cell ∷ []
  held_cells (LoadCellsToGive give) = give.cell ∷ []
  held_cells (LinkToCells give w) = give.cell ∷ []
  held_cells (GiveCell give w) = give.cell ∷ []
  held_cells l = []

  -- the node that a pass holds, if any
  abbrev pub held_nodes : Line T → List ℕ
  held_nodes (StoreCell link) = link.node ∷ []
  held_nodes (LoadNext link) = link.node ∷ []
  held_nodes (PrepareNext link n) = link.node ∷ []
  held_nodes (LoadTail s) = seeking_nodes s
  held_nodes (LoadTailNext s w) = seeking_nodes s
  held_nodes (CheckTail s w n) = seeking_nodes s
  held_nodes (SwingTail s w n) = seeking_nodes s
  held_nodes (LinkNext link w n) = link.node ∷ []
  held_nodes (LoadNodesToGive give) = give.node ∷ []
  held_nodes (LinkToNodes give w) = give.node ∷ []
  held_nodes (GiveNode give w) = give.node ∷ []
  held_nodes l = []

  abbrev pub is_idle : Line T → Bool
  is_idle (Idle a) = true
  is_idle l = false

  -- the first step of an operation
  abbrev pub starts : Call T → Line T
  starts (CallPut v) = LoadCells v
  starts CallTake = LoadHead
  starts CallClose = LoadTail ToClose
  starts CallShut = LoadHeadToShut
  starts CallLook = LoadHeadToLook
  starts CallLen = LoadHeadToCount
  starts CallGauge = LoadTail ToGauge

-- The words and slots of a new queue for n values: n cells and n + 1 nodes. A number that is no index has 0
-- for a word, and no slot
abbrev pub start : {T : Type 0} → Shape → Memory T
start c = record {
  cells = start_word 0;
  nodes = start_word 1;
  head = start_word 0;
  tail = start_word 0;
  clink = λ i. if ltb i (c.capacity + 1) then start_link c.capacity i else 0;
  nlink = λ j. if ltb j (c.capacity + 1) then start_nlink c.capacity j else 0;
  next = λ j. if ltb j (c.capacity + 1) then start_word NULL else start_word 0;
  cell = λ j. if ltb j (c.capacity + 1) then NULL else 0;
  home = λ i. if ltb i c.capacity then some None else none;
}

-- the whole machine, for schedules
abbrev pub queue : {T : Type 0} → Shape → schedule.Machine (Memory T) (Line T) (Call T) (Event T)
queue c = record {
  first = start c;
  rest = λ p. Idle None;
  is_idle = is_idle;
  starts = λ call idle. starts call;
  step = step c;
  wins = wins_exchange;
}

abbrev pub Pass : Type 0 → Type 0
Pass T = schedule.Pass (Line T) (Call T) (Event T)

abbrev pub State : Type 0 → Type 0
State T = schedule.State (Memory T) (Line T) (Call T) (Event T)

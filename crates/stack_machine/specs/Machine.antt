-- Treiber's stack as a machine: any number of passes put, take, fold, close, shut, look and gauge, one
-- atomic step at a time. `table` has its lines.
use Rattle.std.specs.Prelude.{ℕ, ◌==◌, ltb, leb, if◌then◌else◌, Bool, true, false, List, [], ◌∷◌, length, reverse, take, drop, Option as Slot, Some, None, Ok, Err}
use mathlib.Core.Option.{Option, none, some}
use Rattle.tagged_index.specs.declared.word.TheConstants.{NULL}
use Rattle.bounded_model.specs.declared.answers.Word.TheVariants.{Free as FreeWord, Top as TopWord}
use Rattle.bounded_model.specs.declared.answers.PutRefused.TheVariants.{Full as PutFull, Closed as PutClosed, Spent as PutSpent}
use Rattle.bounded_model.specs.declared.answers.TakeRefused.TheVariants.{Empty as TakeEmpty, Closed as TakeClosed, Spent as TakeSpent, Shut as TakeShut}
use Rattle.bounded_model.specs.declared.answers.TakeRefused.{TakeRefused}
use Rattle.bounded_model.specs.declared.history.Event.{Event}
use Rattle.bounded_model.specs.declared.history.Event.TheVariants.{Hold, Put, Take, TakeAll, Free, Close, Shut}
use Rattle.bounded_model.specs.declared.history.Order.TheVariants.{Lifo}
use Rattle.bounded_model.specs.Machine.{Shape}
use Rattle.machine.specs.Words.{Tagged, kept, raised, marked, with_second, store, start_word, start_link}
use Rattle.stack_machine.specs.declared.lines.Putting.{Putting}
use Rattle.stack_machine.specs.declared.lines.Direction.{Direction}
use Rattle.stack_machine.specs.declared.lines.Direction.TheVariants.{Down, Up}
use Rattle.stack_machine.specs.declared.lines.Taking.{Taking}
use Rattle.stack_machine.specs.declared.lines.Taking.TheVariants.{One, Whole}
use Rattle.stack_machine.specs.declared.lines.Answer.{Answer}
use Rattle.stack_machine.specs.declared.lines.Answer.TheVariants.{Put as AnswerPut, Take as AnswerTake, Fold as AnswerFold, Close as AnswerClose, Shut as AnswerShut, Look as AnswerLook, Gauge as AnswerGauge}
use Rattle.machine.specs.Schedule as schedule
use Rattle.machine.specs.Chains.{first, last, second, chain_from, with_home, away, full, vacant, filled, emptied, values_of, values_in}
use Rattle.machine.specs.Program.{Memories, marks, shuts, Then, stays, returns, Deed, rests, follows, links, swaps, answered, does, wins as won_by}
use Rattle.machine.specs.IndexList.{IndexList, load_top, follow_link, take_slot, take_all, link_to_top, give_chain}
use Rattle.stack_machine.specs.declared.lines.Giving.{Giving}
use Rattle.stack_machine.specs.declared.lines.Top.{Top}
use Rattle.stack_machine.specs.declared.lines.Top.TheVariants.{Free as FreeTop, Stack as StackTop}
use Rattle.stack_machine.specs.declared.lines.Link.{Link}
use Rattle.stack_machine.specs.declared.lines.Line.{Line}
use Rattle.stack_machine.specs.declared.lines.Line.TheVariants.{Idle, LoadFree, LoadFreeLink, TakeFree, LinkTaken, LoadTop, LinkToTop, SwapTop, LoadTopToRefuse, LoadTopToTake, LoadTopLink, TakeTop, TakeChain, LoadLinkToTurn, TurnLink, LoadLinkToFold, LoadFreeToGive, LinkToFree, GiveBack, LoadTopToClose, MarkTop, LoadTopToShut, ShutTop, LoadTopToLook, LoadTopToGauge}
use Rattle.stack_machine.specs.declared.lines.Call.{Call}
use Rattle.stack_machine.specs.declared.lines.Call.TheVariants.{Put as CallPut, Take as CallTake, Close as CallClose, Shut as CallShut, Look as CallLook, Gauge as CallGauge}

-- The words, and what each node's slot has. A slot that a pass holds has none; a slot that is empty
-- at home has some None
pub record Memory (T : Type 0) : Type 0 where
  pub free : Tagged
  pub top : Tagged
  pub link : ℕ → ℕ
  pub home : ℕ → Option (Slot T)

module _ {T : Type 0} where
  -- the values that have a node, the lowest first, and the values that have none
  abbrev pub placed : Putting T → List T
  placed put = take (length put.chain) put.values

  abbrev pub unplaced : Putting T → List T
  unplaced put = drop (length put.chain) put.values

  abbrev pub with_node : Putting T → ℕ → Putting T
  with_node put i = record put { chain = i ∷ put.chain }

  -- What the steps that change a word leave
  abbrev pub after_hold : Memory T → Tagged → ℕ → Memory T
  after_hold m w k = record m { free = raised w k; home = with_home m.home w.index none }

  -- a chain on top, with values of which the first stands lowest
  abbrev pub after_put_of : Memory T → Tagged → List ℕ → List T → Memory T
  after_put_of m w chain values = record m { top = raised w (first chain); home = filled m.home chain (reverse values) }

  abbrev pub after_put : Memory T → Tagged → Putting T → Memory T
  after_put m w put = after_put_of m w put.chain (placed put)

  abbrev pub after_take : Memory T → Tagged → ℕ → Memory T
  after_take m w k = record m { top = raised w k; home = with_home m.home w.index none }

  abbrev pub after_take_all : Memory T → Tagged → List ℕ → Memory T
  after_take_all m w chain = record m { top = raised w NULL; home = away m.home chain }

  abbrev pub after_give : Memory T → Tagged → List ℕ → Memory T
  after_give m w chain = record m { free = kept w (first chain); home = emptied m.home chain }

  abbrev pub after_close : Memory T → Tagged → Memory T
  after_close m w = record m { top = marked w }

  abbrev pub after_shut : Memory T → Tagged → Memory T
  after_shut m w = record m { top = with_second w }

  abbrev pub after_store : Memory T → ℕ → ℕ → Memory T
  after_store m i x = record m { link = store m.link i x }

  -- Where a pass continues, from its line and the word that it found
  abbrev pub ends : Answer T → Line T
  ends a = Idle (Some a)

  abbrev pub gives : List ℕ → Answer T → Line T
  gives chain a = LoadFreeToGive (record { chain = chain; answer = a })

  -- every value has a node, or the next one wants one
  abbrev pub next_node : Putting T → Line T
  next_node put = if ltb (length put.chain) (length put.values) then LoadFree put else LoadTop put

  -- No node can be had. The pass puts what it has in hand. With nothing in hand, the put is refused
  abbrev pub no_node : Putting T → Line T → Line T
  no_node put refused = if length put.chain == 0 then refused else LoadTop put

  abbrev pub at_load_free : ℕ → Putting T → Tagged → Line T
  at_load_free limit put w =
      if w.index == NULL then no_node put (LoadTopToRefuse put.values)
      else if leb limit w.tag then no_node put (ends (AnswerPut (Err (PutSpent put.values FreeWord w.tag))))
      else LoadFreeLink put w

  abbrev pub at_take_free : Putting T → Tagged → Line T
  at_take_free put w = if length put.chain == 0 then next_node (with_node put w.index) else LinkTaken (with_node put w.index)

  abbrev pub at_load_top : ℕ → Putting T → Tagged → Line T
  at_load_top limit put w =
      if w.mark then gives put.chain (AnswerPut (Err (PutClosed put.values)))
      else if leb limit w.tag then gives put.chain (AnswerPut (Err (PutSpent put.values TopWord w.tag)))
      else LinkToTop put w

  abbrev pub at_load_top_to_refuse : ℕ → List T → Tagged → Line T
  at_load_top_to_refuse limit values w =
      if w.mark then ends (AnswerPut (Err (PutClosed values)))
      else if leb limit w.tag then ends (AnswerPut (Err (PutSpent values TopWord w.tag)))
      else ends (AnswerPut (Err (PutFull values)))

  abbrev pub refuses : Taking → TakeRefused → Line T
  refuses One why = ends (AnswerTake (Err why))
  refuses (Whole d) why = ends (AnswerFold (Err why))

  abbrev pub takes : Taking → Tagged → Line T
  takes One w = LoadTopLink w
  takes (Whole d) w = TakeChain d w

  abbrev pub at_load_top_to_take : ℕ → Taking → Tagged → Line T
  at_load_top_to_take limit taking w =
      if w.second then refuses taking TakeShut
      else if w.index == NULL then refuses taking (if w.mark then TakeClosed else TakeEmpty)
      else if leb limit w.tag then refuses taking (TakeSpent TopWord w.tag)
      else takes taking w

  -- the chain of w is in hand, with these values from the top down
  abbrev pub at_take_chain : Direction → Tagged → List ℕ → List T → Line T
  at_take_chain Down w chain values = LoadLinkToFold (record { chain = chain; answer = AnswerFold (Ok (values, w.tag)) }) w.index
  at_take_chain Up w chain values = LoadLinkToTurn (record { chain = chain; answer = AnswerFold (Ok (reverse values, w.tag)) }) NULL w.index

  -- node i was linked to its upper neighbour, and k is the lower one
  abbrev pub at_turn_link : Giving T → ℕ → ℕ → Line T
  at_turn_link give i k = if k == NULL then LoadLinkToFold (record give { chain = reverse give.chain }) i else LoadLinkToTurn give i k

  abbrev pub at_load_link_to_fold : Giving T → ℕ → Line T
  at_load_link_to_fold give k = if k == NULL then LoadFreeToGive give else LoadLinkToFold give k

  abbrev pub at_load_top_to_close : Tagged → Line T
  at_load_top_to_close w = if w.mark then ends (AnswerClose false) else MarkTop w

  abbrev pub at_load_top_to_shut : Tagged → Line T
  at_load_top_to_shut w = if w.second then ends (AnswerShut false) else ShutTop w

abbrev pub is_up : Direction → Bool
is_up Down = false
is_up Up = true

abbrev pub same_top : Top → Top → Bool
same_top FreeTop FreeTop = true
same_top StackTop StackTop = true
same_top a b = false

-- the free nodes are list 0, the stack is list 1
abbrev pub list_of : Top → ℕ
list_of FreeTop = 0
list_of StackTop = 1

-- a give to the free nodes keeps the tag
abbrev pub keeps_tag : Top → Bool
keeps_tag FreeTop = true
keeps_tag StackTop = false

abbrev pub nodes_on : Top → IndexList Top Link
nodes_on top = record { top = top; link = λ i. record { top = top; index = i } }

abbrev pub free_nodes : IndexList Top Link
free_nodes = nodes_on FreeTop

abbrev pub stacked : IndexList Top Link
stacked = nodes_on StackTop

-- What one step does
abbrev pub Outcome : Type 0 → Type 0
Outcome T = schedule.Outcome (Memory T) (Line T) (Event T)

module _ {T : Type 0} where
  abbrev pub goes_on : Memory T → Line T → Outcome T
  goes_on m l = record { memory = m; line = l; events = [] }

  abbrev pub wins : Memory T → Line T → Event T → Outcome T
  wins m l e = record { memory = m; line = l; events = e ∷ [] }

  -- the memory as its places
  abbrev pub top_in : Memory T → Top → Tagged
  top_in m FreeTop = m.free
  top_in m StackTop = m.top

  -- one link serves whichever list a node is on
  abbrev pub memories : Memories T (Memory T) Top Link
  memories = record {
    same_place = same_top;
    same_link = λ a b. a.index == b.index;
    top_of = λ t. some (list_of t);
    keeps = keeps_tag;
    link_of = λ a. some (list_of a.top, a.index);
    of = λ tops link home. record { free = tops FreeTop; top = tops StackTop; link = λ i. link (stacked.link i); home = home };
    word = top_in;
    link = λ m a. m.link a.index;
    home = λ m. m.home;
  }

  -- a won exchange leads to a line, by one event
  abbrev pub by : Line T → (ℕ → Event T) → Then (Line T) (Event T)
  by l e = record { line = l; events = λ p. e p ∷ [] }

  -- the value that was in the node that TakeTop has won
  abbrev pub took : Tagged → List (Option (Slot T)) → Option (Then (Line T) (Event T))
  took w (some (Some v) ∷ others) = some (by (gives (w.index ∷ []) (AnswerTake (Ok (v, w.tag)))) (λ p. Take p v w.tag))
  took w were = none

  -- the values of the chain that TakeChain has won
  abbrev pub took_all : Direction → Tagged → List ℕ → List (Option (Slot T)) → Option (Then (Line T) (Event T))
  took_all d w chain were = some (by (at_take_chain d w chain (values_of were)) (λ p. TakeAll p (values_of were) w.tag))

  -- What each line does
  abbrev pub table : Shape → Line T → Deed T (Memory T) Top Link (Line T) (Event T)
  table c (Idle a) = rests
  -- put: a node from the free list ..
  table c (LoadFree put) = load_top free_nodes (at_load_free c.limit put)
  table c (LoadFreeLink put w) = follow_link free_nodes w (TakeFree put w)
  table c (TakeFree put w k) = take_slot free_nodes w k (λ was. some (by (at_take_free put w) Hold)) (LoadFree put)
  table c (LinkTaken put) = links (stacked.link (first put.chain)) (second put.chain) (next_node put)
  -- .. then onto the top
  table c (LoadTop put) = load_top stacked (at_load_top c.limit put)
  table c (LinkToTop put w) = link_to_top stacked (last put.chain) w (SwapTop put w)
  table c (SwapTop put w) = give_chain stacked w (first put.chain) (returns (full put.chain (reverse (placed put))) (by (ends (AnswerPut (Ok (w.tag, unplaced put)))) (λ p. Put p (placed put) w.tag))) (LoadTop put)
  table c (LoadTopToRefuse values) = load_top stacked (at_load_top_to_refuse c.limit values)
  -- take
  table c (LoadTopToTake taking) = load_top stacked (at_load_top_to_take c.limit taking)
  table c (LoadTopLink w) = follow_link stacked w (TakeTop w)
  table c (TakeTop w k) = take_slot stacked w k (took w) (LoadTopToTake One)
  -- fold: the whole chain, turned round if the fold goes from the bottom up, then its values
  table c (TakeChain d w) = take_all stacked w (is_up d) (λ m. chain_from c.capacity m.link w.index) (took_all d w) (LoadTopToTake (Whole d))
  table c (LoadLinkToTurn give above i) = follows (stacked.link i) (TurnLink give above i)
  table c (TurnLink give above i k) = links (stacked.link i) above (at_turn_link give i k)
  table c (LoadLinkToFold give i) = follows (stacked.link i) (at_load_link_to_fold give)
  -- a chain goes back to the free list
  table c (LoadFreeToGive give) = load_top free_nodes (LinkToFree give)
  table c (LinkToFree give w) = link_to_top free_nodes (last give.chain) w (GiveBack give w)
  table c (GiveBack give w) = give_chain free_nodes w (first give.chain) (returns (vacant give.chain) (by (ends give.answer) (λ p. Free p (length give.chain)))) (LoadFreeToGive give)
  -- close, shut, look, gauge
  table c LoadTopToClose = load_top stacked at_load_top_to_close
  table c (MarkTop w) = swaps StackTop w marks (stays (by (ends (AnswerClose true)) Close)) LoadTopToClose
  table c LoadTopToShut = load_top stacked at_load_top_to_shut
  table c (ShutTop w) = swaps StackTop w shuts (stays (by (ends (AnswerShut true)) Shut)) LoadTopToShut
  table c LoadTopToLook = load_top stacked (λ w. ends (AnswerLook (w.index == NULL)))
  table c LoadTopToGauge = load_top stacked (λ w. ends (AnswerGauge w.mark w.tag))

  -- the step of pass p at a line, and whether it is an exchange that wins
  abbrev pub step : Shape → Memory T → ℕ → Line T → Outcome T
  step c m p l = does memories (Idle None) m p l (table c l)

  abbrev pub wins_exchange : Memory T → Line T → Bool
  wins_exchange m l = won_by memories m (table (record { order = Lifo; capacity = 0; limit = 0; passes = 0 }) l)

  -- what the exchanges of TakeTop and of TakeChain leave
  abbrev pub wins_value : Memory T → ℕ → Tagged → ℕ → Option (Slot T) → Outcome T
  wins_value m p w k was = answered memories (Idle None) m p StackTop (raised w k) (w.index ∷ []) (took w (was ∷ []))

  abbrev pub wins_chain : Memory T → ℕ → Direction → Tagged → List ℕ → Outcome T
  wins_chain m p d w chain = wins (after_take_all m w chain) (at_take_chain d w chain (values_in m.home chain)) (TakeAll p (values_in m.home chain) w.tag)

  -- the nodes that a pass holds
  abbrev pub held : Line T → List ℕ
  held (LoadFree put) = put.chain
  held (LoadFreeLink put w) = put.chain
  held (TakeFree put w k) = put.chain
  held (LinkTaken put) = put.chain
  held (LoadTop put) = put.chain
  held (LinkToTop put w) = put.chain
  held (SwapTop put w) = put.chain
  held (LoadLinkToTurn give above i) = give.chain
  held (TurnLink give above i k) = give.chain
  held (LoadLinkToFold give i) = give.chain
  held (LoadFreeToGive give) = give.chain
  held (LinkToFree give w) = give.chain
  held (GiveBack give w) = give.chain
  held l = []

  abbrev pub is_idle : Line T → Bool
  is_idle (Idle a) = true
  is_idle l = false

  -- the first step of an operation
  abbrev pub starts : Call T → Line T
  starts (CallPut v vs) = LoadFree (record { values = v ∷ vs; chain = [] })
  starts (CallTake taking) = LoadTopToTake taking
  starts CallClose = LoadTopToClose
  starts CallShut = LoadTopToShut
  starts CallLook = LoadTopToLook
  starts CallGauge = LoadTopToGauge

-- the words and slots of a new stack; a number that is no node has 0 for a link, and no slot
abbrev pub start : {T : Type 0} → Shape → Memory T
start c = record {
  free = start_word 0;
  top = start_word NULL;
  link = λ i. if ltb i c.capacity then start_link c.capacity i else 0;
  home = λ i. if ltb i c.capacity then some None else none;
}

-- the whole machine, for schedules
abbrev pub stack : {T : Type 0} → Shape → schedule.Machine (Memory T) (Line T) (Call T) (Event T)
stack c = record {
  first = start c;
  rest = λ p. Idle None;
  is_idle = is_idle;
  starts = λ call idle. starts call;
  step = step c;
  wins = wins_exchange;
}

abbrev pub Pass : Type 0 → Type 0
Pass T = schedule.Pass (Line T) (Call T) (Event T)

abbrev pub State : Type 0 → Type 0
State T = schedule.State (Memory T) (Line T) (Call T) (Event T)

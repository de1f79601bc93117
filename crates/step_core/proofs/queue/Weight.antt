-- How many steps a line of the queue has left at most while no other pass wins an exchange, by how much an
-- exchange raises that number for another line, and how much the exchanges that its call may yet win do.
use Rattle.std.proofs.Common.{ℕ, ◌+◌, ◌≤◌, ◌&&◌, ◌||◌, not, Bool, cond, eqb, arith}
use Rattle.tagged_index.specs.declared.word.TheConstants.{NULL}
use Rattle.machine.specs.Words.{Tagged, same}
use Rattle.machine.proofs.Tests.{one_of, lost, lost_small, lost_grows, lost_two, lost_two_small}
use Rattle.queue_machine.specs.declared.lines.Seeking.{Seeking}
use Rattle.queue_machine.specs.declared.lines.Seeking.TheVariants.{ToLink, ToRefuse, ToClose, ToGauge}
use Rattle.queue_machine.specs.declared.lines.Line.{Line}
use Rattle.queue_machine.specs.declared.lines.Line.TheVariants.{Idle, LoadCells, LoadCellLink, TakeCell, LoadNodes, LoadNodeLink, TakeNode, StoreCell, LoadNext, PrepareNext, LoadTail, LoadTailNext, CheckTail, SwingTail, LinkNext, SwingToLinked, MarkNext, LoadHead, LoadTailToTake, LoadHeadNext, CheckHead, SwingTailToTake, LoadCell, TakeHead, LoadNodesToGive, LinkToNodes, GiveNode, LoadCellsToGive, LinkToCells, GiveCell, LoadHeadToLook, LoadNextToLook, CheckHeadToLook, LoadHeadToCount, LoadTailToCount, LoadNextToCount, CheckHeadToCount, CheckNextToGauge, LoadHeadToShut, ShutHead}
use Rattle.queue_machine.specs.Machine.{Memory, next_of}

-- how many steps are left where the end of the chain was found, and no other pass is in the way
abbrev pub turn : {T : Type 0} → Seeking T → ℕ
turn (ToLink link) = 3
turn (ToRefuse v) = 1
turn ToClose = 2
turn ToGauge = 2

abbrev pub seeking_harm : {T : Type 0} → Seeking T → ℕ
seeking_harm (ToLink link) = 8
seeking_harm (ToRefuse v) = 0
seeking_harm ToClose = 8
seeking_harm ToGauge = 0

-- the tail was not at the dummy, or has not moved since
abbrev pub passed : Tagged → Tagged → Tagged → Bool
passed tail h w = not (eqb w.index h.index) || same tail w

-- a node can be linked behind this one
abbrev pub is_end : Tagged → Bool
is_end x = eqb x.index NULL && not x.mark

module _ {T : Type 0} where
  -- what a tail that lags, or a closed end, costs who looks for the end; and what a tail that lags costs
  -- a take
  abbrev pub lag : Memory T → ℕ
  lag m = cond (is_end (m.next m.tail.index)) 0 4

  abbrev pub late : Memory T → ℕ
  late m = cond (eqb (next_of m m.tail.index) NULL) 0 5

  abbrev pub weight_of : (cells nodes head tail : Tagged) (next : ℕ → Tagged) (g e : ℕ) → Line T → ℕ
  weight_of cells nodes head tail next g e (Idle a) = 0
  weight_of cells nodes head tail next g e (LoadCells v) = 14 + g
  weight_of cells nodes head tail next g e (LoadCellLink v w) = 13 + g + lost (same cells w) 3
  weight_of cells nodes head tail next g e (TakeCell v w k) = 12 + g + lost (same cells w) 3
  weight_of cells nodes head tail next g e (LoadNodes put) = 11 + g
  weight_of cells nodes head tail next g e (LoadNodeLink put w) = 10 + g + lost (same nodes w) 3
  weight_of cells nodes head tail next g e (TakeNode put w k) = 9 + g + lost (same nodes w) 3
  weight_of cells nodes head tail next g e (StoreCell link) = 8 + g
  weight_of cells nodes head tail next g e (LoadNext link) = 7 + g
  weight_of cells nodes head tail next g e (PrepareNext link y) = 6 + g
  weight_of cells nodes head tail next g e (LoadTail s) = turn s + 2 + g
  weight_of cells nodes head tail next g e (LoadTailNext s w) = turn s + 1 + g + lost (same tail w) 3
  weight_of cells nodes head tail next g e (CheckTail s w y) = turn s + g + lost_two (same tail w) (same (next w.index) y) 3
  weight_of cells nodes head tail next g e (SwingTail s w y) = turn s + 3 + lost (same tail w) g
  weight_of cells nodes head tail next g e (LinkNext link w y) = 2 + lost (same (next w.index) y) (4 + g)
  weight_of cells nodes head tail next g e (SwingToLinked v w y) = 1
  weight_of cells nodes head tail next g e (MarkNext w y) = 1 + lost (same (next w.index) y) (4 + g)
  weight_of cells nodes head tail next g e LoadHead = 12 + e
  weight_of cells nodes head tail next g e (LoadTailToTake h) = 11 + e + lost (same head h) 4
  weight_of cells nodes head tail next g e (LoadHeadNext h w) = 10 + e + lost_two (same head h) (passed tail h w) 4
  weight_of cells nodes head tail next g e (CheckHead h w y) = 9 + e + lost_two (same head h) (passed tail h w) 4
  weight_of cells nodes head tail next g e (SwingTailToTake w y) = 13 + lost (same tail w) e
  weight_of cells nodes head tail next g e (LoadCell h y) = 8 + e + lost (same head h) 6
  weight_of cells nodes head tail next g e (TakeHead h y k) = 7 + e + lost (same head h) 6
  weight_of cells nodes head tail next g e (LoadNodesToGive give) = 6
  weight_of cells nodes head tail next g e (LinkToNodes give w) = 5 + lost (same nodes w) 3
  weight_of cells nodes head tail next g e (GiveNode give w) = 4 + lost (same nodes w) 3
  weight_of cells nodes head tail next g e (LoadCellsToGive give) = 3
  weight_of cells nodes head tail next g e (LinkToCells give w) = 2 + lost (same cells w) 3
  weight_of cells nodes head tail next g e (GiveCell give w) = 1 + lost (same cells w) 3
  weight_of cells nodes head tail next g e LoadHeadToLook = 3
  weight_of cells nodes head tail next g e (LoadNextToLook h) = 2 + lost (same head h) 3
  weight_of cells nodes head tail next g e (CheckHeadToLook h y) = 1 + lost (same head h) 3
  weight_of cells nodes head tail next g e LoadHeadToCount = 4
  weight_of cells nodes head tail next g e (LoadTailToCount h) = 3 + lost (same head h) 4
  weight_of cells nodes head tail next g e (LoadNextToCount h w) = 2 + lost (same head h) 4
  weight_of cells nodes head tail next g e (CheckHeadToCount h w y) = 1 + lost (same head h) 4
  weight_of cells nodes head tail next g e (CheckNextToGauge w y) = 1 + lost (same (next w.index) y) (4 + g)
  weight_of cells nodes head tail next g e LoadHeadToShut = 2
  weight_of cells nodes head tail next g e (ShutHead h) = 1 + lost (same head h) 2

  abbrev pub weight : Memory T → Line T → ℕ
  weight m l = weight_of m.cells m.nodes m.head m.tail m.next (lag m) (late m) l

  -- what an exchange costs another line where it is won. One that moves the tail on costs nobody
  abbrev pub price : Line T → ℕ
  price (TakeCell v w k) = 3
  price (TakeNode put w k) = 3
  price (LinkNext link w y) = 8
  price (MarkNext w y) = 8
  price (TakeHead h y k) = 6
  price (GiveNode give w) = 3
  price (GiveCell give w) = 3
  price (ShutHead h) = 6
  price l = 0

  -- and what the call may still cost another line
  abbrev pub harm : Line T → ℕ
  harm (LoadCells v) = 14
  harm (LoadCellLink v w) = 14
  harm (TakeCell v w k) = 14
  harm (LoadNodes put) = 11
  harm (LoadNodeLink put w) = 11
  harm (TakeNode put w k) = 11
  harm (StoreCell link) = 8
  harm (LoadNext link) = 8
  harm (PrepareNext link y) = 8
  harm (LoadTail s) = seeking_harm s
  harm (LoadTailNext s w) = seeking_harm s
  harm (CheckTail s w y) = seeking_harm s
  harm (SwingTail s w y) = seeking_harm s
  harm (LinkNext link w y) = 8
  harm (MarkNext w y) = 8
  harm LoadHead = 12
  harm (LoadTailToTake h) = 12
  harm (LoadHeadNext h w) = 12
  harm (CheckHead h w y) = 12
  harm (SwingTailToTake w y) = 12
  harm (LoadCell h y) = 12
  harm (TakeHead h y k) = 12
  harm (LoadNodesToGive give) = 6
  harm (LinkToNodes give w) = 6
  harm (GiveNode give w) = 6
  harm (LoadCellsToGive give) = 3
  harm (LinkToCells give w) = 3
  harm (GiveCell give w) = 3
  harm LoadHeadToShut = 6
  harm (ShutHead h) = 6
  harm l = 0

module _ {T : Type 0} where
  turn_small : (s : Seeking T) → turn s ≤ 3
  turn_small (ToLink link) = omega arith
  turn_small s = omega arith

  seeking_harm_small : (s : Seeking T) → seeking_harm s ≤ 8
  seeking_harm_small (ToLink link) = omega arith
  seeking_harm_small s = omega arith

  pub lag_small : (m : Memory T) → lag m ≤ 4
  lag_small m = one_of (is_end (m.next m.tail.index)) 0 4 4 (omega arith) (omega arith)

  pub late_small : (m : Memory T) → late m ≤ 5
  late_small m = one_of (eqb (next_of m m.tail.index) NULL) 0 5 5 (omega arith) (omega arith)

  -- an exchange of the free cells, of the free nodes, and of the head
  pub cells_raise : (cells nodes head tail cells' : Tagged) (next : ℕ → Tagged) (g e : ℕ) (l : Line T) → weight_of cells' nodes head tail next g e l ≤ weight_of cells nodes head tail next g e l + 3
  cells_raise cells nodes head tail cells' next g e (Idle a) = omega arith
  cells_raise cells nodes head tail cells' next g e l = omega (arith, lost_small)

  pub nodes_raise : (cells nodes head tail nodes' : Tagged) (next : ℕ → Tagged) (g e : ℕ) (l : Line T) → weight_of cells nodes' head tail next g e l ≤ weight_of cells nodes head tail next g e l + 3
  nodes_raise cells nodes head tail nodes' next g e (Idle a) = omega arith
  nodes_raise cells nodes head tail nodes' next g e l = omega (arith, lost_small)

  pub head_raise : (cells nodes head tail head' : Tagged) (next : ℕ → Tagged) (g e : ℕ) (l : Line T) → weight_of cells nodes head' tail next g e l ≤ weight_of cells nodes head tail next g e l + 6
  head_raise cells nodes head tail head' next g e (Idle a) = omega arith
  head_raise cells nodes head tail head' next g e l = omega (arith, lost_small, lost_two_small)

  -- a link of the chain is changed: the tail may lag then, or the end be closed
  pub next_raise : (cells nodes head tail : Tagged) (next next' : ℕ → Tagged) (g e g' e' : ℕ) (l : Line T) → g' ≤ 4 → e' ≤ 5
      → weight_of cells nodes head tail next' g' e' l ≤ weight_of cells nodes head tail next g e l + 8
  next_raise cells nodes head tail next next' g e g' e' (Idle a) g_small e_small = omega arith
  next_raise cells nodes head tail next next' g e g' e' l g_small e_small = omega (arith, lost_small, lost_two_small)

  -- the tail is moved on from where it lagged: no line weighs more
  pub swing_raise : (cells nodes head tail tail' : Tagged) (next : ℕ → Tagged) (l : Line T) → weight_of cells nodes head tail' next 0 0 l ≤ weight_of cells nodes head tail next 4 5 l
  swing_raise cells nodes head tail tail' next (Idle a) = omega arith
  swing_raise cells nodes head tail tail' next (LinkNext link w y) = omega (arith, lost_grows (same (next w.index) y) 4 8 (omega arith))
  swing_raise cells nodes head tail tail' next (MarkNext w y) = omega (arith, lost_grows (same (next w.index) y) 4 8 (omega arith))
  swing_raise cells nodes head tail tail' next (CheckNextToGauge w y) = omega (arith, lost_grows (same (next w.index) y) 4 8 (omega arith))
  swing_raise cells nodes head tail tail' next l = omega (arith, lost_small, lost_two_small)

  pub weight_small : (m : Memory T) (l : Line T) → weight m l ≤ 20
  weight_small m (LoadTail s) = omega (arith, lag_small m, turn_small s)
  weight_small m (LoadTailNext s w) = omega (arith, lag_small m, turn_small s, lost_small)
  weight_small m (CheckTail s w y) = omega (arith, lag_small m, turn_small s, lost_two_small)
  weight_small m (SwingTail s w y) = omega (arith, lag_small m, turn_small s, lost_small)
  weight_small m l = omega (arith, lag_small m, late_small m, lost_small, lost_two_small)

  pub harm_small : (l : Line T) → harm l ≤ 14
  harm_small (LoadTail s) = omega (arith, seeking_harm_small s)
  harm_small (LoadTailNext s w) = omega (arith, seeking_harm_small s)
  harm_small (CheckTail s w y) = omega (arith, seeking_harm_small s)
  harm_small (SwingTail s w y) = omega (arith, seeking_harm_small s)
  harm_small l = omega arith

  pub price_small : (l : Line T) → price l ≤ 8
  price_small (Idle a) = omega arith
  price_small l = omega arith

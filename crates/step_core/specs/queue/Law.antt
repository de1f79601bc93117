-- What the queue's machine keeps in every schedule.
use Rattle.std.specs.Prelude.{◌≡◌, ◌≢◌, ℕ, ◌+◌, ◌<◌, ◌≤◌, ltb, if◌then◌else◌, List, ◌∷◌, ◌++◌, true, length, map, Some, None}
use mathlib.Core.Option.{some}
use lib.ListN.{get_elem?}
use Rattle.tagged_index.specs.declared.word.TheConstants.{NULL}
use Rattle.bounded_model.specs.Machine as bounded
use Rattle.machine.specs.Words.{times, total, Stands}
use Rattle.machine.specs.Seen.{Knows}
use Rattle.machine.specs.Chains.{last, HasValues, chain_from, values_in}
use Rattle.queue_machine.specs.declared.lines.Placing.{Placing}
use Rattle.queue_machine.specs.declared.lines.Answer.{Answer}
use Rattle.queue_machine.specs.declared.lines.Call.{Call}
use Rattle.queue_machine.specs.declared.lines.Line.{Line}
use Rattle.queue_machine.specs.declared.lines.Line.TheVariants.{Idle, LoadNodes}
use Rattle.queue_machine.specs.Machine.{Memory, Pass, State, is_idle, next_of, held_cells, held_nodes}
use Rattle.queue_machine.specs.Answers.{shape, state, IsRight}
use Rattle.queue_machine.specs.Deeds.{HasDone}

-- the lines of all passes
abbrev pub lines_of : {T : Type 0} → State T → List (Line T)
lines_of s = map (λ v. v.line) s.passes

-- the free cells, the free nodes, the nodes of the chain after its first, which is the dummy, and the parts of the whole chain before and
-- after the node that the tail names
pub record Lists : Type 0 where
  pub cells : List ℕ
  pub nodes : List ℕ
  pub behind : List ℕ
  pub before : List ℕ
  pub after : List ℕ

module _ {T : Type 0} where
  -- The chain stands for the bounded queue as it is by now. The head names the dummy, and the cells of the nodes after
  -- it have the values in their order. The tail names the last node or the one before. The last link has the mark
  -- exactly if the queue is closed, and the head the second mark exactly if it is shut
  pub record Represents (m : Memory T) (g : Lists) (now : bounded.State T) : Type 0 where
    pub chain : Stands (next_of m) m.head.index (m.head.index ∷ g.behind)
    pub values : HasValues m.home (map m.cell g.behind) now.values
    pub tail : m.head.index ∷ g.behind ≡ g.before ++ m.tail.index ∷ g.after
    pub lags : length g.after ≤ 1
    pub closed : (m.next (last (m.head.index ∷ g.behind))).mark ≡ now.closed
    pub shut : m.head.second ≡ now.shut

  -- Each of the n cells is free, in the chain or in one hand, and so is each of the n + 1 nodes. No other cell or node
  -- is anywhere, and free cells are empty. A put that has its cell and wants a node finds one
  pub record EachOnce (n limit : ℕ) (m : Memory T) (g : Lists) (passes : List (Pass T)) : Type 0 where
    pub free_cells : Stands m.clink m.cells.index g.cells
    pub free_nodes : Stands m.nlink m.nodes.index g.nodes
    pub empty : (i : ℕ) → 0 < times i g.cells → m.home i ≡ some None
    pub cells : (i : ℕ) → times i g.cells + times i (map m.cell g.behind) + total (λ v. times i (held_cells v.line)) passes ≡ if ltb i n then 1 else 0
    pub nodes : (j : ℕ) → times j g.nodes + times j (m.head.index ∷ g.behind) + total (λ v. times j (held_nodes v.line)) passes ≡ if ltb j (n + 1) then 1 else 0
    pub finds_node : (p : ℕ) (v : Pass T) (put : Placing T) → get_elem? passes p ≡ some v → v.line ≡ LoadNodes put → (m.nodes.index ≢ NULL) × (m.nodes.tag < limit)

  -- The tags count what has happened. That of the free cells counts the holds, that of the head the takes, and that of
  -- the tail the puts that it has passed. No tag is above the limit
  pub record Counts (limit : ℕ) (m : Memory T) (g : Lists) (now : bounded.State T) : Type 0 where
    pub cells : m.cells.tag ≡ now.holds
    pub head : m.head.tag ≡ now.takes
    pub tail : m.tail.tag + length g.after ≡ now.puts
    pub holds : now.holds ≤ limit
    pub puts : now.puts ≤ limit
    pub nodes : m.nodes.tag ≤ limit
    pub next : (j : ℕ) → (m.next j).tag ≤ limit

-- The history is one of a bounded queue, with room for n values, and it says what the words and cells are. What each
-- pass holds, has seen and has answered is right
pub record Lawful (T : Type 0) (n limit : ℕ) (s : State T) : Type 0 where
  pub legal : bounded.Legal (shape n limit) s.history
  pub lists : Lists
  pub represents : Represents s.memory lists (state n limit s.history)
  pub once : EachOnce n limit s.memory lists s.passes
  pub counts : Counts limit s.memory lists (state n limit s.history)
  pub hands : (p : ℕ) (v : Pass T) → get_elem? s.passes p ≡ some v → (state n limit s.history).hand p ≡ length (held_cells v.line)
  pub knows : (p : ℕ) (v : Pass T) → get_elem? s.passes p ≡ some v → Knows p v s.history
  pub answered : (p : ℕ) (v : Pass T) (a : Answer T) → get_elem? s.passes p ≡ some v → v.line ≡ Idle (Some a) → IsRight n limit v.begun v.seen a

-- a pass has answered the call that its operation was begun with, and has done what it answered
pub record HasAnswered {T : Type 0} (p : ℕ) (v : Pass T) (a : Answer T) : Type 0 where
  pub call : Call T
  pub of : v.call ≡ some call
  pub done : HasDone p call a v.begun v.seen

-- and so has each pass that has ended an operation
abbrev pub AllDone : {T : Type 0} → State T → Type 0
AllDone {T} s = (p : ℕ) (v : Pass T) (a : Answer T) → get_elem? s.passes p ≡ some v → v.line ≡ Idle (Some a) → HasAnswered p v a

-- a pass that has begun a call and is idle has ended it with an answer
abbrev pub NoneUnanswered : {T : Type 0} → State T → Type 0
NoneUnanswered {T} s = (p : ℕ) (v : Pass T) (call : Call T) → get_elem? s.passes p ≡ some v → v.call ≡ some call → is_idle v.line ≡ true
    → (a : Answer T) × (v.line ≡ Idle (Some a))

-- the values in the cells of a queue of n cells, along the chain from the node after the dummy
abbrev pub values_left : {T : Type 0} → ℕ → Memory T → List T
values_left n m = values_in m.home (map m.cell (chain_from n (next_of m) (next_of m m.head.index)))

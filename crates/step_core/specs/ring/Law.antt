-- What the ring's machine keeps in every schedule.
use Rattle.std.specs.Prelude.{◌≡◌, ℕ, ◌+◌, ◌-◌, ◌*◌, ◌<◌, ◌≤◌, true, List, map, Some, None}
use mathlib.Core.Option.{some}
use lib.ListN.{get_elem?}
use Rattle.bounded_model.specs.Machine as bounded
use Rattle.machine.specs.Seen.{Knows}
use Rattle.ring_machine.specs.declared.lines.Answer.{Answer}
use Rattle.ring_machine.specs.declared.lines.Call.{Call}
use Rattle.ring_machine.specs.declared.lines.Line.{Line}
use Rattle.ring_machine.specs.declared.lines.Line.TheVariants.{Idle}
use Rattle.ring_machine.specs.Machine.{Memory, Pass, State, is_idle, empty_at, full_at}
use Rattle.ring_machine.specs.Answers.{shape, state, IsRight}
use Rattle.ring_machine.specs.Rule.{Hints, Turned, Marked}
use Rattle.ring_machine.specs.Places.{NothingTwice}
use Rattle.ring_machine.specs.Deeds.{HasDone}

-- the lines of all passes
abbrev pub lines_of : {T : Type 0} → State T → List (Line T)
lines_of s = map (λ v. v.line) s.passes

module _ {T : Type 0} where
  -- The slots stand for the bounded queue as it is by now. Those of the positions from the front to the back have its
  -- values in their order, and the remaining slots are empty. The hints are at most a stride before the front and the
  -- back. The marks say closed and shut
  pub record Represents (n laps : ℕ) (m : Memory T) (now : bounded.State T) : Type 0 where
    pub turned : Turned n laps now.puts now.takes m.slot
    pub values : (i lap : ℕ) (v : T) → i < n → now.takes ≤ lap * n + i → get_elem? now.values (lap * n + i - now.takes) ≡ some v → ((m.slot i).tag ≡ full_at lap) × (m.home (m.slot i).index ≡ some (Some v))
    pub empty : (i lap : ℕ) → i < n → (m.slot i).tag ≡ empty_at lap → m.home (m.slot i).index ≡ some None
    pub marked : Marked n now.puts now.takes now.closed now.shut m.slot
    pub tail : Hints n now.puts m.tail
    pub head : Hints n now.takes m.head

-- The history is one of a bounded queue of n values, and it says what the words and cells are. Each of the `cells`
-- cells is in one slot or the spare one of one pass. No pass has anything in hand. What each pass has seen and has
-- answered is right
pub record Lawful (T : Type 0) (n laps cells : ℕ) (s : State T) : Type 0 where
  pub legal : bounded.Legal (shape n laps) s.history
  pub represents : Represents n laps s.memory (state n laps s.history)
  pub once : NothingTwice n cells s.memory (lines_of s)
  pub hands : (p : ℕ) → (state n laps s.history).hand p ≡ 0
  pub knows : (p : ℕ) (v : Pass T) → get_elem? s.passes p ≡ some v → Knows p v s.history
  pub answered : (p : ℕ) (v : Pass T) (c : ℕ) (a : Answer T) → get_elem? s.passes p ≡ some v → v.line ≡ Idle c (Some a) → IsRight n laps v.begun v.seen a

-- a pass has answered the call that its operation was begun with, and has done what it answered
pub record HasAnswered {T : Type 0} (p : ℕ) (v : Pass T) (a : Answer T) : Type 0 where
  pub call : Call T
  pub of : v.call ≡ some call
  pub done : HasDone p call a v.begun v.seen

-- and so has each pass that has ended an operation
abbrev pub AllDone : {T : Type 0} → State T → Type 0
AllDone {T} s = (p : ℕ) (v : Pass T) (c : ℕ) (a : Answer T) → get_elem? s.passes p ≡ some v → v.line ≡ Idle c (Some a) → HasAnswered p v a

-- a pass that has begun a call and is idle has ended it with an answer
abbrev pub NoneUnanswered : {T : Type 0} → State T → Type 0
NoneUnanswered {T} s = (p : ℕ) (v : Pass T) (call : Call T) → get_elem? s.passes p ≡ some v → v.call ≡ some call → is_idle v.line ≡ true
    → (c : ℕ) × (a : Answer T) × (v.line ≡ Idle c (Some a))

-- What the stack's machine keeps in every schedule.
use Rattle.std.specs.Prelude.{◌≡◌, ℕ, ◌+◌, ◌<◌, ◌≤◌, ltb, if◌then◌else◌, List, true, length, map, Some, None}
use mathlib.Core.Option.{some}
use lib.ListN.{get_elem?}
use Rattle.bounded_model.specs.Machine.{Shape, Legal}
use Rattle.machine.specs.Words.{times, total, Stands}
use Rattle.stack_machine.specs.declared.lines.Answer.{Answer}
use Rattle.stack_machine.specs.declared.lines.Call.{Call}
use Rattle.stack_machine.specs.declared.lines.Line.{Line}
use Rattle.stack_machine.specs.declared.lines.Line.TheVariants.{Idle}
use Rattle.machine.specs.Chains.{HasValues}
use Rattle.machine.specs.Seen.{Knows}
use Rattle.stack_machine.specs.Answers.{shape, state, IsRight}
use Rattle.stack_machine.specs.Deeds.{HasDone}
use Rattle.stack_machine.specs.Machine.{Pass, State, is_idle, held}
use Rattle.stack_machine.specs.Rule.{Kept}

-- v is pass p
abbrev pub IsPass : {T : Type 0} → State T → ℕ → Pass T → Type 0
IsPass s p v = get_elem? s.passes p ≡ some v

-- the lines of all passes
abbrev pub lines_of : {T : Type 0} → State T → List (Line T)
lines_of s = map (λ v. v.line) s.passes

-- the rule holds of the words, of the lines of all passes, and of the history
abbrev pub MeetsRule : {T : Type 0} → ℕ → ℕ → State T → Type 0
MeetsRule {T} n limit s = Kept T n limit s.memory some (lines_of s) s.history

-- The history is one of a bounded stack, with room for n values. The words and slots stand for it: the top for its
-- values, the first mark for closed, the second for shut, the tags for its numbers. Each node below n is once on the
-- free list, on the stack or in one hand, and no other node is anywhere. What each pass has seen and answered is right
pub record Lawful (T : Type 0) (n limit : ℕ) (s : State T) : Type 0 where
  pub legal : Legal (shape n limit) s.history
  pub frees : List ℕ
  pub stack : List ℕ
  pub free_stands : Stands s.memory.link s.memory.free.index frees
  pub top_stands : Stands s.memory.link s.memory.top.index stack
  pub once : (i : ℕ) →
      times i frees + times i stack + total (λ v. times i (held v.line)) s.passes ≡ if ltb i n then 1 else 0
  pub empty : (i : ℕ) → 0 < times i frees → s.memory.home i ≡ some None
  pub stored : HasValues s.memory.home stack (state n limit s.history).values
  pub closed : s.memory.top.mark ≡ (state n limit s.history).closed
  pub shut : s.memory.top.second ≡ (state n limit s.history).shut
  pub free_tag : s.memory.free.tag ≡ (state n limit s.history).holds
  pub top_tag : s.memory.top.tag ≡ (state n limit s.history).puts + (state n limit s.history).takes
  pub free_limit : s.memory.free.tag ≤ limit
  pub top_limit : s.memory.top.tag ≤ limit
  pub hands : (p : ℕ) (v : Pass T) → IsPass s p v →
      (state n limit s.history).hand p ≡ length (held v.line)
  pub knows : (p : ℕ) (v : Pass T) → IsPass s p v → Knows p v s.history
  pub answered : (p : ℕ) (v : Pass T) (a : Answer T) → IsPass s p v → v.line ≡ Idle (Some a) →
      IsRight n limit v.begun v.seen a

-- a pass has answered the call that its operation was begun with, and has done what it answered
pub record HasAnswered {T : Type 0} (c : Shape) (p : ℕ) (v : Pass T) (a : Answer T) : Type 0 where
  pub call : Call T
  pub of : v.call ≡ some call
  pub done : HasDone c p call a v.begun v.seen

-- and so has each pass that has ended an operation
abbrev pub AllDone : {T : Type 0} → Shape → State T → Type 0
AllDone {T} c s =
    (p : ℕ) (v : Pass T) (a : Answer T) → IsPass s p v → v.line ≡ Idle (Some a) → HasAnswered c p v a

-- a pass that has begun a call and is idle has ended it with an answer
abbrev pub NoneUnanswered : {T : Type 0} → State T → Type 0
NoneUnanswered {T} s = (p : ℕ) (v : Pass T) (call : Call T) → IsPass s p v → v.call ≡ some call → is_idle v.line ≡ true
    → (a : Answer T) × (v.line ≡ Idle (Some a))

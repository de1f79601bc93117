-- What folds and ranges do to a stack's pass.
use Rattle.std.specs.Prelude.{ℕ, List, Bool, true, false}
use Rattle.index_list.specs.declared.front.Front.{Front}
use Rattle.index_list.specs.declared.front.Front.TheVariants.{First, Last}
use Rattle.treiber_stack.specs.Bulk.{IsCopying}
use Rattle.treiber_stack.specs.Calls as stack
use Rattle.treiber_stack.specs.Calls.{AnyOp}
use Rattle.lockfree_c.specs.Passes.{PassBegan, PassWorks}
use Rattle.lockfree_c.specs.Stacks.{Copied, CopiedOn, Folded, Stack, stack_reading}
use Rattle.lockfree_c.specs.declared.answers.Answer.{Answer}
use Rattle.lockfree_c.specs.declared.calls.stack.StackWork.{StackWork}
use Rattle.lockfree_c.specs.declared.calls.stack.StackWork.TheVariants.{Copy}
use Rattle.lockfree_c.specs.declared.pass.PassOf.{PassOf}
use Rattle.lockfree_c.specs.declared.work.UnderWay.{UnderWay}
use Rattle.lockfree_c.specs.declared.work.UnderWay.TheVariants.{Work}

abbrev pub StackPass : Type 0
StackPass = PassOf Stack (stack.Pass ℕ) (AnyOp ℕ) StackWork

abbrev pub StackUnderWay : Type 0
StackUnderWay = UnderWay (AnyOp ℕ) StackWork

-- which end a fold goes from
abbrev pub front_from : Bool → Front
front_from true = Last
front_from false = First

abbrev pub PassFolded : ℕ → StackPass → Front → StackPass → Answer → Type 0
PassFolded tries p front q a = PassBegan stack_reading (Folded p.container.value tries front) p q a

-- A range from an array of C's

-- its put is tried, from what the pass had seen; or the put of it that is under way is tried further
abbrev pub CopiedFrom : ℕ → StackUnderWay → StackPass → List ℕ → StackPass → Answer → Type 0
CopiedFrom tries (Work (Copy op)) p values q a = PassWorks (CopiedOn p.container.value tries values op) p q a
CopiedFrom tries u p values q a = PassBegan stack_reading (Copied p.container.value tries values) p q a

abbrev pub PassCopied : ℕ → StackPass → List ℕ → StackPass → Answer → Type 0
PassCopied tries p values q a = CopiedFrom tries p.stage.under_way p values q a

-- a put of an array that is under way continues with the values that it was begun with
abbrev pub ContinuesAt : Stack → StackUnderWay → List ℕ → Type 0
ContinuesAt c (Work (Copy op)) values = IsCopying c values op
ContinuesAt c u values = Unit {0}

abbrev pub Continues : StackPass → List ℕ → Type 0
Continues p values = ContinuesAt p.container.value p.stage.under_way values

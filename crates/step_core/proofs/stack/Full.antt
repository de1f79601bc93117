-- A put of the stack is refused as full only if it is full.
use Rattle.std.proofs.Common.{ℕ, suc, ◌+◌, ◌≤◌, List, ◌∷◌, ◌++◌, length}
use Rattle.stack_machine.specs.declared.lines.Answer.{Answer}
use Rattle.stack_machine.specs.declared.lines.Call.{Call}
use Rattle.stack_machine.specs.declared.lines.Call.TheVariants.{Put as CallPut}
use Rattle.stack_machine.specs.Answers.{state}
use Rattle.step_core.specs.Linearizable.{Entry, events, most_in_hand, IsLinearization}
use Rattle.step_core.specs.stack.Object.{object, full_put}
use Rattle.step_core.proofs.InTime.{run_before}
use Rattle.step_core.proofs.Full.{full}

pub is_full : {T : Type 0} (n limit p : ℕ) (v : T) (vs us : List T) (newer older : List (Entry T (Call T) (Answer T))) → IsLinearization (object n limit) (newer ++ full_put p v vs us ∷ older)
    → n + suc (length vs) ≤ length (state n limit (events older)).values + most_in_hand (object n limit) older
is_full n limit p v vs us newer older run =
    let r = run_before (object n limit) newer (full_put p v vs us ∷ older) run in
    full (object n limit) older r.2 p (CallPut v vs) r.0 r.1.2 r.1.1.0

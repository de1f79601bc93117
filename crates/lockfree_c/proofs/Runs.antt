-- A call that is continued for some steps is still under way, or was one run of its machine.
use Rattle.std.proofs.Common.{sym, subst}
use Rattle.std.specs.Prelude.{◌≡◌, ◌+◌, ◌≤◌, ℕ}
use Rattle.atomic_table.specs.Seated.{TableId}
use Rattle.bounded_model.specs.declared.answers.Stepped.{Stepped}
use Rattle.bounded_model.specs.declared.answers.Stepped.TheVariants.{Again, Done}
use Rattle.bounded_model.specs.declared.views.PassView.{PassView}
use Rattle.bounded_model.specs.Stepping.{MatchStepped}
use Rattle.running.specs.Code.{Account}
use Rattle.running.specs.Kept.{IsPassAt, Makes, OpRunsFor, WasRun, pass_in, underway_in}
use Rattle.running.specs.Machine.{Names, Machine}
use Rattle.running.specs.Passes as passes
use Rattle.running.specs.declared.kept.Answered.{Answered}
use Rattle.running.specs.declared.kept.PassWith.{PassWith}
use Rattle.running.specs.declared.op.Op.{Op}

module _ {T L O K R S D : Type 0} {names : Names L O} (m : Machine T L O names) (c : Account T L O S (Answered K R)) (Keeps : L → K → Type 0) (id : TableId) (IsCall : D → O → Type 0) (Gives : D → PassView T → PassView T → R → Type 0) where
  abbrev Promises : O → PassView T → PassView T → R → Type 0
  Promises o begun now r = (call : D) → IsCall call o → Gives call begun now r

  abbrev IsMaking : D → Op T L O S → Type 0
  IsMaking call op = Makes m c id (IsCall call) op

  module _ (n : ℕ) (op : Op T L O S) where
    abbrev Ran : Stepped (Op T L O S) (PassWith T L K) R → Type 0
    Ran made = OpRunsFor m c Keeps id Promises n op made

    pub tried_for : (made : Stepped (Op T L O S) (PassWith T L K) R) → Ran made → (call : D) → IsMaking call op → MatchStepped made
        (λ next. IsMaking call next × ((underway_in names next.pass).begun ≡ (underway_in names op.pass).begun))
        (λ at reply. IsPassAt m Keeps id at × Gives call (underway_in names op.pass).begun (pass_in at) reply × WasRun m c (IsCall call) (underway_in names op.pass).begun at reply)
    tried_for (Again next) e call is = (record { call = subst (IsCall call) (sym e.2) is.call; under_way = e.0 }, e.1)
    tried_for (Done at reply) e call is = (e.0.of, e.0.gives call is.call, record { operation = op.operation; call = is.call; ran = e.0.ran })

    pub took_for : (made : Stepped (Op T L O S) (PassWith T L K) R) → Ran made → MatchStepped made
        (λ next. (passes.pass_in next.pass).steps ≡ (passes.pass_in op.pass).steps + n)
        (λ at reply. (pass_in at).steps ≤ (passes.pass_in op.pass).steps + n)
    took_for (Again next) e = e.3
    took_for (Done at reply) e = e.1

use Rattle.std.proofs.Common.{◌∷◌, [], ◌++◌, sym, subst}
use Rattle.treiber_stack.specs.Bulk.{IsFolding}
use Rattle.stack_tests.proofs.fold_parts.fold_in_parts.Goals as goal
use Rattle.stack_tests.proofs.fold_parts.fold_in_parts.Goals.{in-Again, in-Value}

pub loop-preserved : goal.loop-preserved
loop-preserved g c =
    let i = c.loop.invariant in
    elim c.match-run_fold_for.branch [
      | in-Again w ↦ (i.0, i.1, subst (IsFolding c.args.stack.now i.0 i.1) (sym w.fold-is) (w.in-Again.ensures.tried i.0 i.1 i.2).0)
      | in-Value w ↦ (i.0, i.1 ++ w.in-Value.value ∷ [], subst (IsFolding c.args.stack.now i.0 (i.1 ++ w.in-Value.value ∷ [])) (sym w.fold-is) (w.in-Value.ensures.tried i.0 i.1 i.2).0)
    ]

pub returns-in-Done : goal.returns-in-Done
returns-in-Done g c = let i = c.loop.invariant in (c.in-Done.ensures.tried i.0 i.1 i.2).0

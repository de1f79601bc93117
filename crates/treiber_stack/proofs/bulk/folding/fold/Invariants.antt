use Rattle.std.proofs.Common.{◌≡◌, List, length}
use Rattle.bounded_model.specs.Consumes.{Folds}
use Rattle.stack_table.specs.declared.operation.Operation.TheVariants.{Fold as FoldFirst}
use Rattle.treiber_stack.specs.Bulk.{IsFoldingWith}
use Rattle.treiber_stack.specs.Calls.{begun_with, pass_in}
use Rattle.treiber_stack.proofs.bulk.folding.fold.Given as goal

abbrev pub invariant-loop-done : goal.invariant-loop-done
invariant-loop-done g l =
    let stack = l.fn.on in
    (values : List g.row.T.Denot)
    × IsFoldingWith g.D.Tie.rule stack l.fn.front values (record { pass = l.pass; operation = FoldFirst l.fn.front; at = l.at })
    × (length values ≡ l._done)
    × (begun_with g.D.Tie.rule stack l.pass ≡ pass_in l.fn.by)
    × Folds (λ s x t. goal.F-post g l.f s x t) l.fn.state values l.folded

use Rattle.std.proofs.Common.{◌≡◌, ℕ, ◌+◌, ◌≤◌, List}
use Rattle.running.specs.Passes.{pass_in}
use Rattle.stack_table.specs.declared.operation.Operation.{Operation}
use Rattle.treiber_stack.specs.code.Ranging.{IsRefused, IsRestoring}
use Rattle.treiber_stack.specs.Calls.{begun_with}
use Rattle.treiber_stack.specs.declared.code.refusing.Barred.{Barred}
use Rattle.treiber_stack.proofs.bulk.loading.restore.Given as goal

abbrev pub invariant-loop-moved : goal.invariant-loop-moved
invariant-loop-moved g l =
    ((o : Operation g.row.T.Denot) (vs : List g.row.T.Denot) (why : Barred) → IsRefused g.D.Tie.rule l.fn.on o l.fn.by vs l.fn.held why → g.V.Source.left l.fn.values vs l.fn.held.count
    → IsRestoring g.D.Tie.rule l.fn.on o l.pass vs l.fn.held why l.moved l.index × ((m : ℕ) × (m + l.moved ≡ l.fn.held.count) × g.V.Source.left l.values vs m) × (begun_with g.D.Tie.rule l.fn.on l.pass ≡ begun_with g.D.Tie.rule l.fn.on l.fn.by))
    × ((pass_in l.pass).steps ≤ (pass_in l.fn.by).steps + l.moved)
    × (g.V.Source.borrow l.values ≡ g.V.Source.borrow l.fn.values)

use Rattle.std.proofs.Common.{◌≡◌, List}
use Rattle.treiber_stack.specs.code.RangeTrying.{IsRangeOpWith, left_at}
use Rattle.treiber_stack.specs.Calls.{begun_with}
use Rattle.treiber_stack.proofs.bulk.ranging.run_whole.Given as goal

abbrev pub invariant-loop : goal.invariant-loop
invariant-loop g l =
    (goal.iterator-loop g).can_next l.iterator' × (goal.iterator-loop g).is_finite l.iterator'
    × ((vs : List g.row.T.Denot) → IsRangeOpWith g.D.Tie.rule l.fn.on vs l.fn.begun → g.V.Source.left l.fn.values vs (left_at l.fn.begun.at.at l.fn.begun.at.held)
    → IsRangeOpWith g.D.Tie.rule l.fn.on vs l.range × g.V.Source.left l.values vs (left_at l.range.at.at l.range.at.held) × (begun_with g.D.Tie.rule l.fn.on l.range.pass ≡ begun_with g.D.Tie.rule l.fn.on l.fn.begun.pass))
    × (g.V.Source.borrow l.values ≡ g.V.Source.borrow l.fn.values)

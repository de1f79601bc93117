use Rattle.std.proofs.Common.{◌≡◌, List}
use Rattle.treiber_stack.specs.code.RangeTrying.{IsRangeOpWith, left_at}
use Rattle.treiber_stack.specs.Calls.{begun_with}
use Rattle.treiber_stack.proofs.RangeTook.{Come}
use Rattle.treiber_stack.proofs.bulk.range_trying.run_for.Given as goal

abbrev pub invariant-loop-round : goal.invariant-loop-round
invariant-loop-round g l =
    ((vs : List g.row.T.Denot) → IsRangeOpWith g.D.Tie.rule l.fn.on vs l.fn.op → g.V.Source.left l.fn.values vs (left_at l.fn.op.at.at l.fn.op.at.held)
    → IsRangeOpWith g.D.Tie.rule l.fn.on vs l.range × g.V.Source.left l.values vs (left_at l.range.at.at l.range.at.held) × (begun_with g.D.Tie.rule l.fn.on l.range.pass ≡ begun_with g.D.Tie.rule l.fn.on l.fn.op.pass))
    × Come l.fn.steps l.fn.op l.round l.range
    × (g.V.Source.borrow l.values ≡ g.V.Source.borrow l.fn.values)

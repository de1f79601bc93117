use Rattle.std.proofs.Common.{◌≡◌, ◌+◌, ℕ}
use Rattle.running.specs.Ops.{IsUnderWay}
use Rattle.running.specs.Passes.{begun_of}
use Rattle.runs.specs.Made.{HasMade}
use Rattle.runs.proofs.counting.step_for.Given as goal

abbrev pub invariant-loop-done : goal.invariant-loop-done
invariant-loop-done g l =
    let key = g.C.OnTable.key l.fn.on in
    let c = g.S.Code.account key in
    let m = g.M.Machine.machine key in
    IsUnderWay m c (g.C.OnTable.id l.fn.on) l.op
    × (l.op.operation ≡ l.fn.op.operation) × (begun_of m l.op.pass ≡ begun_of m l.fn.op.pass)
    × ((k : ℕ) → HasMade g.M.Machine.names l.fn.op.operation l.fn.op.pass.seat.me.0 k → HasMade g.M.Machine.names l.op.operation l.op.pass.seat.me.0 (k + l._done))

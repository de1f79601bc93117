use Rattle.std.proofs.Common.{◌≡◌, ◌+◌}
use Rattle.running.specs.Code.{Tells}
use Rattle.running.specs.Passes.{Since, pass_in}
use Rattle.running.specs.Steps.{Stands}
use Rattle.running.specs.declared.code.Next.TheVariants.{On}
use Rattle.running.proofs.calls.run_for.Given as goal

abbrev pub invariant-loop-done : goal.invariant-loop-done
invariant-loop-done g l =
    let key = g.C.OnTable.key l.fn.on in
    let s = g.S.Code.account key in
    let m = g.M.Machine.machine key in
    Stands m s (g.C.OnTable.id l.fn.on) l.pass l.at
    × (l.fn.operation ≡ s.operation l.at) × Since m l.fn.by l.pass
    × ((pass_in l.pass).steps ≡ (pass_in l.fn.by).steps + l._done)
    × Tells s.told l.fn.under_way (On l.at)

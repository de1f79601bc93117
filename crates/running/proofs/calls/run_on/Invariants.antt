use Rattle.std.proofs.Common.{◌≡◌}
use Rattle.running.specs.Code.{Tells}
use Rattle.running.specs.Passes.{Since}
use Rattle.running.specs.Steps.{Stands}
use Rattle.running.specs.declared.code.Next.TheVariants.{On}
use Rattle.running.proofs.calls.run_on.Given as goal

abbrev pub invariant-loop : goal.invariant-loop
invariant-loop g l =
    let key = g.C.OnTable.key l.fn.on in
    let s = g.S.Code.account key in
    let m = g.M.Machine.machine key in
    (goal.iterator-loop g).can_next l.iterator' × (goal.iterator-loop g).is_finite l.iterator'
    × Stands m s (g.C.OnTable.id l.fn.on) l.pass l.at
    × (l.fn.operation ≡ s.operation l.at) × Since m l.fn.by l.pass
    × Tells s.told l.fn.under_way (On l.at)

use Rattle.std.proofs.Common.{subst}
use Rattle.running.specs.Rule.{Rule}
use Rattle.running.specs.Going.{Brought}
use Rattle.running.proofs.Allows.{moving, fetch_law}
use Rattle.running.proofs.Going.{steps_so, now_going}
use Rattle.running.proofs.steps.fetch_step.Goals as goal

pub load_as-requires-clause-allowed : goal.load_as-requires-clause-allowed
load_as-requires-clause-allowed g c = let a = c.args in let m = g.M.Machine.machine a.table.now.key in let me = a.seat.now.me in
    moving (Rule m) _ a.at a.seat.now.id me (λ n me'. Brought m a.operation.now n me me')
    (λ s met. fetch_law (g.met.M.Lawful.lawful a.table.now.key) a.operation.now me a.seat.now.id a.at c.requires.access s met)

pub returns-clause-steps : goal.returns-clause-steps
returns-clause-steps g c =
    let m = g.M.Machine.machine c.args.table.now.key in
    let won = c.load_as.ensures.told in
    record { slots = won.0; moved = won.1; fits = λ begun l going. subst (λ k. m.core.Fits k won.0) (now_going m going) won.2; steps = λ begun l going. steps_so (g.met.M.Lawful.lawful c.args.table.now.key) going won.3 }

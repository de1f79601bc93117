use Rattle.running.specs.Rule.{Rule}
use Rattle.running.specs.Going.{Returned}
use Rattle.running.proofs.Allows.{moving, stow_law}
use Rattle.running.proofs.Going.{steps_so}
use Rattle.running.proofs.steps.stow_step.Goals as goal

pub load_as-requires-clause-allowed : goal.load_as-requires-clause-allowed
load_as-requires-clause-allowed g c = let a = c.args in let m = g.M.Machine.machine a.table.now.key in let me = a.seat.now.me in
    moving (Rule m) _ a.at a.seat.now.id me (λ n me'. Returned m a.operation.now n me me')
    (λ s met. stow_law (g.met.M.Lawful.lawful a.table.now.key) a.operation.now me a.seat.now.id a.at c.requires.access c.requires.fits s met)

pub returns-clause-seat : goal.returns-clause-seat
returns-clause-seat g c = (c.load_as.ensures.seat.0, c.load_as.ensures.told.0)

pub returns-clause-steps : goal.returns-clause-steps
returns-clause-steps g c = λ begun l going. steps_so (g.met.M.Lawful.lawful c.args.table.now.key) going c.load_as.ensures.told.1

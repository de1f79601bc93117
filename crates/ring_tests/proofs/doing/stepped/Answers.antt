-- The call stays the same.
use Rattle.std.proofs.Common.{subst}
use Rattle.ring_tests.specs.Doing.{IsDoing}
use Rattle.ring_tests.specs.declared.doing.Doing.{Doing}
use Rattle.ring_tests.proofs.doing.stepped.Goals as goal

pub returns-in-Again : goal.returns-in-Again
returns-in-Again c =
    let P : Doing → Type 0 = λ d. IsDoing c.args.ring.now d in
    let i = subst P c.in-Calls.is c.requires in
    (i.0, (c.in-Again.ensures i.0 i.1).0)

pub returns-in-Done : goal.returns-in-Done
returns-in-Done c =
    let P : Doing → Type 0 = λ d. IsDoing c.args.ring.now d in
    let i = subst P c.in-Calls.is c.requires in
    (c.in-Done.ensures i.0 i.1).0

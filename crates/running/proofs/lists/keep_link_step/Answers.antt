use Rattle.std.proofs.Common.{[], refl, ap, subst}
use Rattle.running.specs.Going.{Found}
use Rattle.running.proofs.Going.{steps_so}
use Rattle.running.proofs.lists.keep_link_step.Goals as goal

pub returns-then-not-keep_link-clause-steps : goal.returns-then-not-keep_link-clause-steps
returns-then-not-keep_link-clause-steps g c = let a = c.args in
    subst (λ v. Found (g.M.Machine.machine a.table.now.key) a.operation.now v c.store_link_step.new.seat.me.0 a.next []) (ap (λ m. m.0) (c.if-not-keep_link.ensures.other refl)) c.store_link_step.ensures.steps

pub returns-else-not-keep_link-clause-steps : goal.returns-else-not-keep_link-clause-steps
returns-else-not-keep_link-clause-steps g c = λ begun l going. steps_so (g.met.M.Lawful.lawful c.args.table.now.key) going (c.if-not-keep_link.ensures.step refl).1.1.said

use Rattle.std.proofs.Common.{rules}
use Rattle.relay.specs.Promises.{Relays, IsTooSmall, total}
use Rattle.file_relay.specs.Relaying.{plan_of, shape_for}
use Rattle.file_relay.proofs.AllDelivered.{is-relayed}
use Rattle.file_relay.proofs.relaying.relay_through.Goals as goal

pub returns-clause-relayed : goal.returns-clause-relayed
returns-clause-relayed g c =
    let args = c.args.args.now in
    let inputs = c.args.inputs.items in
    let relayed = c.in_ok-run.field-0 in
    let told = c.in_ok-run.ensures in
    let relays : Relays (g.C.Container.shape c.args.container) c.plan_for.result inputs relayed = told.all in
    let fits : ¬ (IsTooSmall c.plan_for.result (g.C.Container.shape c.args.container).capacity (total inputs)) = λ small. absurd (search (rules, told.too_small.1 small)) in
    let those : Relays (shape_for args) (plan_of args) inputs relayed = rw (c.requires.shape, c.plan_for.ensures) at relays in
    let these : ¬ (IsTooSmall (plan_of args) args.capacity (total inputs)) = rw (c.requires.shape, c.plan_for.ensures) at fits in
    is-relayed relayed args inputs those these c.requires.ready.few

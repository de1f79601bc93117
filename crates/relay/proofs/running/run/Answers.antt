-- Each answer has the same step first: what the workers did, and the joins, make a run of the relay.
use Rattle.std.proofs.Common.{arith, refl, sym, ◌∙◌, ap, length}
use Rattle.bounded_model.proofs.Joining.{left_is}
use Rattle.relay.specs.Pools.{pool_of}
use Rattle.relay.specs.Promises.{total, Relays}
use Rattle.relay.proofs.Accounts.{ends_from, none_out, sent_long}
use Rattle.relay.proofs.Ended.{sent_passes, took_passes, fits_within}
use Rattle.relay.proofs.Promised.{few_taken, few_there, lists_of, lists_up, relays}
use Rattle.relay.proofs.Starting.{zip_items, zip_long}
use Rattle.relay.proofs.running.run.Given as given
use Rattle.relay.proofs.running.run.Goals as goal

pub join_done-unsent-requires-clause-passes : goal.join_done-unsent-requires-clause-passes
join_done-unsent-requires-clause-passes g c κs within = sent_passes (pool_of g.C.Container.is_pass g.C.Container.pass g.C.Container.shape c.args.container) _ 0 c.args.inputs.items _ c.in_ok-sent.ensures.senders

pub join_done-unsent-requires-clause-room : goal.join_done-unsent-requires-clause-room
join_done-unsent-requires-clause-room g c κs within =
    let long = sent_long (pool_of g.C.Container.is_pass g.C.Container.pass g.C.Container.shape c.args.container) _ 0 c.args.inputs.items _ c.in_ok-sent.ensures.senders in
    fits_within (omega (arith, long, c.len.ensures, c.args.inputs.ok.0, c.in_ok-sent.field-0.sent.ok.0)) c.in-Ok.ensures.outcome.unsent

pub join_done-lists-requires-clause-passes : goal.join_done-lists-requires-clause-passes
join_done-lists-requires-clause-passes g c κs within = took_passes (pool_of g.C.Container.is_pass g.C.Container.pass g.C.Container.shape c.args.container) _ 0 _ c.in_ok-sent.ensures.takers

pub merge-delivered-requires-clause-some : goal.merge-delivered-requires-clause-some
merge-delivered-requires-clause-some g c =
    let lists = c.join_done-lists.result in
    let long = zip_long _ _ _ c.join_done-lists.ensures.lists in
    let took = c.in_ok-sent.field-0.took in
    omega (arith, lists.ok.0, long, took.ok.0, c.in_ok-sent.ensures.consumers, c.in-Ok.ensures.work.consumers_are, c.requires.consumers)

pub merge-delivered-requires-clause-up : goal.merge-delivered-requires-clause-up
merge-delivered-requires-clause-up g c =
    let C = g.C.Container in
    let pool = pool_of C.is_pass C.pass C.shape c.args.container in
    let laws = g.met.C.Container g.world.𝓛 g.world.𝓜 g.world.𝓡 ((λ s x. x), (λ x. x), (λ x. x), λ x. x) in
    let did = c.in_ok-sent.ensures in
    let ended = c.in_ok-sent.field-0 in
    let messages = c.count-messages.ensures ∙ ap total c.deref.ensures.value in
    let e =
    ends_from pool _ c.args.inputs.items ended.sent.items ended.took.items ended.closer ended.used _ _ _ _ _ _ (sym c.args.inputs.ok.0) (sym ended.took.ok.0 ∙ did.consumers) did.senders did.takers did.closer did.used did.given
    c.join_done-unsent.ensures.joined c.join_done-lists.ensures.joined c.join.ensures.gives (laws.root_law c.args.container c.join.new.parent c.join.ensures.root) c.len-2.ensures messages in
    lists_up pool _ _ _ _ _ _ _ e c.join_done-lists.result.items c.join_done-lists.ensures.lists

pub merge-delivered-requires-clause-room : goal.merge-delivered-requires-clause-room
merge-delivered-requires-clause-room g c =
    let C = g.C.Container in
    let pool = pool_of C.is_pass C.pass C.shape c.args.container in
    let laws = g.met.C.Container g.world.𝓛 g.world.𝓜 g.world.𝓡 ((λ s x. x), (λ x. x), (λ x. x), λ x. x) in
    let did = c.in_ok-sent.ensures in
    let ended = c.in_ok-sent.field-0 in
    let messages = c.count-messages.ensures ∙ ap total c.deref.ensures.value in
    let e =
    ends_from pool _ c.args.inputs.items ended.sent.items ended.took.items ended.closer ended.used _ _ _ _ _ _ (sym c.args.inputs.ok.0) (sym ended.took.ok.0 ∙ did.consumers) did.senders did.takers did.closer did.used did.given
    c.join_done-unsent.ensures.joined c.join_done-lists.ensures.joined c.join.ensures.gives (laws.root_law c.args.container c.join.new.parent c.join.ensures.root) c.len-2.ensures messages in
    let few = few_taken pool _ _ _ _ _ _ _ e in
    let same = lists_of pool _ _ _ _ _ _ _ e c.join_done-lists.result.items c.join_done-lists.ensures.lists in
    fits_within (omega (arith, few, same, messages)) c.in-Ok.ensures.outcome.delivered

pub drain-left-requires : goal.drain-left-requires
drain-left-requires g c =
    let C = g.C.Container in
    let pool = pool_of C.is_pass C.pass C.shape c.args.container in
    let laws = g.met.C.Container g.world.𝓛 g.world.𝓜 g.world.𝓡 ((λ s x. x), (λ x. x), (λ x. x), λ x. x) in
    let did = c.in_ok-sent.ensures in
    let ended = c.in_ok-sent.field-0 in
    let messages = c.count-messages.ensures ∙ ap total c.deref.ensures.value in
    let e =
    ends_from pool _ c.args.inputs.items ended.sent.items ended.took.items ended.closer ended.used _ _ _ _ _ _ (sym c.args.inputs.ok.0) (sym ended.took.ok.0 ∙ did.consumers) did.senders did.takers did.closer did.used did.given
    c.join_done-unsent.ensures.joined c.join_done-lists.ensures.joined c.join.ensures.gives (laws.root_law c.args.container c.join.new.parent c.join.ensures.root) c.len-2.ensures messages in
    let few = few_there pool _ _ _ _ _ _ _ e in
    let left = left_is _ _ _ (none_out pool _ _ _ _ _ _ _ e) c.finish.ensures in
    fits_within (omega (arith, few, ap length left, messages)) c.in-Ok.ensures.outcome.left

all : (g : given.Over) (c : goal.After-drain-left g) → Relays (g.C.Container.shape c.args.container) c.args.plan c.args.inputs.items (record { delivered = c.merge-delivered.result; left = c.drain-left.result; unsent = c.join_done-unsent.result })
all g c =
    let C = g.C.Container in
    let pool = pool_of C.is_pass C.pass C.shape c.args.container in
    let laws = g.met.C.Container g.world.𝓛 g.world.𝓜 g.world.𝓡 ((λ s x. x), (λ x. x), (λ x. x), λ x. x) in
    let did = c.in_ok-sent.ensures in
    let ended = c.in_ok-sent.field-0 in
    let messages = c.count-messages.ensures ∙ ap total c.deref.ensures.value in
    let e =
    ends_from pool _ c.args.inputs.items ended.sent.items ended.took.items ended.closer ended.used _ _ _ _ _ _ (sym c.args.inputs.ok.0) (sym ended.took.ok.0 ∙ did.consumers) did.senders did.takers did.closer did.used did.given
    c.join_done-unsent.ensures.joined c.join_done-lists.ensures.joined c.join.ensures.gives (laws.root_law c.args.container c.join.new.parent c.join.ensures.root) c.len-2.ensures messages in
    let left = left_is _ _ _ (none_out pool _ _ _ _ _ _ _ e) c.finish.ensures in
    relays pool _ _ _ _ _ _ _ e c.join_done-lists.result.items c.args.plan _ c.join_done-lists.ensures.lists c.merge-delivered.ensures.same c.merge-delivered.ensures.sorted (zip_items _ _ c.join_done-unsent.ensures.lists)
    (c.drain-left.ensures ∙ left) refl refl refl c.requires.consumers (sym ended.took.ok.0 ∙ (did.consumers ∙ c.in-Ok.ensures.work.consumers_are))

pub returns-clause-lists : goal.returns-clause-lists
returns-clause-lists g c = (all g c).lists

pub returns-clause-all_there : goal.returns-clause-all_there
returns-clause-all_there g c = (all g c).all_there

pub returns-clause-in_order : goal.returns-clause-in_order
returns-clause-in_order g c = (all g c).in_order

pub returns-clause-all_sent : goal.returns-clause-all_sent
returns-clause-all_sent g c = (all g c).all_sent

pub returns-clause-first_sent : goal.returns-clause-first_sent
returns-clause-first_sent g c = (all g c).first_sent

pub returns-clause-none_left : goal.returns-clause-none_left
returns-clause-none_left g c = (all g c).none_left

pub returns-clause-rising : goal.returns-clause-rising
returns-clause-rising g c = (all g c).rising

pub returns-clause-counting : goal.returns-clause-counting
returns-clause-counting g c = (all g c).counting

pub returns-clause-consumers : goal.returns-clause-consumers
returns-clause-consumers g c = (all g c).consumers

pub returns-clause-no_more : goal.returns-clause-no_more
returns-clause-no_more g c = (all g c).no_more

pub returns-clause-first_no_more : goal.returns-clause-first_no_more
returns-clause-first_no_more g c = (all g c).first_no_more

pub returns-clause-shares : goal.returns-clause-shares
returns-clause-shares g c = (all g c).shares

pub returns-clause-first_share : goal.returns-clause-first_share
returns-clause-first_share g c = (all g c).first_share

pub returns-clause-all : goal.returns-clause-all
returns-clause-all g c = all g c

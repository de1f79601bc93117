use Rattle.std.proofs.Common.{sym, ◌∙◌, subst}
use Rattle.relay.specs.Pools.{pool_of}
use Rattle.relay.specs.Parts.{DidSend, DidTake}
use Rattle.relay.specs.Rooms.{IsRoomFor}
use Rattle.relay.proofs.Starting.{zip_long}
use Rattle.relay.proofs.Zips.{zip_through}
use Rattle.relay.proofs.threads.work_as_team.Goals as goal

pub join_workers-requires-clause-sent : goal.join_workers-requires-clause-sent
join_workers-requires-clause-sent g c =
    let long = zip_long _ _ _ c.in-Some.ensures in
    subst (λ n. IsRoomFor n c.args.room.sent) (c.args.team.senders.ok.0 ∙ (long ∙ sym c.in-Some.producing.ok.0)) c.requires.room.sent

pub join_workers-requires-clause-took : goal.join_workers-requires-clause-took
join_workers-requires-clause-took g c =
    let long = zip_long _ _ _ c.in-Some-start_each.ensures in
    subst (λ n. IsRoomFor n c.args.room.took) (c.args.team.takers.ok.0 ∙ (long ∙ sym c.in-Some-start_each.consuming.ok.0)) c.requires.room.took

pub returns : goal.returns
returns g c =
    let S = g.C.Shared in
    let pool = pool_of S.is_pass S.pass S.shape c.args.site.now.container in
    let orders = c.args.site.now.orders in
    let did = c.join_workers.ensures in
    record {
      sent = zip_through _ _ (λ p q. DidSend pool orders p q) (λ p h q r d. rw (r.0, r.1) at d) _ _ _ c.in-Some.ensures did.sent;
      took = zip_through _ _ (λ p q. DidTake pool orders p q) (λ p h q r d. rw (r.0, r.1) at d) _ _ _ c.in-Some-start_each.ensures did.took;
      closed = did.closed;
      used = did.used;
    }

use Rattle.std.proofs.Common.{◌<◌, ◌^◌, arith, sym, ◌∙◌, ap, subst, vec_len}
use Rattle.bounded_model.specs.declared.views.RootView.{RootView}
use Rattle.bounded_model.specs.Gathers.{EachFrom}
use Rattle.relay.specs.declared.messages.Message.{Message}
use Rattle.relay.specs.Passes.{IsNewJob}
use Rattle.relay.specs.Pools.{pool_of}
use Rattle.relay.specs.Rooms.{IsThreadRoom}
use Rattle.relay.proofs.Starting.{senders_ready, takers_ready, new_of, all_sent, each_took, zip_long}
use Rattle.relay.proofs.Splitting.{pass_of_split}
use Rattle.relay.proofs.running.work.Goals as goal

pub run_workers-requires-clause-ready : goal.run_workers-requires-clause-ready
run_workers-requires-clause-ready g c κs within =
    let C = g.C.Container in
    let container = c.args.site.now.container in
    let orders = c.args.site.now.orders in
    let pool = pool_of C.is_pass C.pass C.shape container in
    let none = ap (λ (r : RootView Message). r.given) c.requires.fresh in
    let many = ap (λ (r : RootView Message). r.given) c.in-Some.ensures.given in
    let few : orders.producers < 2 ^ 63 = omega (arith, c.requires.producers, c.args.inputs.small, c.args.inputs.ok.1) in
    record {
      senders = senders_ready pool c.args.inputs.items c.in-Some.senders.items (subst (λ n. EachFrom (IsNewJob (C.is_pass container) C.pass n) 0 c.in-Some.senders.items) none c.in-Some.ensures.new) c.in-Some.ensures.lists c.requires.numbered;
      takers = takers_ready pool orders few c.args.room.taken.items c.in-Some-split_jobs.takers.items (subst (λ n. EachFrom (IsNewJob (C.is_pass container) C.pass n) 0 c.in-Some-split_jobs.takers.items) (omega (arith, none, many, c.requires.producers)) c.in-Some-split_jobs.ensures.new) c.in-Some-split_jobs.ensures.lists c.requires.room.taken;
      closer = c.in-Some-split.ensures.gives.0;
      new = new_of pool c.in-Some-split.closer _ (pass_of_split c.in-Some-split_jobs.ensures.given c.in-Some-split.ensures.gives.1);
    }

pub run_workers-requires-clause-room : goal.run_workers-requires-clause-room
run_workers-requires-clause-room g c κs within =
    let senders = zip_long _ _ _ c.in-Some.ensures.lists in
    let takers = zip_long _ _ _ c.in-Some-split_jobs.ensures.lists in
    subst (λ n. IsThreadRoom n (vec_len c.in-Some-split_jobs.takers) c.args.room.threads) (c.args.inputs.ok.0 ∙ (senders ∙ sym c.in-Some.senders.ok.0))
    (subst (λ n. IsThreadRoom (vec_len c.args.inputs) n c.args.room.threads) (c.args.room.taken.ok.0 ∙ (takers ∙ sym c.in-Some-split_jobs.takers.ok.0)) c.requires.room.threads)

pub returns-in-Some-run_workers-clause-senders : goal.returns-in-Some-run_workers-clause-senders
returns-in-Some-run_workers-clause-senders g c =
    let C = g.C.Container in
    let container = c.args.site.now.container in
    let none = ap (λ (r : RootView Message). r.given) c.requires.fresh in
    all_sent (pool_of C.is_pass C.pass C.shape container) c.args.site.now.orders c.args.inputs.items c.in-Some.senders.items c.in-Some-run_workers.ended.sent.items
    (subst (λ n. EachFrom (IsNewJob (C.is_pass container) C.pass n) 0 c.in-Some.senders.items) none c.in-Some.ensures.new) c.in-Some.ensures.lists c.in-Some-run_workers.ensures.sent

pub returns-in-Some-run_workers-clause-takers : goal.returns-in-Some-run_workers-clause-takers
returns-in-Some-run_workers-clause-takers g c =
    let C = g.C.Container in
    let container = c.args.site.now.container in
    let none = ap (λ (r : RootView Message). r.given) c.requires.fresh in
    let many = ap (λ (r : RootView Message). r.given) c.in-Some.ensures.given in
    each_took (pool_of C.is_pass C.pass C.shape container) c.args.site.now.orders 0 c.in-Some-split_jobs.takers.items c.in-Some-run_workers.ended.took.items
    (subst (λ n. EachFrom (IsNewJob (C.is_pass container) C.pass n) 0 c.in-Some-split_jobs.takers.items) (omega (arith, none, many, c.requires.producers)) c.in-Some-split_jobs.ensures.new) c.in-Some-run_workers.ensures.took

pub returns-in-Some-run_workers-clause-consumers : goal.returns-in-Some-run_workers-clause-consumers
returns-in-Some-run_workers-clause-consumers g c =
    let rooms = zip_long _ _ _ c.in-Some-split_jobs.ensures.lists in
    let took = zip_long _ _ _ c.in-Some-run_workers.ensures.took in
    c.in-Some-run_workers.ended.took.ok.0 ∙ (sym (rooms ∙ took) ∙ sym c.args.room.taken.ok.0)

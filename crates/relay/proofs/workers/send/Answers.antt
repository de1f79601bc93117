use Rattle.std.proofs.Common.{Some, arith, sym, ap, ◌∙◌, length, inl, inr}
use Rattle.relay.specs.Pools.{pool_of}
use Rattle.relay.specs.declared.workers.ProducerEnd.TheVariants.{SentAll, MetClosed, MetSpent}
use Rattle.relay.proofs.Lists.{same_or_not}
use Rattle.relay.proofs.Working.{Producing_ok, Produces_from, Produces_refused, Produces_closed, is_nil, number-from_close, from_number, once, once_by}
use Rattle.relay.proofs.workers.send.Goals as goal

pub returns-clause-did : goal.returns-clause-did
returns-clause-did g c =
    let S = g.C.Shared in
    let pool = pool_of S.is_pass S.pass S.shape c.args.site.now.container in
    let orders = c.args.site.now.orders in
    let items = c.args.job.list.items in
    let v = pool.view c.loop-last.pass in
    let w = pool.view c.close-pass.result.0 in
    let stopped = c.stopped-2.ensures in
    let hit = c.is_reached.ensures.0 c.loop-last-test.false in
    let first = c.told_first-last.ensures.others c.loop-last.put hit in
    let after = sym (c.told_first-last.ensures.first first) ∙ hit in
    let number = number-from_close pool.shape v w c.close-pass.result.1 c.close-pass.ensures.gives ∙ c.loop-last.invariant.number in
    rw (stopped.pass, stopped.rest, stopped.end)
    (Produces_closed items (λ m. m.sender) pool.shape orders v w c.loop-last.rest.items c.loop-last.put c.close-pass.result.1
    (from_number (λ m. m.sender) c.args.job.place w.number items number c.requires.ready.from) c.loop-last.invariant.producing c.close-pass.ensures.gives (number ∙ first) after)

pub returns-in_default-clause-did : goal.returns-in_default-clause-did
returns-in_default-clause-did g c =
    let S = g.C.Shared in
    let pool = pool_of S.is_pass S.pass S.shape c.args.site.now.container in
    let orders = c.args.site.now.orders in
    let items = c.args.job.list.items in
    let v = pool.view c.loop-last.pass in
    let stopped = c.stopped.ensures in
    let none = is_nil c.loop-last.rest.items (sym c.loop-last.rest.ok.0 ∙ c.in_default.ensures.cases.0) in
    let long = c.loop-last.invariant.long in
    rw (stopped.pass, stopped.rest, stopped.end)
    (Produces_from items (λ m. m.sender) pool.shape orders v c.pop_front.new.self.items c.loop-last.put SentAll
    (from_number (λ m. m.sender) c.args.job.place v.number items c.loop-last.invariant.number c.requires.ready.from) (rw c.in_default.ensures.items at c.loop-last.invariant.producing) (
      sym c.in_default.ensures.items ∙ none,
      c.loop-last.invariant.producing.closes,
      λ m z e. omega (arith, ap length none, c.loop-last.invariant.most m (c.told_first-last.ensures.first (sym c.loop-last.invariant.number ∙ z) ∙ e)),
    ))

pub loop-last-preserved : goal.loop-last-preserved
loop-last-preserved g c =
    let S = g.C.Shared in
    let pool = pool_of S.is_pass S.pass S.shape c.args.site.now.container in
    let old = c.loop-last.invariant in
    let gives = rw c.in-Ok.is at c.put_waiting_with-back.ensures.gives in
    let rest = c.in-Some.ensures.items in
    record {
      of = c.put_waiting_with-back.ensures.of;
      number = gives.number ∙ old.number;
      most = λ m e. elim (same_or_not c.loop-last.put m) [
        | inl is ↦ let reached = c.is_reached.ensures.1 (e ∙ ap Some (sym is)) in absurd cc
        | inr other ↦ omega (arith, other, old.most m e)
      ];
      long = omega (arith, old.long, ap length rest, ap length c.shrunk-rest.ensures);
      producing = rw c.shrunk-rest.ensures (Producing_ok c.args.job.list.items (pool.view c.loop-last.pass) (pool.view c.put_waiting_with-back.result.0) c.pop_front.new.self.items c.in-Some.message c.loop-last.put c.in-Ok.field-0 (rw rest at old.producing) gives);
    }

pub returns-in-Err-Closed-clause-did : goal.returns-in-Err-Closed-clause-did
returns-in-Err-Closed-clause-did g c =
    let S = g.C.Shared in
    let pool = pool_of S.is_pass S.pass S.shape c.args.site.now.container in
    let orders = c.args.site.now.orders in
    let items = c.args.job.list.items in
    let w = pool.view c.put_waiting_with-back.result.0 in
    let stopped = c.stopped-in-Err-Closed.ensures in
    let gives = rw (c.in-Err-Closed.is, c.in-Err-Closed.field-0-is) at c.put_waiting_with-back.ensures.gives in
    let number = gives.1.adds.number ∙ c.loop-last.invariant.number in
    rw (stopped.pass, stopped.rest, stopped.end, c.push_front_reserved.ensures.items, c.in-Err-Closed.message-is, gives.0)
    (Produces_refused items (λ m. m.sender) pool.shape orders (pool.view c.loop-last.pass) w c.pop_front.new.self.items c.in-Some.message c.loop-last.put MetClosed
    (from_number (λ m. m.sender) c.args.job.place w.number items number c.requires.ready.from) (rw c.in-Some.ensures.items at c.loop-last.invariant.producing) gives.1 (λ closes. (closes, once gives.2)))

pub returns-in-Err-Spent-clause-did : goal.returns-in-Err-Spent-clause-did
returns-in-Err-Spent-clause-did g c =
    let S = g.C.Shared in
    let pool = pool_of S.is_pass S.pass S.shape c.args.site.now.container in
    let orders = c.args.site.now.orders in
    let items = c.args.job.list.items in
    let w = pool.view c.put_waiting_with-back.result.0 in
    let stopped = c.stopped-in-Err-Spent.ensures in
    let gives = rw (c.in-Err-Spent.is, c.in-Err-Spent.field-0-is) at c.put_waiting_with-back.ensures.gives in
    let number = gives.1.adds.number ∙ c.loop-last.invariant.number in
    rw (stopped.pass, stopped.rest, stopped.end, c.push_front_reserved-in-Err-Spent.ensures.items, c.in-Err-Spent.message-is, gives.0)
    (Produces_refused items (λ m. m.sender) pool.shape orders (pool.view c.loop-last.pass) w c.pop_front.new.self.items c.in-Some.message c.loop-last.put MetSpent
    (from_number (λ m. m.sender) c.args.job.place w.number items number c.requires.ready.from) (rw c.in-Some.ensures.items at c.loop-last.invariant.producing) gives.1 (λ closes. (closes, once_by (λ h w. w.1) gives.2)))

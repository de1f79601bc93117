use Rattle.std.proofs.Common.{◌≡◌, ◌+◌, refl, arith}
use Rattle.treiber_stack.proofs.Filling.{fills_first, may_link, plain_first, few_held, fills_more}
use Rattle.treiber_stack.proofs.bulk.loading.load_node.Goals as goal

pub store_link_step-requires-clause-access : goal.store_link_step-requires-clause-access
store_link_step-requires-clause-access g c =
    let next = c.requires.2 in
    may_link g.D.Tie.rule c.args.on.now c.args.operation.now c.requires.0 c.args.by c.args.held c.args.index c.requires.1 c.args.value next (record c.args.by { seat = c.put_in.new.seat }) c.put_in.ensures.seat.0 c.put_in.ensures.put c.if-held-eq0.false

pub store_link_step-requires-clause-plain : goal.store_link_step-requires-clause-plain
store_link_step-requires-clause-plain g c =
    let next = c.requires.2 in
    plain_first g.D.Tie.rule c.args.on.now c.args.operation.now c.requires.0 c.args.by c.args.held c.args.index c.requires.1 c.args.value next (record c.args.by { seat = c.put_in.new.seat }) c.put_in.ensures.seat.0 c.put_in.ensures.put c.if-held-eq0.false

pub overflow_add-count : goal.overflow_add-count
overflow_add-count g c =
    let next = c.requires.2 in
    let r = record c.args.by { seat = c.put_in.new.seat } in
    let s = c.store_link_step in
    let few = few_held g.D.Tie.rule c.args.on.now c.args.operation.now c.requires.0 c.args.by c.args.held c.args.index c.requires.1 c.args.value next r c.put_in.ensures.seat.0 c.put_in.ensures.put c.if-held-eq0.false (record r { seat = s.new.seat }) _ s.ensures.steps in
    let most = c.args.on.now.table.shared.key.capacity_in_range in
    omega arith

pub returns-then-held-eq0 : goal.returns-then-held-eq0
returns-then-held-eq0 g c vs h next =
    let r = record c.args.by { seat = c.put_in.new.seat } in
    let e = fills_first g.D.Tie.rule c.args.on.now c.args.operation.now vs c.args.by c.args.held c.args.index h c.args.value next r c.put_in.ensures.seat.0 c.put_in.ensures.put c.if-held-eq0.true c.of-chain.result c.of-chain.ensures in
    let none = c.if-held-eq0.true in
    let one : 1 ≡ c.args.held.count + 1 = omega arith in
    (e.0, one, e.1, e.2)

pub returns : goal.returns
returns g c vs h next =
    let r = record c.args.by { seat = c.put_in.new.seat } in
    let s = c.store_link_step in
    let e = fills_more g.D.Tie.rule c.args.on.now c.args.operation.now vs c.args.by c.args.held c.args.index h c.args.value next r c.put_in.ensures.seat.0 c.put_in.ensures.put c.if-held-eq0.false (record r { seat = s.new.seat }) _ s.ensures.steps s.ensures.seat.0 s.ensures.seat.1 in
    (e.0, refl, e.1, e.2)

use Rattle.std.proofs.Common.{ℕ, sym, ◌∙◌, subst, arith}
use Rattle.std.proofs.lemmas.Bool.{false≢true}
use Rattle.treiber_stack.specs.code.RangeTrying.{HasStopped}
use Rattle.treiber_stack.proofs.RangeTrying.{has_node, took_not_back, to_node, to_top}
use Rattle.treiber_stack.proofs.bulk.range_trying.after_stop.Goals as goal

pub returns-in-Over-clause-came : goal.returns-in-Over-clause-came
returns-in-Over-clause-came g c v vs at h is left = c.end_range.ensures.came v vs at (subst (HasStopped g.D.Tie.rule c.args.on.now c.args.operation v c.args.by vs c.args.held at) c.in-Over.is h) is left

pub returns-in-Over-clause-stopped : goal.returns-in-Over-clause-stopped
returns-in-Over-clause-stopped g c v vs at h left = c.end_range.ensures.stopped v vs at (subst (HasStopped g.D.Tie.rule c.args.on.now c.args.operation v c.args.by vs c.args.held at) c.in-Over.is h)

pub take-value-requires : goal.take-value-requires
take-value-requires g c =
    let a = c.args in
    let r = c.requires in
    let node = has_node g.D.Tie.rule a.on.now a.operation a.by r.1 a.held r.2 r.0 c.in-Took.index (subst (HasStopped g.D.Tie.rule a.on.now a.operation r.0 a.by r.1 a.held r.2) c.in-Took.is r.3) in
    (r.1, node.2, subst (λ (k : ℕ). g.V.Source.left a.values.now r.1 k) node.3 r.5)

pub load_node-pass-requires : goal.load_node-pass-requires
load_node-pass-requires g c =
    let a = c.args in
    let r = c.requires in
    let node = has_node g.D.Tie.rule a.on.now a.operation a.by r.1 a.held r.2 r.0 c.in-Took.index (subst (HasStopped g.D.Tie.rule a.on.now a.operation r.0 a.by r.1 a.held r.2) c.in-Took.is r.3) in
    (r.1, node.0, (c.take-value.ensures.taken r.1 node.2 (subst (λ (k : ℕ). g.V.Source.left a.values.now r.1 k) node.3 r.5)).0)

pub returns-then-held-len-clause-came : goal.returns-then-held-len-clause-came
returns-then-held-len-clause-came g c v vs at h is left =
    let a = c.args in
    let node = has_node g.D.Tie.rule a.on.now a.operation a.by vs a.held at v c.in-Took.index (subst (HasStopped g.D.Tie.rule a.on.now a.operation v a.by vs a.held at) c.in-Took.is h) in
    let taken = c.take-value.ensures.taken vs node.2 (subst (λ (k : ℕ). g.V.Source.left a.values.now vs k) node.3 left) in
    let l = c.load_node-pass in
    let f = l.ensures vs node.0 taken.0 in
    let gone = subst (λ (k : ℕ). g.V.Source.left c.take-value.new.self vs k) (sym f.1) taken.1 in
    let long = c.len.ensures vs l.result.1.count gone f.0.has.few in
    let low = c.if-held-len.true in
    ((to_node g.D.Tie.rule a.on.now a.operation vs is l.result.0 l.result.1 f.0 (omega (arith, long, low)), f.2 ∙ node.1), gone)

pub returns-clause-came : goal.returns-clause-came
returns-clause-came g c v vs at h is left =
    let a = c.args in
    let node = has_node g.D.Tie.rule a.on.now a.operation a.by vs a.held at v c.in-Took.index (subst (HasStopped g.D.Tie.rule a.on.now a.operation v a.by vs a.held at) c.in-Took.is h) in
    let taken = c.take-value.ensures.taken vs node.2 (subst (λ (k : ℕ). g.V.Source.left a.values.now vs k) node.3 left) in
    let l = c.load_node-pass in
    let f = l.ensures vs node.0 taken.0 in
    let gone = subst (λ (k : ℕ). g.V.Source.left c.take-value.new.self vs k) (sym f.1) taken.1 in
    let long = c.len.ensures vs l.result.1.count gone f.0.has.few in
    let high = c.if-held-len.false in
    let more = f.1 in
    ((to_top g.D.Tie.rule a.on.now a.operation vs is l.result.0 l.result.1 f.0 (omega (arith, more)) (omega (arith, long, high)), f.2 ∙ node.1), gone)

pub returns-then-held-len-clause-stopped : goal.returns-then-held-len-clause-stopped
returns-then-held-len-clause-stopped g c v vs at h left =
    let a = c.args in
    let took = subst (HasStopped g.D.Tie.rule a.on.now a.operation v a.by vs a.held at) c.in-Took.is h in
    let node = has_node g.D.Tie.rule a.on.now a.operation a.by vs a.held at v c.in-Took.index took in
    let taken = c.take-value.ensures.taken vs node.2 (subst (λ (k : ℕ). g.V.Source.left a.values.now vs k) node.3 left) in
    let f = c.load_node-pass.ensures vs node.0 taken.0 in
    (took_not_back g.D.Tie.rule a.on.now a.operation a.by vs a.held at v c.in-Took.index took, λ e. (f.1, f.3), λ e. absurd (false≢true e))

pub returns-clause-stopped : goal.returns-clause-stopped
returns-clause-stopped g c v vs at h left =
    let a = c.args in
    let took = subst (HasStopped g.D.Tie.rule a.on.now a.operation v a.by vs a.held at) c.in-Took.is h in
    let node = has_node g.D.Tie.rule a.on.now a.operation a.by vs a.held at v c.in-Took.index took in
    let taken = c.take-value.ensures.taken vs node.2 (subst (λ (k : ℕ). g.V.Source.left a.values.now vs k) node.3 left) in
    let f = c.load_node-pass.ensures vs node.0 taken.0 in
    (took_not_back g.D.Tie.rule a.on.now a.operation a.by vs a.held at v c.in-Took.index took, λ e. (f.1, f.3), λ e. absurd (false≢true e))

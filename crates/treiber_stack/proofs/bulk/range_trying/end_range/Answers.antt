use Rattle.std.proofs.Common.{ℕ, refl, sym, ◌∙◌, subst}
use Rattle.std.proofs.lemmas.Bool.{false≢true}
use Rattle.std.specs.Prelude.{Err}
use Rattle.bounded_model.specs.declared.bulk.RangeRefused.{RangeRefused}
use Rattle.treiber_stack.specs.declared.bulk.range_steps.RangeEnd.{RangeEnd}
use Rattle.treiber_stack.specs.declared.bulk.range_steps.RangeEnd.TheVariants as end
use Rattle.treiber_stack.specs.declared.bulk.range_steps.RangeStop.TheVariants.{Over}
use Rattle.treiber_stack.specs.code.Ranging.{PutsOf, places_from}
use Rattle.treiber_stack.specs.code.RangeTrying.{HasStopped}
use Rattle.treiber_stack.specs.code.Steps.{as_pass}
use Rattle.treiber_stack.proofs.RangeGives.{barred_so, full_so, is_refused, put_so, spent_so}
use Rattle.treiber_stack.proofs.RangeTrying.{is_over, is_back, not_back}
use Rattle.treiber_stack.proofs.bulk.range_trying.end_range.Goals as goal

pub returns-in-Put-clause-came : goal.returns-in-Put-clause-came
returns-in-Put-clause-came g c v vs at h is left =
    let a = c.args in
    let number = c.in-Put.number in
    let over = is_over g.D.Tie.rule a.on.now a.operation a.by vs a.held at v (end.Put number) refl (subst (λ (e : RangeEnd). HasStopped g.D.Tie.rule a.on.now a.operation v a.by vs a.held at (Over e)) c.in-Put.is h) in
    let e = over.0.ends in
    (put_so g.D.Tie.rule a.on.now a.operation v a.by vs is e.1.0 over.0.chain a.held.count number e.0 over.0.has.few over.0.has.counted e.1.1, subst (λ (k : ℕ). g.V.Source.left a.values.now vs k) over.1 left)

pub returns-in-Full-clause-came : goal.returns-in-Full-clause-came
returns-in-Full-clause-came g c v vs at h is left =
    let a = c.args in
    let over = is_over g.D.Tie.rule a.on.now a.operation a.by vs a.held at v end.Full refl (subst (λ (e : RangeEnd). HasStopped g.D.Tie.rule a.on.now a.operation v a.by vs a.held at (Over e)) c.in-Full.is h) in
    let e = over.0.ends in
    (full_so g.D.Tie.rule a.on.now a.operation v a.by vs is e.1.0 e.1.1, subst (λ (k : ℕ). g.V.Source.left a.values.now vs k) (over.1 ∙ e.0) left)

pub returns-in-Refused-clause-came : goal.returns-in-Refused-clause-came
returns-in-Refused-clause-came g c v vs at h is left =
    let a = c.args in
    let why = c.in-Refused.why in
    let over = is_over g.D.Tie.rule a.on.now a.operation a.by vs a.held at v (end.Refused why) refl (subst (λ (e : RangeEnd). HasStopped g.D.Tie.rule a.on.now a.operation v a.by vs a.held at (Over e)) c.in-Refused.is h) in
    let e = over.0.ends in (
      subst (λ (r : RangeRefused). PutsOf g.D.Tie.rule a.on.now v vs (places_from 0 vs) (as_pass a.by) (Err r)) (sym c.of_range.ensures) (barred_so g.D.Tie.rule a.on.now a.operation v a.by vs is e.1.0 why e.1.1),
      subst (λ (k : ℕ). g.V.Source.left a.values.now vs k) (over.1 ∙ e.0) left,
    )

pub returns-in-Spent-clause-came : goal.returns-in-Spent-clause-came
returns-in-Spent-clause-came g c v vs at h is left =
    let a = c.args in
    let tag = c.in-Spent.tag in
    let over = is_over g.D.Tie.rule a.on.now a.operation a.by vs a.held at v (end.Spent tag) refl (subst (λ (e : RangeEnd). HasStopped g.D.Tie.rule a.on.now a.operation v a.by vs a.held at (Over e)) c.in-Spent.is h) in
    let e = over.0.ends in
    (spent_so g.D.Tie.rule a.on.now a.operation v a.by vs is e.1.0 tag e.1.1, subst (λ (k : ℕ). g.V.Source.left a.values.now vs k) (over.1 ∙ e.0) left)

pub restore-pass-requires : goal.restore-pass-requires
restore-pass-requires g c =
    let a = c.args in
    let r = c.requires in
    let why = c.in-Barred.why in
    let over = is_over g.D.Tie.rule a.on.now a.operation a.by r.1 a.held r.2 r.0 (end.Barred why) refl (subst (λ (e : RangeEnd). HasStopped g.D.Tie.rule a.on.now a.operation r.0 a.by r.1 a.held r.2 (Over e)) c.in-Barred.is r.3) in
    (a.operation, r.1, why, is_refused g.D.Tie.rule a.on.now a.operation r.0 a.by r.1 a.held why over.0, subst (λ (k : ℕ). g.V.Source.left a.values.now r.1 k) over.1 r.5)

pub returns-in-Barred-clause-came : goal.returns-in-Barred-clause-came
returns-in-Barred-clause-came g c v vs at h is left =
    let a = c.args in
    let why = c.in-Barred.why in
    let over = is_over g.D.Tie.rule a.on.now a.operation a.by vs a.held at v (end.Barred why) refl (subst (λ (e : RangeEnd). HasStopped g.D.Tie.rule a.on.now a.operation v a.by vs a.held at (Over e)) c.in-Barred.is h) in
    let restored = c.restore-pass.ensures.restored a.operation vs why (is_refused g.D.Tie.rule a.on.now a.operation v a.by vs a.held why over.0) (subst (λ (k : ℕ). g.V.Source.left a.values.now vs k) over.1 left) in
    let back = restored.0 in (
      (
        record { of = is; at = record { chain = back.chain; has = back.has; is = record { line = back.back.line; read = back.back.are }; wants = λ e. absurd (false≢true e) } },
        back.begun ∙ over.0.ends.1.1,
      ),
      restored.1,
    )

pub returns-in-GaveBack-clause-came : goal.returns-in-GaveBack-clause-came
returns-in-GaveBack-clause-came g c v vs at h is left =
    let a = c.args in
    let why = c.in-GaveBack.why in
    let back = is_back g.D.Tie.rule a.on.now a.operation a.by vs a.held at v why (subst (λ (e : RangeEnd). HasStopped g.D.Tie.rule a.on.now a.operation v a.by vs a.held at (Over e)) c.in-GaveBack.is h) in (
      subst (λ (r : RangeRefused). PutsOf g.D.Tie.rule a.on.now v vs (places_from 0 vs) (as_pass a.by) (Err r)) (sym c.of_range-in-GaveBack.ensures) (barred_so g.D.Tie.rule a.on.now a.operation v a.by vs is back.0 why back.1),
      subst (λ (k : ℕ). g.V.Source.left a.values.now vs k) back.2 left,
    )

pub returns-in-Put-clause-stopped : goal.returns-in-Put-clause-stopped
returns-in-Put-clause-stopped g c v vs at h =
    let a = c.args in
    let e = end.Put c.in-Put.number in
    (refl, (not_back g.D.Tie.rule a.on.now a.operation a.by vs a.held at v e refl (subst (λ (e : RangeEnd). HasStopped g.D.Tie.rule a.on.now a.operation v a.by vs a.held at (Over e)) c.in-Put.is h), refl))

pub returns-in-Barred-clause-stopped : goal.returns-in-Barred-clause-stopped
returns-in-Barred-clause-stopped g c v vs at h =
    let a = c.args in
    let e = end.Barred c.in-Barred.why in
    (not_back g.D.Tie.rule a.on.now a.operation a.by vs a.held at v e refl (subst (λ (e : RangeEnd). HasStopped g.D.Tie.rule a.on.now a.operation v a.by vs a.held at (Over e)) c.in-Barred.is h), λ b. absurd (false≢true (sym b)), λ b. (refl, c.restore-pass.ensures.took))

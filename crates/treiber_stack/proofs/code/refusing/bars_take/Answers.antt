use Rattle.std.proofs.Common.{true, false, sym, ap, ◌∙◌, arith}
use Rattle.tagged_index.specs.Limits.{tag_limit_of}
use Rattle.treiber_stack.proofs.Refusals.{refuses_shut, refuses_none, refuses_spent}
use Rattle.treiber_stack.proofs.code.refusing.bars_take.Goals as goal

pub returns-then-has_second : goal.returns-then-has_second
returns-then-has_second g c = refuses_shut _ c.args.top (sym c.if-has_second.ensures)

pub returns-then-is_marked : goal.returns-then-is_marked
returns-then-is_marked g c = refuses_none _ c.args.top true (sym c.if-has_second.ensures) (sym c.index.ensures.field ∙ c.if-index-eq-NULL.true) (sym c.if-is_marked.ensures)

pub returns-then-index-eq-NULL : goal.returns-then-index-eq-NULL
returns-then-index-eq-NULL g c = refuses_none _ c.args.top false (sym c.if-has_second.ensures) (sym c.index.ensures.field ∙ c.if-index-eq-NULL.true) (sym c.if-is_marked.ensures)

pub returns-then-tag-tag_limit : goal.returns-then-tag-tag_limit
returns-then-tag-tag_limit g c =
    let high = c.if-tag-tag_limit.true in
    let tag = c.tag.ensures.field in
    let limit = c.tag_limit.ensures in
    let same = ap tag_limit_of c.args.on.now.keyed in
    refuses_spent _ c.args.top c.tag-then-tag-tag_limit.result c.tag-then-tag-tag_limit.ensures.field (sym c.if-has_second.ensures) (λ z. c.if-index-eq-NULL.false (c.index.ensures.field ∙ z)) (omega arith)

pub returns : goal.returns
returns g c =
    let low = c.if-tag-tag_limit.false in
    let tag = c.tag.ensures.field in
    let limit = c.tag_limit.ensures in
    let same = ap tag_limit_of c.args.on.now.keyed in
    (sym c.if-has_second.ensures, (λ z. c.if-index-eq-NULL.false (c.index.ensures.field ∙ z)), omega arith)

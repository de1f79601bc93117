use Rattle.std.proofs.Common.{sym, ap, arith}
use Rattle.tagged_index.specs.Limits.{tag_limit_of}
use Rattle.treiber_stack.proofs.Refusals.{bars_closed, bars_spent}
use Rattle.treiber_stack.proofs.code.refusing.bars_put.Goals as goal

pub returns-then-is_marked : goal.returns-then-is_marked
returns-then-is_marked g c = bars_closed _ c.args.top (sym c.if-is_marked.ensures)

pub returns-then-tag-tag_limit : goal.returns-then-tag-tag_limit
returns-then-tag-tag_limit g c =
    let high = c.if-tag-tag_limit.true in
    let tag = c.tag.ensures.field in
    let limit = c.tag_limit.ensures in
    let same = ap tag_limit_of c.args.on.now.keyed in
    bars_spent _ c.args.top c.tag-then-tag-tag_limit.result c.tag-then-tag-tag_limit.ensures.field (sym c.if-is_marked.ensures) (omega arith)

pub returns : goal.returns
returns g c =
    let low = c.if-tag-tag_limit.false in
    let tag = c.tag.ensures.field in
    let limit = c.tag_limit.ensures in
    let same = ap tag_limit_of c.args.on.now.keyed in
    (sym c.if-is_marked.ensures, omega arith)

use Rattle.std.proofs.Common.{◌≡◌, ℕ, ◌+◌, ◌-◌, ap, ◌∙◌, arith}
use Rattle.std.specs.Mem.Slots.{slots_items}
use Rattle.std.specs.Prelude.{slice_index}
use Rattle.tagged_index.specs.Fields.{tag_of}
use Rattle.ring_machine.specs.Machine.{stride}
use Rattle.ring_table.specs.Layout.{slot_at}
use Rattle.ring_queue.proofs.Front.{front_here, front_next, front_at_last}
use Rattle.ring_queue.proofs.life.rest.front_of.Goals as goal

pub returns-then-tag-lap-clause-front : goal.returns-then-tag-lap-clause-front
returns-then-tag-lap-clause-front g c takes has =
    let l = c.loop-gone in
    let words = slots_items c.args.closed.now.words in
    let tag : c.tag.result ≡ tag_of (slice_index words (slot_at c.args.capacity l.slot)) = c.tag.ensures.field ∙ ap tag_of (c.word_at.ensures ∙ ap (λ (at : ℕ). slice_index words at) c.slot.ensures) in
    front_here has (stride - l._gone) l.lap l.slot c.tag.result l.invariant.0 (l.invariant.2 takes has) tag c.if-tag-lap.true

pub loop-gone-preserved : goal.loop-gone-preserved
loop-gone-preserved g c =
    let l = c.loop-gone in
    let words = slots_items c.args.closed.now.words in
    let tag : c.tag.result ≡ tag_of (slice_index words (slot_at c.args.capacity l.slot)) = c.tag.ensures.field ∙ ap tag_of (c.word_at.ensures ∙ ap (λ (at : ℕ). slice_index words at) c.slot.ensures) in (
      c.behind-next.ensures.low,
      omega (arith, c.behind-next.ensures.lap, l.invariant.1),
      λ takes has. front_next has (stride - l._gone) (stride - (l._gone + 1)) l.lap l.slot c.behind-next.result.1 c.behind-next.result.0 c.tag.result l.invariant.0 (l.invariant.2 takes has) tag c.if-tag-lap.false c.behind-next.ensures.place (omega arith),
    )

pub returns-clause-front : goal.returns-clause-front
returns-clause-front g c takes has =
    let l = c.loop-gone in
    front_at_last has (stride - l._gone) l.lap l.slot (omega (arith, c.loop-gone-test.false)) (l.invariant.2 takes has)

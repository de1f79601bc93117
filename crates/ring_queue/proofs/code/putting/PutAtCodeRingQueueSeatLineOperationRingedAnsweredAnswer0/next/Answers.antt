use Rattle.std.proofs.Common.{refl, sym, ap, ◌∙◌}
use Rattle.ring_machine.specs.declared.lines.Back.TheVariants.{ToPut}
use Rattle.ring_queue.specs.code.Putting.{put_slots}
use Rattle.ring_queue.specs.code.Walking.{to_back}
use Rattle.ring_queue.proofs.Puts.{holds_value, put_goes, put_meets, put_refused}
use Rattle.ring_queue.proofs.code.putting.PutAtCodeRingQueueSeatLineOperationRingedAnsweredAnswer0.next.Goals as goal

pub returns-in-On-clause-leads : goal.returns-in-On-clause-leads
returns-in-On-clause-leads g c =
    let a = c.args in
    let shown = c.in-Walking.shown in
    put_goes a.on.now shown c.in-Walking.is a.outcome a.seat.now.me.1 c.requires.came c.in-On.at (c.in-On.ensures (to_back (ToPut shown.value)) (put_slots a.self) a.seat.now.me.1 refl)

pub returns-in-Lost-clause-leads : goal.returns-in-Lost-clause-leads
returns-in-Lost-clause-leads g c =
    let a = c.args in
    let shown = c.in-Walking.shown in
    put_goes a.on.now shown c.in-Walking.is a.outcome a.seat.now.me.1 c.requires.came c.in-Lost.at (c.in-Lost.ensures (to_back (ToPut shown.value)) (put_slots a.self) a.seat.now.me.1 refl)

pub returns-then-has_room-clause-leads : goal.returns-then-has_room-clause-leads
returns-then-has_room-clause-leads g c =
    let a = c.args in
    let shown = c.in-Walking.shown in
    put_meets a.on.now shown c.in-Walking.is a.outcome a.seat.now.me.1 c.requires.came c.in-Done.end (c.in-Done.ensures (to_back (ToPut shown.value)) (put_slots a.self) a.seat.now.me.1 refl) (sym c.has_room.ensures ∙ c.if-has_room.true)

pub move_out-value-requires-clause-full : goal.move_out-value-requires-clause-full
move_out-value-requires-clause-full g c =
    let a = c.args in
    let shown = c.in-Walking.shown in
    (shown.value, holds_value a.on.now shown c.in-Walking.is a.outcome a.seat.now.me.1 c.requires.came c.in-Done.end (c.in-Done.ensures (to_back (ToPut shown.value)) (put_slots a.self) a.seat.now.me.1 refl))

pub returns-else-has_room-clause-leads : goal.returns-else-has_room-clause-leads
returns-else-has_room-clause-leads g c =
    let a = c.args in
    let shown = c.in-Walking.shown in
    let v = c.move_out-value in
    put_refused a.on.now shown c.in-Walking.is a.outcome a.seat.now.me.1 c.requires.came c.in-Done.end (c.in-Done.ensures (to_back (ToPut shown.value)) (put_slots a.self) a.seat.now.me.1 refl) (sym c.has_room.ensures ∙ c.if-has_room.false) v.result v.ensures.value v.new.seat.me.1 (ap (λ m. m.1) v.ensures.out) c.refused-why.result c.refused-why.ensures

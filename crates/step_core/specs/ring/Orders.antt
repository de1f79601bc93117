-- The order of the tests at each line matters: with another one, a script gets another reply.
use Rattle.std.specs.Prelude.{◌+◌, ◌==◌, ◌&&◌, leb, not, if◌then◌else◌}
use Rattle.bounded_model.specs.declared.answers.TakeRefused.TheVariants.{Empty}
use Rattle.ring_machine.specs.declared.lines.Back.TheVariants.{ToPut}
use Rattle.ring_machine.specs.declared.lines.Front.TheVariants.{ToTake}
use Rattle.ring_machine.specs.declared.lines.Line.TheVariants.{LoadBack, LoadFront, TakeCell, Stow}
use Rattle.ring_machine.specs.Machine.{step, goes_on, ends, empty_at, full_at}
use Rattle.step_core.specs.ring.Cast.{Moves, full, slot_spent, no_take}

-- a put that looks at the limit before the mark
abbrev pub limit_first : Moves
limit_first s m p (LoadBack w (ToPut v)) =
    let x = m.slot w.at.index in
    if x.tag == empty_at w.at.tag && leb s.limit (x.tag + 1) then goes_on m (Stow w (slot_spent w.at.index x.tag v)) else step s m p (LoadBack w (ToPut v))
limit_first s m p l = step s m p l

-- a put that takes a slot of the lap before for full before it looks at the mark
abbrev pub full_first : Moves
full_first s m p (LoadBack w (ToPut v)) = if (m.slot w.at.index).tag + 1 == empty_at w.at.tag then goes_on m (Stow w (full v)) else step s m p (LoadBack w (ToPut v))
full_first s m p l = step s m p l

-- a take that looks whether the ring is shut only if it has found no value
abbrev pub shut_last : Moves
shut_last s m p (LoadFront w ToTake) = if (m.slot w.at.index).tag == full_at w.at.tag then goes_on m (TakeCell w (m.slot w.at.index)) else step s m p (LoadFront w ToTake)
shut_last s m p l = step s m p l

-- a take that takes an empty slot for an empty ring before it looks at the mark
abbrev pub empty_before_closed : Moves
empty_before_closed s m p (LoadFront w ToTake) =
    let x = m.slot w.at.index in
    if x.tag == empty_at w.at.tag && not x.second then goes_on m (ends w.cell (no_take Empty)) else step s m p (LoadFront w ToTake)
empty_before_closed s m p l = step s m p l

-- The way to the back or to the front of a ring, by steps.
use Rattle.std.specs.Prelude.{◌≡◌, ℕ, ◌<◌, ◌+◌, ◌*◌, ◌≤◌}
use Rattle.ring_machine.specs.declared.lines.Back.{Back}
use Rattle.ring_machine.specs.declared.lines.Front.{Front}
use Rattle.ring_machine.specs.declared.lines.Walk.{Walk as WalkLine}
use Rattle.ring_table.specs.Layout.{tail_at}
use Rattle.ring_machine.specs.Machine.{stride, at_back, at_front}
use Rattle.ring_machine.specs.declared.lines.Line.TheVariants.{LoadTail, LoadBack, MoveTail, LoadHead, LoadFront, MoveHead}
use Rattle.ring_queue.specs.Prelude.{Line, MAX_TAG, fields_of, head_at, index_of, slot_at, tag_of}
use Rattle.ring_queue.specs.declared.code.walk.Walk.{Walk}
use Rattle.ring_queue.specs.declared.life.spare.Spare.{Spare}
use Rattle.ring_queue.specs.declared.code.walking.WalkAt.{WalkAt}
use Rattle.ring_queue.specs.declared.code.walking.WalkAt.TheVariants.{LoadHint, LoadSlot, MoveHint}
use Rattle.ring_queue.specs.declared.code.walking.Found.{Found}

-- where a pass goes, and why
pub data Aim (T : Type 0) : Type 0 where
  to_back : Back T → Aim T
  to_front : Front → Aim T

-- a walk of the machine
abbrev pub line_of : Walk → WalkLine
line_of w = record { cell = w.spare.index; from = fields_of w.from; at = fields_of w.at; gone = w.gone }

-- the spare cell of the pass
abbrev pub spare_at : WalkAt → Spare
spare_at (LoadHint c) = c
spare_at (LoadSlot w) = w.spare
spare_at (MoveHint w) = w.spare

-- a walk has come to a slot, and has its word
abbrev pub IsAt : ℕ → Walk → Type 0
IsAt n w = (index_of w.at < n) × (w.place ≡ slot_at n (index_of w.at))

-- a position is one of a slot, whose word the walk has
abbrev pub IsRead : ℕ → WalkAt → Type 0
IsRead n (LoadSlot w) = (index_of w.at < n) × (w.gone < stride) × (w.place ≡ slot_at n (index_of w.at))
IsRead n at = Unit {0}

-- at the end the slot has not been passed
pub record IsEnd (n laps full : ℕ) (f : Found) : Type 0 where
  pub slot : index_of f.walk.at < n
  pub short : f.walk.gone < stride
  pub place : f.walk.place ≡ slot_at n (index_of f.walk.at)
  pub within : tag_of f.slot ≤ 2 * laps
  pub here : tag_of f.slot ≤ 2 * tag_of f.walk.at + full

-- a position of a slot that another position follows
abbrev pub MayPass : ℕ → Walk → Type 0
MayPass n w = (index_of w.at < n) × (tag_of w.at < MAX_TAG)

module _ {T : Type 0} where
  -- the word that says where the walk begins, and one less than the least tag of a slot at an empty lap 0 that the walk passes
  abbrev pub hint_of : Aim T → ℕ
  hint_of (to_back s) = tail_at
  hint_of (to_front s) = head_at

  abbrev pub full_of : Aim T → ℕ
  full_of (to_back s) = 0
  full_of (to_front s) = 1

  -- the machine's line
  abbrev pub walk_line : Aim T → WalkAt → Line T
  walk_line (to_back s) (LoadHint c) = LoadTail c.index s
  walk_line (to_back s) (LoadSlot w) = LoadBack (line_of w) s
  walk_line (to_back s) (MoveHint w) = MoveTail (line_of w) s
  walk_line (to_front s) (LoadHint c) = LoadHead c.index s
  walk_line (to_front s) (LoadSlot w) = LoadFront (line_of w) s
  walk_line (to_front s) (MoveHint w) = MoveHead (line_of w) s

  -- the line that the slot leads to that it has come to
  abbrev pub end_line : ℕ → ℕ → Aim T → Found → Line T
  end_line n limit (to_back s) f = at_back n limit (line_of f.walk) s (fields_of f.slot)
  end_line n limit (to_front s) f = at_front (line_of f.walk) s (fields_of f.slot)

-- The way to the end of the chain, by steps.
use Rattle.std.specs.Prelude.{◌≢◌, ℕ, ◌+◌, ◌<◌}
use Rattle.queue_machine.specs.declared.lines.Line.TheVariants.{LoadTail, LoadTailNext, CheckTail, SwingTail}
use Rattle.queue_machine.specs.Machine.{back_closed, back_null}
use Rattle.queue_table.specs.Lines.{HasRoom}
use Rattle.ms_queue.specs.Prelude.{Line, NULL, Seeking, fields_of, index_of, tag_of}
use Rattle.ms_queue.specs.declared.code.seeking.Seek.{Seek}
use Rattle.ms_queue.specs.declared.code.seeking.Seek.TheVariants.{LoadTail as SeekTail, LoadNext as SeekNext, CheckTail as SeekCheck, SwingTail as SeekSwing}
use Rattle.ms_queue.specs.declared.code.seeking.End.{End}
use Rattle.ms_queue.specs.declared.code.seeking.End.TheVariants.{Closed as EndClosed, Open}

-- what was read names nodes, and the tail that is to be moved has room for its tag to rise
abbrev pub IsRead : ℕ → ℕ → Seek → Type 0
IsRead n limit SeekTail = Unit {0}
IsRead n limit (SeekNext w) = index_of w < n + 1
IsRead n limit (SeekCheck w x) = (index_of w < n + 1) × (index_of x ≢ NULL → index_of x < n + 1)
IsRead n limit (SeekSwing w x) = (index_of w < n + 1) × (index_of x < n + 1) × (tag_of w < limit)

module _ {T : Type 0} where
  -- the machine's line
  abbrev pub seek_line : Seeking T → Seek → Line T
  seek_line s SeekTail = LoadTail s
  seek_line s (SeekNext w) = LoadTailNext s (fields_of w)
  seek_line s (SeekCheck w x) = CheckTail s (fields_of w) (fields_of x)
  seek_line s (SeekSwing w x) = SwingTail s (fields_of w) (fields_of x)

  -- the line that the end of the chain leads to
  abbrev pub end_line : Seeking T → End → Line T
  end_line s (EndClosed w) = back_closed s (fields_of w)
  end_line s (Open w x) = back_null s (fields_of w) (fields_of x)

  abbrev pub HasReadEnd : ℕ → ℕ → Seeking T → End → Type 0
  HasReadEnd n limit s (EndClosed w) = Unit {0}
  HasReadEnd n limit s (Open w x) = (index_of w < n + 1) × HasRoom limit (back_null s (fields_of w) (fields_of x))

-- What the stock of a ring's root must be before it gives a pass, and before it takes one back.
use Rattle.std.specs.Prelude.{ℕ, ◌<◌, Vec}
use Rattle.std.specs.declared.alloc.Global.{Global}
use Rattle.ring_queue.specs.Prelude.{Limits, SeatLine, names}
use Rattle.ring_queue.specs.declared.life.spare.Spare.{Spare}
use Rattle.ring_queue.specs.code.Machine.{machine_at}
use Rattle.ring_queue.specs.Calls.{Stocks, keeps}

module _ (T : Type 0) (k : Limits) where
  -- a root's stock has a cell for one pass more
  pub record MayGive (stock : Vec Spare Global) : Type 0 where
    pub out : ℕ
    pub line : SeatLine T
    pub stocks : Stocks k line stock
    pub before : (machine_at {T = T} k).core.IsStock out line
    pub room : out < (machine_at {T = T} k).core.shape.passes

  -- a root's stock has room for the cell that a pass kept
  pub record MayTake (stock : Vec Spare Global) (spare : Spare) : Type 0 where
    pub out : ℕ
    pub line : SeatLine T
    pub quiet : SeatLine T
    pub stocks : Stocks k line stock
    pub has : keeps quiet spare
    pub after : (machine_at {T = T} k).core.IsStock out (names.shares.takes line quiet)

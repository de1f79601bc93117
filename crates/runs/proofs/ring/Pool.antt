-- The ring with a pool of free cells in its memory, for the proof: a pass that has begun takes its cell out of the pool by a step of its own, and gives its spare
-- one back by its last step. It needs no premise: there is a line for a pass whose cell is not free.
use Rattle.std.proofs.Common.{ℕ, ◌+◌, Bool, false, cond, eqb, ltb, List, [], ◌∷◌}
use Rattle.bounded_model.specs.declared.history.Event.{Event}
use Rattle.bounded_model.specs.Machine.{Shape}
use Rattle.machine.specs.Schedule.{Machine, Outcome, Pass, State}
use Rattle.machine.specs.Words.{times}
use Rattle.ring_machine.specs.declared.lines.Call.{Call}
use Rattle.ring_machine.specs.declared.lines.Line.{Line}
use Rattle.ring_machine.specs.Machine.{Memory, cell_of, first_of, resting, step, wins_exchange}
use Rattle.ring_machine.specs.Machine as ring
use Rattle.ring_machine.specs.Answers.{shape}
use Rattle.ring_table.specs.declared.line.SeatLine.{SeatLine}
use Rattle.ring_table.specs.declared.line.SeatLine.TheVariants.{At, Stock}
use Rattle.ring_table.specs.Seats.{is_idle, cells_from}
use Rattle.ring_table.specs.Core.{first_memory}
use Rattle.runs.specs.ring.Machine.{From}

-- a pass has begun a call and has no cell yet, or it is at a line of the ring
pub data PoolLine (T : Type 0) : Type 0 where
  Gets : (from : SeatLine T) (call : Call T) → PoolLine T
  Goes : (line : SeatLine T) → PoolLine T

pub record Pool (T : Type 0) : Type 0 where
  pub memory : Memory T
  pub free : List ℕ

-- the list without the first c in it
abbrev pub without : ℕ → List ℕ → List ℕ
without c [] = []
without c (d ∷ ds) = cond (eqb c d) ds (d ∷ without c ds)

abbrev pub PoolOutcome : Type 0 → Type 0
PoolOutcome T = Outcome (Pool T) (PoolLine T) (Event T)

module _ {T : Type 0} where
  abbrev pub waits : Pool T → PoolLine T → PoolOutcome T
  waits m l = record { memory = m; line = l; events = [] }

  abbrev pub has : Pool T → ℕ → Bool
  has m c = ltb 0 (times c m.free)

  -- the cell is taken
  abbrev pub got : Pool T → ℕ → Call T → PoolOutcome T
  got m c call = record { memory = record { memory = m.memory; free = without c m.free }; line = Goes (At (first_of c call)); events = [] }

  -- the pool after a step to this line
  abbrev pub freed : Line T → List ℕ → List ℕ
  freed l free = cond (ring.is_idle l) (cell_of l ∷ free) free

  abbrev pub gone : Pool T → ring.Outcome T → PoolOutcome T
  gone m o = record { memory = record { memory = o.memory; free = freed o.line m.free }; line = Goes (At o.line); events = o.events }

  abbrev pub idle_in : PoolLine T → Bool
  idle_in (Gets from call) = false
  idle_in (Goes l) = is_idle l

  abbrev pub wins_in : Pool T → PoolLine T → Bool
  wins_in m (Gets from call) = false
  wins_in m (Goes (At l)) = wins_exchange m.memory l
  wins_in m (Goes (Stock cs)) = false

  -- a pass whose cell is not free waits for ever, or gives up
  abbrev pub waiting : SeatLine T → Call T → PoolLine T
  waiting from call = Gets from call

  abbrev pub giving_up : SeatLine T → Call T → PoolLine T
  giving_up from call = Goes (At (resting 0))

-- the machine, by what becomes of a pass whose cell is not free
module _ {T : Type 0} (refused : SeatLine T → Call T → PoolLine T) where
  abbrev pub gets : Pool T → SeatLine T → Call T → PoolOutcome T
  gets m (At l) call = cond (has m (cell_of l)) (got m (cell_of l) call) (waits m (refused (At l) call))
  gets m (Stock cs) call = waits m (refused (Stock cs) call)

  abbrev pub step_in : Shape → Pool T → ℕ → PoolLine T → PoolOutcome T
  step_in c m p (Gets from call) = gets m from call
  step_in c m p (Goes (At l)) = gone m (step c m.memory p l)
  step_in c m p (Goes (Stock cs)) = waits m (Goes (Stock cs))

  abbrev pub pool_ring : ℕ → ℕ → ℕ → Machine (Pool T) (PoolLine T) (From T) (Event T)
  pool_ring n laps passes = record {
    first = record { memory = first_memory T n laps passes; free = cells_from n passes };
    rest = λ p. Goes (At (resting (n + p)));
    is_idle = idle_in;
    starts = λ from l. Gets from.0 from.1;
    step = step_in (shape n laps);
    wins = wins_in;
  }

abbrev pub PoolPass : Type 0 → Type 0
PoolPass T = Pass (PoolLine T) (From T) (Event T)

abbrev pub PoolState : Type 0 → Type 0
PoolState T = State (Pool T) (PoolLine T) (From T) (Event T)

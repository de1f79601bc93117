-- What a caller knows whose put was refused because its queue is spent.
use Rattle.std.specs.Prelude.{◌≡◌, ℕ, zero, suc, ◌+◌, ◌≤◌, false, List, [], ◌∷◌}
use Rattle.bounded_model.specs.declared.history.Event.{Event}
use Rattle.bounded_model.specs.declared.history.Event.TheVariants.{Hold, Put, Free}
use Rattle.machine.specs.Seats.{Acts}
use Rattle.queue_machine.specs.declared.lines.Line.{Line}
use Rattle.queue_machine.specs.declared.lines.Line.TheVariants.{LoadCells}
use Rattle.queue_machine.specs.Answers.{state}
use Rattle.running.specs.Acts.{Begins, Steps}

-- This history has used up a queue of n cells whose tags go up to this limit. As many cells were reserved as the limit says. If the queue is
-- open, a value was put with each of them, but for one, and for those that are in some pass's hand
pub record IsSpent {T : Type 0} (n limit : ℕ) (h : List (Event T)) : Type 0 where
  pub all : (state n limit h).holds ≡ limit
  pub put : (state n limit h).closed ≡ false → limit ≤ (state n limit h).puts + (state n limit h).held + 1

-- pass 0 puts 7: it reserves a cell, takes a node whose link has no room for two more tags, and gives both back
abbrev pub put_that_backs_out : Acts (Line ℕ)
put_that_backs_out =
    (0, Steps) ∷ (0, Steps) ∷ (0, Steps) ∷ (0, Steps) ∷ (0, Steps) ∷ (0, Steps) ∷ (0, Steps)
    ∷ (0, Steps) ∷ (0, Steps) ∷ (0, Steps) ∷ (0, Steps) ∷ (0, Steps) ∷ (0, Steps) ∷ (0, Steps)
    ∷ (0, Begins (LoadCells 7)) ∷ []

-- a put of 7 that stored it
abbrev pub one_put : List (Event ℕ)
one_put = Put 0 (7 ∷ []) 0 ∷ Hold 0 ∷ []

-- this number of puts after one another that back out
abbrev pub backed_out : ℕ → List (Event ℕ)
backed_out zero = []
backed_out (suc k) = Free 0 1 ∷ Hold 0 ∷ backed_out k

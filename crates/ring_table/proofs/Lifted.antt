-- What a line of a seat does is what the machine's line does.
use Rattle.std.proofs.Common.{◌≡◌, ℕ, Bool, true, false, cond, List, map, refl}
use mathlib.Core.Option.{Option, none, some}
use Rattle.machine.specs.Words.{Tagged, same}
use Rattle.machine.specs.Schedule.{Outcome}
use Rattle.machine.specs.Program.{Memories, Then, Won, Deed, stays, returns, brings, rests, loads, checks, follows, fetches, stows, stores, links, attempts, swaps, onward, answered, won, does, new_word}
use Rattle.ring_machine.specs.declared.lines.Line.{Line}
use Rattle.ring_table.specs.declared.line.SeatLine.{SeatLine}
use Rattle.ring_table.specs.declared.line.SeatLine.TheVariants.{At}
use Rattle.ring_table.specs.Seats.{deed_at, won_at, reply_at}

module _ {T M P Q E : Type 0} (x : Memories T M P Q) (idle : Line T) (m : M) (pass : ℕ) where
  -- an outcome, at a line of a seat
  pub record Alike (o : Outcome M (SeatLine T) E) (o' : Outcome M (Line T) E) : Type 0 where
    pub memory : o.memory ≡ o'.memory
    pub line : o.line ≡ At o'.line
    pub events : o.events ≡ o'.events

  by_test : (b : Bool) (o o2 : Outcome M (SeatLine T) E) (o' o2' : Outcome M (Line T) E) → Alike o o' → Alike o2 o2' → Alike (cond b o o2) (cond b o' o2')
  by_test true o o2 o' o2' h k = h
  by_test false o o2 o' o2' h k = k

  answered_alike : (at : P) (new : Tagged) (is : List ℕ) (r : Option (Then (Line T) E)) → Alike (answered x (At idle) m pass at new is (reply_at r)) (answered x idle m pass at new is r)
  answered_alike at new is none = record { memory = refl; line = refl; events = refl }
  answered_alike at new is (some t) = record { memory = refl; line = refl; events = refl }

  won_alike : (at : P) (new : Tagged) (w : Won T M (Line T) E) → Alike (won x (At idle) m pass at new (won_at w)) (won x idle m pass at new w)
  won_alike at new (stays t) = record { memory = refl; line = refl; events = refl }
  won_alike at new (returns zs t) = record { memory = refl; line = refl; events = refl }
  won_alike at new (brings way which reply) = answered_alike at new (which m) (reply (which m) (map (x.home m) (which m)))

  goes : (m' : M) (l : Line T) → Alike (onward x m' (At l)) (onward x m' l)
  goes m' l = record { memory = refl; line = refl; events = refl }

  pub does_alike : (l : Line T) (d : Deed T M P Q (Line T) E) → Alike (does x (At idle) m pass (At l) (deed_at d)) (does x idle m pass l d)
  does_alike l rests = goes m l
  does_alike l (loads at to) = record { memory = refl; line = refl; events = refl }
  does_alike l (checks at w here else_) = by_test (same (x.word m at) w) _ _ _ _ (goes m here) (goes m else_)
  does_alike l (follows at to) = record { memory = refl; line = refl; events = refl }
  does_alike l (fetches at is to) = record { memory = refl; line = refl; events = refl }
  does_alike l (stows at zs to) = record { memory = refl; line = refl; events = refl }
  does_alike l (stores at w to) = record { memory = refl; line = refl; events = refl }
  does_alike l (links at k to) = record { memory = refl; line = refl; events = refl }
  does_alike l (attempts at old new to) = by_test (same (x.word m at) old) _ _ _ _ (record { memory = refl; line = refl; events = refl }) (goes m to)
  does_alike l (swaps at old change w lost) = by_test (same (x.word m at) old) _ _ _ _ (won_alike at (new_word (x.keeps at) old change) w) (goes m lost)

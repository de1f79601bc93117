-- A step of a machine that is given as data, by cases on what its line does.
use Rattle.std.proofs.Common.{◌≡◌, ℕ, List, ◌++◌, refl}
use Rattle.bounded_model.specs.declared.history.Event.{Event}
use Rattle.bounded_model.specs.Histories.{own}
use Rattle.machine.specs.Words.{same}
use Rattle.machine.specs.Chains.{away, back}
use Rattle.machine.specs.Schedule.{Outcome}
use Rattle.machine.specs.Program.{Memories, Deed, new_word, with_word, with_link, with_slots, onward, won, does, rests, loads, checks, follows, fetches, stows, stores, links, attempts, swaps}
use Rattle.machine.proofs.Tests.{cases, same-is}

module _ {T M P Q L E : Type 0} (x : Memories T M P Q) (idle : L) (m : M) (p : ℕ) (Is : Outcome M L E → Type 0) where
  -- what is to be shown for all outcomes of a line that does this: where a word is compared, both ways
  abbrev pub Cases : L → Deed T M P Q L E → Type 0
  Cases l rests = Is (onward x m l)
  Cases l (loads at to) = Is (onward x m (to (x.word m at)))
  Cases l (checks at w here else_) = (x.word m at ≡ w → Is (onward x m here)) × Is (onward x m else_)
  Cases l (follows at to) = Is (onward x m (to (x.link m at)))
  Cases l (fetches at is to) = Is (onward x (with_slots x m (away (x.home m) is)) (to (x.word m at)))
  Cases l (stows at zs to) = Is (onward x (with_slots x m (back (x.home m) zs)) to)
  Cases l (stores at w to) = Is (onward x (with_word x m at w (x.home m)) to)
  Cases l (links at k to) = Is (onward x (with_link x m at k) to)
  Cases l (attempts at old new to) = (x.word m at ≡ old → Is (onward x (with_word x m at new (x.home m)) to)) × Is (onward x m to)
  Cases l (swaps at old change w lost) = (x.word m at ≡ old → Is (won x idle m p at (new_word (x.keeps at) old change) w)) × Is (onward x m lost)

  pub by_cases : (l : L) (d : Deed T M P Q L E) → Cases l d → Is (does x idle m p l d)
  by_cases l rests h = h
  by_cases l (loads at to) h = h
  by_cases l (checks at w here else_) h = cases Is (same (x.word m at) w) (onward x m here) (onward x m else_) (λ b. h.0 (same-is (x.word m at) w b)) (λ b. h.1)
  by_cases l (follows at to) h = h
  by_cases l (fetches at is to) h = h
  by_cases l (stows at zs to) h = h
  by_cases l (stores at w to) h = h
  by_cases l (links at k to) h = h
  by_cases l (attempts at old new to) h = cases Is (same (x.word m at) old) (onward x (with_word x m at new (x.home m)) to) (onward x m to) (λ b. h.0 (same-is (x.word m at) old b)) (λ b. h.1)
  by_cases l (swaps at old change w lost) h = cases Is (same (x.word m at) old) (won x idle m p at (new_word (x.keeps at) old change) w) (onward x m lost) (λ b. h.0 (same-is (x.word m at) old b)) (λ b. h.1)

-- an event is added by an exchange alone
module _ {T M P Q L : Type 0} (x : Memories T M P Q) (idle : L) (m : M) (p q : ℕ) (history : List (Event T)) where
  -- and it is of no other pass
  abbrev pub Apart : Deed T M P Q L (Event T) → Type 0
  Apart (swaps at old change w lost) = own q ((won x idle m p at (new_word (x.keeps at) old change) w).events ++ history) ≡ own q history
  Apart d = Unit {0}

  abbrev Kept : Outcome M L (Event T) → Type 0
  Kept o = own q (o.events ++ history) ≡ own q history

  pub adds_own : (l : L) (d : Deed T M P Q L (Event T)) → Apart d → own q ((does x idle m p l d).events ++ history) ≡ own q history
  adds_own l rests h = refl
  adds_own l (loads at to) h = refl
  adds_own l (checks at w here else_) h = by_cases x idle m p Kept l (checks at w here else_) (λ won. refl, refl)
  adds_own l (follows at to) h = refl
  adds_own l (fetches at is to) h = refl
  adds_own l (stows at zs to) h = refl
  adds_own l (stores at w to) h = refl
  adds_own l (links at k to) h = refl
  adds_own l (attempts at old new to) h = by_cases x idle m p Kept l (attempts at old new to) (λ won. refl, refl)
  adds_own l (swaps at old change w lost) h = by_cases x idle m p Kept l (swaps at old change w lost) (λ won. h, refl)

-- What each line of the ring needs for its step to be made on the table, from the rule.
use Rattle.std.proofs.Common.{◌≡◌, ℕ, ◌+◌, ◌*◌, ◌<◌, ⊎_elim, List, [], ◌∷◌, length, refl, sym, subst, lt_of_not-le, arith}
use Rattle.std.specs.Prelude.{Option as Slot, Some, None}
use mathlib.Core.Option.{Option, some}
use lib.ListN.{get_elem?}
use Rattle.bounded_model.specs.declared.history.Event.{Event}
use Rattle.machine.specs.Words.{times}
use Rattle.machine.proofs.Lists.{times_here}
use Rattle.machine.proofs.Sums.{total_one}
use Rattle.machine.proofs.Tests.{not_below}
use Rattle.ring_machine.specs.declared.lines.Line.{Line}
use Rattle.ring_machine.specs.declared.lines.Line.TheVariants.{Idle, FetchTail, LoadTail, LoadBack, MoveTail, PutCell, PassTail, MarkBack, LoadHead, LoadFront, MoveHead, TakeCell, PassHead, Stow, ShutFront, CheckFront}
use Rattle.ring_machine.specs.Machine.{Memory, table, cell_of, held_cells}
use Rattle.ring_machine.specs.Rule.{IsFine, progress, Good}
use Rattle.ring_machine.proofs.Cells.{cell_in}
use Rattle.ring_machine.proofs.StepKinds.{takes_first}
use Rattle.running.specs.Machine.{Does}
use Rattle.running.specs.Tables.{Needs, Goes}
use Rattle.running.proofs.Does.{does_all}
use Rattle.ring_table.specs.Layout.{head_at, tail_at, slot_at}
use Rattle.ring_table.specs.Memories.{memory_of, Sane}
use Rattle.ring_table.specs.declared.line.SeatLine.{SeatLine}
use Rattle.ring_table.specs.declared.line.SeatLine.TheVariants.{At, Stock}
use Rattle.ring_table.specs.Seats.{passes_of, deed_at}
use Rattle.ring_table.specs.Core.{table_at, board, rules, core}
use Rattle.ring_table.proofs.Seats.{found}
use Rattle.ring_table.proofs.Memories.{lies, slot_below, hints_below, at_home_is}

module _ {T : Type 0} (n laps passes : ℕ) (words : List ℕ) (homes : List (Option (Slot T))) (sane : Sane n (n + passes) words homes) (p : ℕ) where
  abbrev cells : ℕ
  cells = n + passes

  abbrev m : Memory T
  m = memory_of n cells words homes

  head_low : head_at < length words
  head_low = omega (arith, sane.words_are, hints_below n)

  tail_low : tail_at < length words
  tail_low = omega (arith, sane.words_are, hints_below n)

  slot_low : (i : ℕ) → i < n → slot_at n i < length words
  slot_low i h = omega (arith, sane.words_are, slot_below n i h)

  -- of the lines of all passes, among which this one is at q
  module _ (lines : List (Line T)) (h : List (Event T)) (q : ℕ) (k : Good T n laps cells m lines h) where
    abbrev Fine : Line T → Type 0
    Fine l = IsFine n laps (progress T n laps m h) l

    -- the cell of a slot, and the spare one of a pass, are among the cells
    slot_cell : (i : ℕ) → i < n → (m.slot i).index < cells
    slot_cell i low = lt_of_not-le (λ above. absurd (omega (arith, k.once (m.slot i).index, cell_in n i m.slot low, not_below (m.slot i).index cells above)))

    own_cell : (l : Line T) → get_elem? lines q ≡ some l → cell_of l < cells
    own_cell l e = lt_of_not-le (λ above. absurd (omega (arith, k.once (cell_of l), total_one (λ (u : Line T). times (cell_of l) (held_cells u)) lines q l e, times_here (cell_of l) [], not_below (cell_of l) cells above)))

    -- a cell that goes home is one, once
    goes : (l : Line T) → get_elem? lines q ≡ some l → (x : Slot T) → Goes (board T n laps passes) words homes ((cell_of l, x) ∷ [])
    goes l e x = record {
      apart = (λ z. z, tt);
      low = λ i there. ⊎_elim (λ e'. subst (λ (c : ℕ). c < length homes) (sym e') (let low = own_cell l e in omega (arith, low, sane.homes_are))) (λ z. absurd z) there;
    }

    needs : (l : Line T) → get_elem? lines q ≡ some l → Needs (board T n laps passes) words homes (At l) (deed_at (table n (2 * laps) l))
    needs (Idle c a) e = tt
    needs (FetchTail c v) e = (
      record { slots = (c, None) ∷ []; apart = (λ z. z, tt); home = (at_home_is homes c None (k.spares q (FetchTail c v) e refl), tt); fits = refl; are = refl },
      k.tail.at.slot,
    )
    needs (LoadTail c s) e = k.tail.at.slot
    needs (LoadBack w s) e = let f : Fine (LoadBack w s) = k.fine q (LoadBack w s) e in (slot_cell w.at.index f.0.at.slot, k.turned.within w.at.index f.0.at.slot)
    needs (MoveTail w s) e = (λ hit. tail_low, tt)
    needs (PutCell w v x) e = let f : Fine (PutCell w v x) = k.fine q (PutCell w v x) e in (λ hit. (slot_low w.at.index f.0.at.slot, goes (PutCell w v x) e (Some v)), tt)
    needs (PassTail w) e = (λ hit. tail_low, tt)
    needs (MarkBack w x) e = let f : Fine (MarkBack w x) = k.fine q (MarkBack w x) e in (λ hit. (slot_low w.at.index f.0.at.slot, tt), tt)
    needs (LoadHead c s) e = k.head.at.slot
    needs (LoadFront w s) e = let f : Fine (LoadFront w s) = k.fine q (LoadFront w s) e in (slot_cell w.at.index f.at.slot, k.turned.within w.at.index f.at.slot)
    needs (MoveHead w s) e = (λ hit. head_low, tt)
    needs (TakeCell w x) e =
        let l : Line T = TakeCell w x in
        let f : Fine l = k.fine q l e in (
          λ hit. let v = takes_first q l l k e p w x hit refl f.0.at f.2 in
              (slot_low w.at.index f.0.at.slot, record { slots = (x.index, Some v.value) ∷ []; apart = (λ z. z, tt); home = (at_home_is homes x.index (Some v.value) v.here, tt); fits = (v.value, refl); are = refl; to = _; replies = refl }),
          tt,
        )
    needs (PassHead w v) e = (λ hit. head_low, tt)
    needs (Stow w a) e = (goes (Stow w a) e None, tt)
    needs (ShutFront w x) e = let f : Fine (ShutFront w x) = k.fine q (ShutFront w x) e in (λ hit. (slot_low w.at.index f.0.at.slot, tt), tt)
    needs (CheckFront c front back) e = tt

  -- each line's access does to the table what the machine's step does to the memory
  needs_at : (seats : List (SeatLine T)) (h : List (Event T)) (q : ℕ) → Good T n laps cells m (passes_of seats) h → (l : SeatLine T) → get_elem? seats q ≡ some l → Needs (board T n laps passes) words homes l (table_at n laps l)
  needs_at seats h q k (At l) e = let f = found seats q l e in needs (passes_of seats) h f.place k l f.there
  needs_at seats h q k (Stock cs) e = tt

  pub does : (seats : List (SeatLine T)) (h : List (Event T)) (q : ℕ) → Good T n laps cells m (passes_of seats) h → (l : SeatLine T) → get_elem? seats q ≡ some l → Does (core T n laps passes) words homes p l ((core T n laps passes).access l)
  does seats h q k l e = does_all (board T n laps passes) (rules T n laps passes) (lies T n cells) (λ a x plain. absurd a) words homes sane p l (needs_at seats h q k l e)

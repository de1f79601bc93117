-- The laws of a machine: what its core has proved, and what its client's rule owes. No contract needs them, only the proofs of running's functions.
use Rattle.std.specs.Prelude.{◌≡◌, ◌≢◌, ℕ, ◌+◌, ◌<◌, true, false, List, ◌++◌, slice_set, Option as Slot}
use mathlib.Core.Option.{Option, some}
use lib.ListN.{get_elem?}
use Rattle.bounded_model.specs.declared.history.Event.{Event}
use Rattle.bounded_model.specs.Machine.{state, Legal}
use Rattle.bounded_model.specs.Histories.{own, Later}
use Rattle.running.specs.Machine.{Names, Core, Machine, Standing, Turn, Sight, Reseated, Does}
use Rattle.running.specs.Ties.{Adds, IsTie}

-- what the core has proved of its machine, and the container of its table
pub record Laws {T L O : Type 0} (names : Names L O) (c : Core T L O) : Type 0 where
  pub fresh : (p : ℕ) → names.is_idle (c.rest p) ≡ true
  -- of a root's line, and of that of the pass that it gives
  pub stocked : c.IsStock 0 c.stock
  pub gives_quiet : (out : ℕ) (l : L) → c.IsStock out l → out < c.shape.passes → names.quiet (names.shares.gives l).1 ≡ (names.shares.gives l).1
  pub gives_stock : (out : ℕ) (l : L) → c.IsStock out l → out < c.shape.passes → c.IsStock (out + 1) (names.shares.gives l).0
  pub takes_stock : (out : ℕ) (l k : L) → c.IsStock (out + 1) l → names.quiet k ≡ k → c.IsStock out (names.shares.takes l k)
  pub empty : (l : L) → names.is_idle l ≡ true → c.holding l ≡ 0
  pub begins : (m : c.Memory) (s : Standing c m) (o : O) → names.is_idle s.line ≡ true → c.Good m s.who (slice_set s.lines s.seat (names.first o s.line)) s.history
  pub quiets : (m : c.Memory) (s : Standing c m) → names.is_idle s.line ≡ true → c.Good m s.who (slice_set s.lines s.seat (names.quiet s.line)) s.history
  pub kept : (m : c.Memory) (t : Turn c m) → c.Good (c.after m t.pass t.at.line) t.at.who (slice_set t.at.lines t.at.seat (c.lands m t.pass t.at.line)) (c.adds m t.pass t.at.line ++ t.at.history)
  pub reseats : (m : c.Memory) (r : Reseated c m names) → c.Good m r.who' r.lines' r.history
  pub legal : (m : c.Memory) (who : ℕ → Option ℕ) (lines : List L) (h : List (Event T)) → c.Good m who lines h → Legal c.shape h
  pub hands : (m : c.Memory) (t : Turn c m) → (state c.shape t.at.history).hand t.pass ≡ c.holding t.at.line
  -- a step's events are of its pass alone
  pub apart : (m : c.Memory) (p : ℕ) (l : L) (h : List (Event T)) → (q : ℕ) → q ≢ p → own q (c.adds m p l ++ h) ≡ own q h
  pub deeds : (o : O) (m : c.Memory) (s : Sight c m) → c.Deeds o s.pass.number s.at.line s.begun s.pass.seen → c.Deeds o s.pass.number (c.lands m s.pass.number s.at.line) s.begun (c.adds m s.pass.number s.at.line ++ s.at.history)
  pub tells : (m : c.Memory) (s : Sight c m) → Later s.begun s.pass.seen → c.Tells s.begun s.pass.seen s.at.line → c.Tells s.begun (c.adds m s.pass.number s.at.line ++ s.at.history) (c.lands m s.pass.number s.at.line)
  pub first_deeds : (p : ℕ) (h : List (Event T)) (o : O) (l : L) → c.Deeds o p (names.first o l) h h
  pub first_tells : (h : List (Event T)) (o : O) (l : L) → c.Tells h h (names.first o l)
  pub unheld : (m : c.Memory) (s : Standing c m) (p : ℕ) → c.WinsUnheld m s.lines s.line (c.lands m p s.line)
  -- an idle seat begins with what is free, by lines of passes that put each pass in an operation at a seat's line
  pub free : (m : c.Memory) (s : Standing c m) (o : O) (line : ℕ → L) → names.is_idle s.line ≡ true → ((q : ℕ) → names.is_idle (line q) ≡ false → (j : ℕ) × (get_elem? s.lines j ≡ some (line q))) → c.Free m line (names.first o s.line)
  -- of all that a step adds to the history, only the effect of its operation changes the container
  pub effects : (o : O) (m : c.Memory) (s : Sight c m) → c.Deeds o s.pass.number s.at.line s.begun s.pass.seen → Adds (c.Effect o s.pass.number) s.pass.number s.begun s.at.history (c.adds m s.pass.number s.at.line)
  -- every line's access does to the table what the core's step does to the memory
  pub does : (words : List ℕ) (homes : List (Option (Slot T))) (t : Turn c (c.read words homes)) → c.Sane words homes → Does c words homes t.pass t.at.line (c.access t.at.line)

-- the laws of a machine with its client's rule
pub record Lawful {T L O : Type 0} {names : Names L O} (m : Machine T L O names) : Type 0 where
  pub laws : Laws names m.core
  pub tie : IsTie m.rule

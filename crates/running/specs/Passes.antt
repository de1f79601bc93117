-- Which passes, roots and notes are those of a table, and what they have seen.
use Rattle.std.specs.Prelude.{◌≡◌, ℕ, ◌+◌, List, [], length, Option as Slot}
use Rattle.atomic_table.specs.Seated.{TableId}
use Rattle.bounded_model.specs.declared.history.Event.{Event}
use Rattle.bounded_model.specs.declared.views.PassView.{PassView}
use Rattle.bounded_model.specs.declared.views.RootView.{RootView}
use Rattle.bounded_model.specs.Machine.{Legal}
use Rattle.bounded_model.specs.Laws.{IsSound}
use Rattle.bounded_model.specs.Stepping.{OneStep}
use Rattle.machine.specs.declared.seats.View.{View}
use Rattle.machine.specs.declared.seats.View.TheVariants.{AtRoot, AtNote}
use Rattle.machine.specs.Seats.{Acts, acts_now, handed_of, nothing, pass_of, root_of, told_of}
use Rattle.running.specs.Machine.{Names, Machine}
use Rattle.running.specs.Rule.{line_in}
use Rattle.running.specs.Going.{Rests, At, IsLine, begun_in}
use Rattle.running.specs.Since.{HasNew}
use Rattle.running.specs.declared.passes.Pass.{Pass}
use Rattle.running.specs.declared.passes.Root.{Root}
use Rattle.running.specs.declared.passes.Note.{Note}

module _ {T L : Type 0} where
  abbrev pub pass_in : Pass T L → PassView T
  pass_in p = pass_of p.seat.me.0

  abbrev pub root_in : Root T L → RootView T
  root_in r = root_of r.seat.me.0

  abbrev pub told_in : Note T L → List (Event T)
  told_in n = told_of n.seat.me.0

  -- the acts that a pass, a root and a note keep
  abbrev pub acts_in : Pass T L → Acts L
  acts_in p = acts_now p.seat.me.0

  abbrev pub acts_of_root : Root T L → Acts L
  acts_of_root r = acts_now r.seat.me.0

  abbrev pub acts_of_note : Note T L → Acts L
  acts_of_note n = acts_now n.seat.me.0

-- The lines of passes and of the root, which tell what they have between their calls
module _ {T L O : Type 0} (names : Names L O) where
  abbrev pub pass_line : Pass T L → L
  pass_line p = line_in names p.seat.me.0

  abbrev pub root_line : Root T L → L
  root_line r = line_in names r.seat.me.0

  -- the root, r and then s, has shared its line with a new pass
  pub record GivesLine (r s : Root T L) (p : Pass T L) : Type 0 where
    pub root : root_line s ≡ (names.shares.gives (root_line r)).0
    pub pass : pass_line p ≡ (names.shares.gives (root_line r)).1

module _ {T L O : Type 0} {names : Names L O} (m : Machine T L O names) where
  -- a pass between its operations
  pub record IsPassOn (id : TableId) (p : Pass T L) : Type 0 where
    pub table : p.seat.table_id ≡ id
    pub rests : Rests m p.seat.me

  -- a root between its calls
  pub record IsRootOn (id : TableId) (r : Root T L) : Type 0 where
    pub table : r.seat.table_id ≡ id
    pub view : r.seat.me.0 ≡ AtRoot (root_in r) (acts_of_root r) nothing (line_in names r.seat.me.0)
    pub slots : r.seat.me.1 ≡ []
    pub sound : IsSound m.core.shape (root_in r)
    pub counted : (root_in r).given ≡ r.out + length (root_in r).account
    pub stock : m.core.IsStock r.out (line_in names r.seat.me.0)
    pub tied : m.rule (root_in r).seen

  -- a note
  pub record IsNoteOn (id : TableId) (n : Note T L) : Type 0 where
    pub table : n.seat.table_id ≡ id
    pub view : n.seat.me.0 ≡ AtNote (handed_of n.seat.me.0)
    pub slots : n.seat.me.1 ≡ []
    pub legal : Legal m.core.shape (told_in n)
    pub tied : m.rule (told_in n)

  -- a pass in an operation, at a line and with these slots in hand
  pub record IsAtOn (id : TableId) (o : O) (p : Pass T L) (l : L) (slots : List (ℕ × Slot T)) : Type 0 where
    pub table : p.seat.table_id ≡ id
    pub at : At m o p.seat.me l slots

  -- the pass as it was when its operation was begun
  abbrev pub begun_of : Pass T L → PassView T
  begun_of p = begun_in m p.seat.me.0

  -- a step of a pass, one more, was the machine's step of the line l and led to l'
  abbrev pub OneLine : Pass T L → Pass T L → L → L → Type 0
  OneLine p q l l' = IsLine m p.seat.me.0 q.seat.me.0 l l' × OneStep (pass_in p) (pass_in q)

  -- Some steps of its operation, or none: it was begun as before. If further steps have led from q to w, then what is new at w since q tells what is
  -- new since p
  abbrev pub Since : Pass T L → Pass T L → Type 0
  Since p q = (begun_of q ≡ begun_of p) × ((w : View T L) → HasNew names q.seat.me.0 w → HasNew names p.seat.me.0 w)

  -- and its operation continues
  abbrev pub WentOn : Pass T L → Pass T L → L → L → Type 0
  WentOn p q l l' = (begun_of q ≡ begun_of p) × OneLine p q l l'

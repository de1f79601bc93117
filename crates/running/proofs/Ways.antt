-- What a step of a pass leaves.
use Rattle.std.proofs.Common.{◌≡◌, ◌≢◌, ℕ, Bool, true, false, cond, List, [], refl, ap, ◌∙◌}
use Rattle.std.specs.Prelude.{Option as Slot}
use Rattle.atomic_table.specs.Seated.{TableId}
use Rattle.tagged_index.specs.Fields.{fields_of}
use Rattle.tagged_index.proofs.Words.{same_fields}
use Rattle.machine.specs.Words.{same}
use Rattle.machine.proofs.Tests.{not_same, same-self}
use Rattle.running.specs.Machine.{Names, Machine}
use Rattle.running.specs.Rule.{line_in}
use Rattle.running.specs.Laws.{Lawful}
use Rattle.running.specs.Going.{Ended, Found, Owes, Steps}
use Rattle.running.specs.Passes.{IsPassOn, IsAtOn, OneLine, WentOn, begun_of, pass_in}
use Rattle.running.specs.declared.passes.Pass.{Pass}
use Rattle.running.proofs.Going.{goes_at, ends_at, begins, begun_at_rest}

module _ {T L O : Type 0} {names : Names L O} (m : Machine T L O names) where
  module _ {id : TableId} {o : O} {p : Pass T L} {l : L} {had : List (ℕ × Slot T)} (at : IsAtOn m id o p l had) (q : Pass T L) (found : ℕ) (zs : List (ℕ × Slot T)) (steps : Found m o p.seat.me.0 q.seat.me.0 found zs) (table : q.seat.table_id ≡ p.seat.table_id) where
    -- the operation goes on
    pub goes_on : (has : List (ℕ × Slot T)) (to : L) → q.seat.me.1 ≡ has → m.core.next l found zs ≡ to → names.is_idle to ≡ false → IsAtOn m id o q to has × WentOn m p q l to
    goes_on has to slots is busy =
        let g = goes_at m (steps (begun_of m p) l at.at.going).0 is busy slots in
        (record { table = table ∙ at.table; at = g.0 }, (g.1.begun, (g.1.line, g.1.one)))

    -- or has answered
    pub ends_so : (to : L) → q.seat.me.1 ≡ [] → m.core.next l found zs ≡ to → names.is_idle to ≡ true → IsPassOn m id q × Ended m o q.seat.me.0 (begun_of m p) to × OneLine m p q l to
    ends_so to slots is idle =
        let e = ends_at m (steps (begun_of m p) l at.at.going).0 is idle slots in
        (record { table = table ∙ at.table; rests = e.0 }, e.1, (e.2, e.3))

  -- the same of a step whose line is known
  module _ {id : TableId} {o : O} (p q : Pass T L) (l to : L) (steps : Steps m o p.seat.me.0 q.seat.me.0 (begun_of m p) l to) (table : q.seat.table_id ≡ id) where
    pub went_on : (has : List (ℕ × Slot T)) → q.seat.me.1 ≡ has → names.is_idle to ≡ false → IsAtOn m id o q to has × WentOn m p q l to
    went_on has slots busy =
        let g = goes_at m steps refl busy slots in
        (record { table = table; at = g.0 }, (g.1.begun, (g.1.line, g.1.one)))

    pub ended : q.seat.me.1 ≡ [] → names.is_idle to ≡ true → IsPassOn m id q × Ended m o q.seat.me.0 (begun_of m p) to × OneLine m p q l to
    ended slots idle =
        let e = ends_at m steps refl idle slots in
        (record { table = table; rests = e.0 }, e.1, (e.2, e.3))

  pub begun_is : (id : TableId) (p : Pass T L) → IsPassOn m id p → begun_of m p ≡ pass_in p
  begun_is id p is = begun_at_rest m (line_in names p.seat.me.0) p.seat.me.0 is.rests.view

module _ {T L O : Type 0} {names : Names L O} {m : Machine T L O names} (lawful : Lawful m) where
  -- a pass between its operations may begin any that deals by its client's rule
  pub started : (id : TableId) (o : O) (p : Pass T L) → IsPassOn m id p → Owes m o (pass_in p) → IsAtOn m id o p (names.first o (line_in names p.seat.me.0)) []
  started id o p is owes = record { table = is.table; at = begins lawful o p.seat.me is.rests owes }

-- an exchange found the word that it expected, or another
pub hits : {L : Type 0} (w : ℕ) (won lost : L) → cond (same (fields_of w) (fields_of w)) won lost ≡ won
hits w won lost = ap (λ (b : Bool). cond b won lost) (same-self (fields_of w))

pub misses : {L : Type 0} (found w : ℕ) → found ≢ w → (won lost : L) → cond (same (fields_of found) (fields_of w)) won lost ≡ lost
misses found w ne won lost = ap (λ (b : Bool). cond b won lost) (not_same (fields_of found) (fields_of w) (λ e. ne ((same_fields found w).1 e)))

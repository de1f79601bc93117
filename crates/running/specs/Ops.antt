-- Operations that were begun.
use Rattle.std.specs.Prelude.{◌≡◌, []}
use Rattle.atomic_table.specs.Seated.{TableId}
use Rattle.bounded_model.specs.Stepping.{Underway}
use Rattle.running.specs.Machine.{Names, Machine}
use Rattle.running.specs.Code.{Account}
use Rattle.running.specs.Passes.{begun_of, pass_in}
use Rattle.running.specs.Steps.{Stands}
use Rattle.running.specs.declared.op.Op.{Op}
use Rattle.running.specs.declared.passes.Pass.{Pass}

-- an operation at the first of its states, of a pass that is at this line
pub record IsFirst {T L O S A : Type 0} (names : Names L O) (c : Account T L O S A) (rest : L) (o : O) (at : S) : Type 0 where
  pub named : o ≡ c.operation at
  pub line : names.first o rest ≡ c.line at
  pub slots : c.slots at ≡ []
  pub knows : c.knows at

-- its pass as it was begun, and as it is now
abbrev pub underway_of : {T L O : Type 0} {names : Names L O} → Machine T L O names → Pass T L → Underway T
underway_of m p = record { begun = begun_of m p; now = pass_in p }

module _ {T L O S A : Type 0} {names : Names L O} (m : Machine T L O names) (c : Account T L O S A) (id : TableId) where
  -- it is under way
  pub record IsUnderWay (op : Op T L O S) : Type 0 where
    pub named : op.operation ≡ c.operation op.at
    pub stands : Stands m c id op.pass op.at

-- How many steps of its own an operation has made.
use Rattle.std.specs.Prelude.{◌≡◌, ℕ, true, false, ◌∷◌, ◌++◌}
use Rattle.atomic_table.specs.Seated.{TableId}
use Rattle.bounded_model.specs.declared.answers.Stepped.{Stepped}
use Rattle.bounded_model.specs.declared.views.PassView.{PassView}
use Rattle.bounded_model.specs.Stepping.{MatchStepped}
use Rattle.machine.specs.declared.seats.View.{View}
use Rattle.machine.specs.Seats.{Acts, acts_before, acts_now, pass_of}
use Rattle.running.specs.Machine.{Names, Machine}
use Rattle.running.specs.Acts.{Begins, begins_in, steps_in}
use Rattle.running.specs.Code.{Account}
use Rattle.running.specs.Kept.{Returned}
use Rattle.running.specs.Ops.{IsUnderWay}
use Rattle.running.specs.Passes.{begun_of}
use Rattle.running.specs.Rule.{line_in}
use Rattle.running.specs.declared.kept.Answered.{Answered}
use Rattle.running.specs.declared.kept.PassWith.{PassWith}
use Rattle.running.specs.declared.op.Op.{Op}

-- After the acts `before` pass x began an operation at this first line. By now it began no other, and has made n steps
pub record MadeSince {L : Type 0} (before now : Acts L) (x : ℕ) (first : L) (n : ℕ) : Type 0 where
  pub since : Acts L
  pub is : now ≡ since ++ (x, Begins first) ∷ before
  pub once : begins_in x since ≡ 0
  pub steps : steps_in x since ≡ n

-- A pass with this view has made n steps of the operation o: none while the first is still to be made, then those since the operation was begun
pub record HasMade {T L O : Type 0} (names : Names L O) (o : O) (v : View T L) (n : ℕ) : Type 0 where
  pub none : names.is_idle (line_in names v) ≡ true → n ≡ 0
  pub some : names.is_idle (line_in names v) ≡ false → (rest : L) × MadeSince (acts_before v) (acts_now v) (pass_of v).number (names.first o rest) n

module _ {T L O S A : Type 0} {names : Names L O} (m : Machine T L O names) (c : Account T L O S A) (id : TableId) where
  -- an operation under way that has made k steps
  pub record IsAfter (k : ℕ) (op : Op T L O S) : Type 0 where
    pub under_way : IsUnderWay m c id op
    pub made : HasMade names op.operation op.pass.seat.me.0 k

module _ {T L O K R S : Type 0} {names : Names L O} (m : Machine T L O names) (c : Account T L O S (Answered K R)) (Keeps : L → K → Type 0) (id : TableId) (Gives : O → PassView T → PassView T → R → Type 0) where
  -- The operation continues, begun as before, after this many steps in all, or its pass is back, with a reply that tells what it promises
  abbrev pub MadeFor : ℕ → Op T L O S → Stepped (Op T L O S) (PassWith T L K) R → Type 0
  MadeFor k op r = MatchStepped r
      (λ next. IsAfter m c id k next × (begun_of m next.pass ≡ begun_of m op.pass) × (next.operation ≡ op.operation))
      (λ back reply. Returned m c Keeps id Gives op.operation (begun_of m op.pass) back reply)

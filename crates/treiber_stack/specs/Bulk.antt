-- What a stack's ranges and folds promise.
use Rattle.std.specs.Prelude.{◌≡◌, ◌≤◌, ◌+◌, ℕ, List, [], ◌∷◌, ◌++◌, Result, Option as Slot, map, Some}
use Rattle.running.specs.Passes as passes
use Rattle.treiber_stack.specs.Prelude.{Event, FoldAnswers, FoldsAll, Front, IsUnderWay, Line, MatchStepped, Op, Operation, PassView, RangeRefused}
use Rattle.treiber_stack.specs.Prelude.{Ranged, Stepped, direction, in_order}
use Rattle.treiber_stack.specs.declared.bulk.folding.FoldAt.{FoldAt}
use Rattle.treiber_stack.specs.declared.bulk.fold_op.FoldMade.{FoldMade}
use Rattle.treiber_stack.specs.declared.bulk.fold_op.FoldMade.TheVariants.{Again, Value, Done}
use Rattle.treiber_stack.specs.Calls.{pass_in, Stack, StackWith, machine_with, shape_of, begun_of, begun_with, IsPassWith, Pass}
use Rattle.treiber_stack.specs.code.Machine.{no_rule}
use Rattle.treiber_stack.specs.code.Folding.{front_of, gone, fold_account}
use Rattle.treiber_stack.specs.code.RangeTrying.{IsRangeOp, RangeOp, RangeCame, RangeStarts, left_at, gives_back, MadeWith, RangeEnds, MadeAtMost}
use Rattle.treiber_stack.specs.code.Ranging.{places_from, PutsOf}

abbrev pub FoldOp : Type 0 → Type 0
FoldOp T = Op T (Line T) (Operation T) (FoldAt T)

-- n steps were allowed. A fold that continues has made exactly n. A fold that handed out a value or ended has made at most n
abbrev pub FoldSteps : {T : Type 0} → ℕ → PassView T → FoldMade T → Type 0
FoldSteps n v (Again op) = (passes.pass_in op.pass).steps ≡ v.steps + n
FoldSteps n v (Value x op) = (passes.pass_in op.pass).steps ≤ v.steps + n
FoldSteps n v (Done back answer) = (pass_in back).steps ≤ v.steps + n

module _ {T : Type 0} (rule : List (Event T) → Type 0) {D : Type 0} (c : StackWith T D) (front : Front) where
  -- it goes from this end, and has handed out these values, in this order
  pub record IsFoldingWith (values : List T) (op : FoldOp T) : Type 0 where
    pub under_way : IsUnderWay (machine_with rule c) (fold_account c.table.shared.key) c.table.shared.table_id op
    pub from : front_of op.at ≡ front
    pub handed : gone op.at ≡ values

  -- What some steps of it give, if it had handed out these values. Either it continues, begun as before, and has handed out one value more
  -- or none. Or it has ended by the laws of a whole fold: these values were all that it took, or none since it was refused
  abbrev pub FoldTriedWith : List T → PassView T → FoldMade T → Type 0
  FoldTriedWith values begun (Again op) = IsFoldingWith values op × (begun_with rule c op.pass ≡ begun)
  FoldTriedWith values begun (Value x op) = IsFoldingWith (values ++ x ∷ []) op × (begun_with rule c op.pass ≡ begun)
  FoldTriedWith values begun (Done back answer) = IsPassWith rule c back
      × FoldsAll (record { shape = shape_of c; from = begun; to = pass_in back }) (λ all. values ≡ in_order (direction front) all) (values ≡ []) answer
      × FoldAnswers (in_order (direction front)) answer begun (pass_in back)

-- of a stack with no rule
module _ {T : Type 0} (c : Stack T) (front : Front) where
  abbrev pub IsFolding : List T → FoldOp T → Type 0
  IsFolding values op = IsFoldingWith no_rule c front values op

  abbrev pub FoldTried : List T → PassView T → FoldMade T → Type 0
  FoldTried values begun made = FoldTriedWith no_rule c front values begun made

module _ {T : Type 0} (c : Stack T) (vs : List T) where
  abbrev pub IsCopying : RangeOp T → Type 0
  IsCopying op = IsRangeOp c vs op

  abbrev pub CopyTried : PassView T → Stepped (RangeOp T) (Pass T) (Result Ranged RangeRefused) → Type 0
  CopyTried v made = RangeCame no_rule c vs v made

  abbrev pub CopyBegun : PassView T → Stepped (RangeOp T) (Pass T) (Result Ranged RangeRefused) → Type 0
  CopyBegun v made = RangeStarts no_rule c vs v made

module _ {T : Type 0} (c : Stack T) where
  -- a put of the values in places is under way, with the places as they are now: the first values have left them
  pub record IsRanging (vs : List T) (places : List (Slot T)) (op : RangeOp T) : Type 0 where
    pub put : IsRangeOp c vs op
    pub places_are : places ≡ places_from (left_at op.at.at op.at.held) vs

  abbrev pub RangeTried : List T → PassView T → List (Slot T) → Stepped (RangeOp T) (Pass T) (Result Ranged RangeRefused) → Type 0
  RangeTried vs v places made = MatchStepped made
      (λ next. IsRanging vs places next × (begun_of c next.pass ≡ v))
      (λ back answer. PutsOf no_rule c v vs places back answer)

  abbrev pub RangeBegun : PassView T → List (Slot T) → Stepped (RangeOp T) (Pass T) (Result Ranged RangeRefused) → Type 0
  RangeBegun v places made = ((vs : List T) × (places ≡ map Some vs) × RangeTried vs v places made)
      × MatchStepped made (λ next. passes.pass_in next.pass ≡ v) (λ back answer. pass_in back ≡ v)

module _ {T : Type 0} where
  abbrev pub RangeSteps : ℕ → RangeOp T → Stepped (RangeOp T) (Pass T) (Result Ranged RangeRefused) → Type 0
  RangeSteps n op made = MatchStepped made
      (λ next. gives_back next.at.at ≡ gives_back op.at.at → (more : ℕ) × (more + op.at.held.count ≡ next.at.held.count) × MadeWith n more (passes.pass_in op.pass) (passes.pass_in next.pass)
      × (more ≡ 0 → (passes.pass_in next.pass).steps ≡ (passes.pass_in op.pass).steps + n))
      (λ back answer. RangeEnds n op back answer)

  abbrev pub RangeMost : ℕ → ℕ → RangeOp T → Stepped (RangeOp T) (Pass T) (Result Ranged RangeRefused) → Type 0
  RangeMost n len op made = MatchStepped made
      (λ next. MadeAtMost n len (passes.pass_in op.pass) (passes.pass_in next.pass))
      (λ back answer. MadeAtMost n len (passes.pass_in op.pass) (pass_in back))

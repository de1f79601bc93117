-- Folds: what each state of a fold is, and which values it hands out.
use Rattle.std.specs.Prelude.{ℕ, List, map, Ok, reverse, [], Option as Slot, take, ◌≡◌, ◌<◌, ◌≤◌, ◌∷◌, ◌++◌, length, Err}
use mathlib.Core.Option.{some}
use Rattle.stack_machine.specs.declared.lines.Line.TheVariants.{TakeChain, TurnLink as TurnLinkLine}
use Rattle.treiber_stack.specs.Prelude.{Account, AnswerFold, FoldFirst, Front, Giving, IsHand, Limits, Line, LoadLinkToFold, LoadLinkToTurn}
use Rattle.treiber_stack.specs.Prelude.{LoadTopToTake, NULL, Operation, Whole, capacity_of, direction, ends, fields_of, first, full, index_of, numbers}
use Rattle.treiber_stack.specs.Prelude.{slot_values, tag_limit_of, tag_of, vacant, values_of}
use Rattle.treiber_stack.specs.declared.bulk.folding.Batch.{Batch}
use Rattle.treiber_stack.specs.declared.bulk.folding.FoldAt.{FoldAt}
use Rattle.treiber_stack.specs.declared.bulk.folding.FoldAt.TheVariants.{Load, TakeAll, LoadToTurn, TurnLink, LoadToFold, GiveBack}
use Rattle.treiber_stack.specs.code.Giving.{give_line, AreNodes}
use Rattle.treiber_stack.specs.declared.bulk.folding.Walk.{Walk}
use Rattle.treiber_stack.specs.declared.bulk.folding.FoldStop.{FoldStop}
use Rattle.treiber_stack.specs.declared.bulk.folding.FoldStop.TheVariants.{Yields, Ended, Refused}

module _ {T : Type 0} where
  -- the nodes of a batch and their values, in the order of the fold
  abbrev pub nodes_of : Batch T → List ℕ
  nodes_of b = numbers b.taken.value.me.1

  abbrev pub folded_of : Batch T → List T
  folded_of b = values_of (map some (slot_values b.taken.value.me.1))

  -- this chain is to be given back, and then the fold answers its values
  abbrev pub folding : Batch T → List ℕ → Giving T
  folding b chain = record { chain = chain; answer = AnswerFold (Ok (folded_of b, b.number)) }

  abbrev pub front_of : FoldAt T → Front
  front_of (Load front) = front
  front_of (TakeAll front w) = front
  front_of (LoadToTurn b above i) = b.front
  front_of (TurnLink b above i below) = b.front
  front_of (LoadToFold b walk) = b.front
  front_of (GiveBack b chain n at) = b.front

  abbrev pub fold_operation : FoldAt T → Operation T
  fold_operation at = FoldFirst (front_of at)

  -- the machine's line
  abbrev pub fold_line : FoldAt T → Line T
  fold_line (Load front) = LoadTopToTake (Whole (direction front))
  fold_line (TakeAll front w) = TakeChain (direction front) (fields_of w)
  fold_line (LoadToTurn b above i) = LoadLinkToTurn (folding b (reverse (nodes_of b))) above i
  fold_line (TurnLink b above i below) = TurnLinkLine (folding b (reverse (nodes_of b))) above i below
  fold_line (LoadToFold b walk) = LoadLinkToFold (folding b (nodes_of b)) walk.index
  fold_line (GiveBack b chain n at) = give_line (folding b (nodes_of b)) at

  -- the slots in hand
  abbrev pub fold_slots : FoldAt T → List (ℕ × Slot T)
  fold_slots (LoadToTurn b above i) = b.taken.value.me.1
  fold_slots (TurnLink b above i below) = b.taken.value.me.1
  fold_slots (LoadToFold b walk) = walk.held.value.me.1
  fold_slots (GiveBack b chain n at) = vacant (nodes_of b)
  fold_slots at = []

  -- the values that were handed out
  abbrev pub gone : FoldAt T → List T
  gone (LoadToFold b walk) = take walk.count (folded_of b)
  gone (GiveBack b chain n at) = folded_of b
  gone at = []

  -- a batch of nodes below n, each with a value
  pub record IsBatch (n : ℕ) (b : Batch T) : Type 0 where
    pub slots : b.taken.value.me.1 ≡ full (nodes_of b) (folded_of b)
    pub hand : IsHand n (nodes_of b) (folded_of b)

  -- the nodes above index are turned round, and these are below it
  pub record IsTurning (n : ℕ) (b : Batch T) (above index : ℕ) (others : List ℕ) : Type 0 where
    pub batch : IsBatch n b
    pub turned : List ℕ
    pub parts : reverse (nodes_of b) ≡ reverse turned ++ index ∷ others
    pub low : index < n
    pub small : above ≤ NULL

  -- the values of the nodes before index were handed out, and their slots are empty
  pub record IsWalking (n : ℕ) (b : Batch T) (walk : Walk T) : Type 0 where
    pub batch : IsBatch n b
    pub done : List ℕ
    pub others : List ℕ
    pub value : T
    pub values : List T
    pub held : walk.held.value.me.1 ≡ full (walk.index ∷ others) (value ∷ values) ++ vacant done
    pub begins : first (nodes_of b) ≡ walk.first
    pub parts : nodes_of b ≡ done ++ walk.index ∷ others
    pub order : folded_of b ≡ take walk.count (folded_of b) ++ value ∷ values
    pub counted : length done ≡ walk.count
    pub as_many : length (take walk.count (folded_of b)) ≡ walk.count
    pub low : walk.index < n

  -- what was read names a node, and the tag of the top has room to rise
  abbrev pub HasReadToFold : ℕ → ℕ → FoldAt T → Type 0
  HasReadToFold n limit (Load front) = Unit {0}
  HasReadToFold n limit (TakeAll front w) = (index_of w < n) × (tag_of w < limit)
  HasReadToFold n limit (LoadToTurn b above i) = (others : List ℕ) × IsTurning n b above i others
  HasReadToFold n limit (TurnLink b above i below) = (others : List ℕ) × IsTurning n b above i others × (below ≡ first others) × (below ≤ NULL)
  HasReadToFold n limit (LoadToFold b walk) = IsWalking n b walk
  HasReadToFold n limit (GiveBack b chain k at) = IsBatch n b × AreNodes n (nodes_of b) chain × (length (folded_of b) ≡ k)

  -- what a fold stops with: at a line where its caller takes a value, or with its answer
  abbrev pub fold_answer : Operation T → FoldStop T → Line T
  fold_answer o (Yields v at) = fold_line at
  fold_answer o (Ended b n) = ends (AnswerFold (Ok (folded_of b, b.number)))
  fold_answer o (Refused why) = ends (AnswerFold (Err why))

  abbrev pub fold_rest : FoldStop T → List (ℕ × Slot T)
  fold_rest (Yields v at) = fold_slots at
  fold_rest stop = []

  -- what holds at a stop, if these values were handed out before: one value more is handed out,
  -- these were all, or a refusal finds that there were none
  abbrev pub FoldTold : ℕ → ℕ → Front → List T → FoldStop T → Type 0
  FoldTold n limit front before (Yields v at) = HasReadToFold n limit at × (front_of at ≡ front) × (gone at ≡ before ++ v ∷ [])
  FoldTold n limit front before (Ended b k) = (before ≡ folded_of b) × (length before ≡ k)
  FoldTold n limit front before (Refused why) = before ≡ []

  -- how it is read
  abbrev pub fold_account : Limits → Account T (Line T) (Operation T) (FoldAt T) (FoldStop T)
  fold_account k = record {
    operation = fold_operation;
    line = fold_line;
    slots = fold_slots;
    knows = λ at. HasReadToFold (capacity_of k) (tag_limit_of k) at;
    answer = fold_answer;
    rest = fold_rest;
    told = λ at stop. FoldTold (capacity_of k) (tag_limit_of k) (front_of at) (gone at) stop;
  }

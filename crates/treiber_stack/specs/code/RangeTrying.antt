-- A range that is put in parts: where it is between them, and what one part of it gives, whatever its values come from.
use Rattle.std.specs.Prelude.{Bool, true, false, ◌≡◌, ℕ, Result, Ok, Err, ◌+◌, ◌≤◌, ◌*◌, ◌<◌, List, length}
use Rattle.bounded_model.specs.declared.answers.Stepped.TheVariants.{Done}
use Rattle.running.specs.Passes as passes
use Rattle.running.specs.declared.passes.Pass as runs
use Rattle.treiber_stack.specs.Prelude.{Again, Event, Line, MatchStepped, Op, Operation, PassView, RangeRefused, Ranged, Stepped}
use Rattle.treiber_stack.specs.declared.bulk.range_steps.RangeState.{RangeState}
use Rattle.treiber_stack.specs.declared.bulk.range_steps.RangeAt.{RangeAt}
use Rattle.treiber_stack.specs.declared.bulk.range_steps.RangeAt.TheVariants.{GiveBack}
use Rattle.treiber_stack.specs.declared.bulk.range_steps.Held.{Held}
use Rattle.treiber_stack.specs.Calls.{Pass, pass_in, Stack, StackWith, begun_with, IsRange}
use Rattle.treiber_stack.specs.code.Machine.{no_rule}
use Rattle.treiber_stack.specs.code.Ranging.{HasNodes, IsRangeAtWith, putting, takes, StopsSo, PutsOf, places_from}
use Rattle.treiber_stack.specs.declared.bulk.range_steps.RangeStop.{RangeStop}

abbrev pub RangeOp : Type 0 → Type 0
RangeOp T = Op T (Line T) (Operation T) RangeState

-- its values are back in their places
abbrev pub gives_back : RangeAt → Bool
gives_back (GiveBack why at) = true
gives_back at = false

-- a range that has ended at this has put the values of these nodes, if it was put
abbrev pub PutSoMany : RangeAt → ℕ → Result Ranged RangeRefused → Type 0
PutSoMany at count (Ok r) = (gives_back at ≡ false) × (r.count ≡ count)
PutSoMany at count (Err why) = Unit {0}

-- how many values a range has put that has ended at this
abbrev pub put_of : Result Ranged RangeRefused → ℕ
put_of (Ok r) = r.count
put_of (Err why) = 0

-- how many of its values have left their source: one for each node, or none once they have gone back
abbrev pub left_by : Bool → ℕ → ℕ
left_by false k = k
left_by true k = 0

abbrev pub left_at : RangeAt → Held → ℕ
left_at at held = left_by (gives_back at) held.count

module _ {T : Type 0} where
  abbrev pub left_after : Stepped (RangeOp T) (Pass T) (Result Ranged RangeRefused) → ℕ
  left_after (Again next) = left_at next.at.at next.at.held
  left_after (Done back answer) = put_of answer

  -- What a stop came to, of a range that was at this with these nodes. It has ended, or it continues: with one node more after one step at
  -- most, or on its way back with the same nodes, after one step at most for each value that it has put back
  abbrev pub StoppedAt : RangeAt → ℕ → runs.Pass T (Line T) → Stepped (RangeOp T) (Pass T) (Result Ranged RangeRefused) → Type 0
  StoppedAt at count p made = MatchStepped made
      (λ next. (gives_back at ≡ false) × (gives_back next.at.at ≡ false → (next.at.held.count ≡ count + 1) × ((passes.pass_in next.pass).steps ≤ (passes.pass_in p).steps + 1))
      × (gives_back next.at.at ≡ true → (next.at.held.count ≡ count) × ((passes.pass_in next.pass).steps ≤ (passes.pass_in p).steps + count)))
      (λ back answer. (back.pass ≡ p) × PutSoMany at count answer)

  -- The steps of a part that took `more` nodes: n to take each and one to link it, and n after the last
  abbrev pub MadeWith : ℕ → ℕ → PassView T → PassView T → Type 0
  MadeWith n more v w = w.steps ≤ v.steps + (more * (n + 1) + n)

  -- n steps were allowed for each node, n for the top and n for the way back. MadeWith bounds the steps of a range that continues, unless
  -- it is newly on its way back. Such a range has made exactly n if it has no node more. MadeWith also bounds the steps of a range that was
  -- put, or was on its way back before
  abbrev pub RangeEnds : ℕ → RangeOp T → Pass T → Result Ranged RangeRefused → Type 0
  RangeEnds n op back (Ok r) = (more : ℕ) × (more + op.at.held.count ≡ r.count) × MadeWith n more (passes.pass_in op.pass) (pass_in back)
  RangeEnds n op back (Err why) = gives_back op.at.at ≡ true → MadeWith n 0 (passes.pass_in op.pass) (pass_in back)

  -- The most steps of a part of a range of so many values, whatever it comes to: n to take each node, one to link it and one to read that link
  -- again, n for the top and n for the way back
  abbrev pub MadeAtMost : ℕ → ℕ → PassView T → PassView T → Type 0
  MadeAtMost n len v w = w.steps ≤ v.steps + (len * (n + 2) + 2 * n)

module _ {T : Type 0} (rule : List (Event T) → Type 0) {D : Type 0} (c : StackWith T D) (o : Operation T) where
  -- a range of these values is at this; if it takes a node, there is a value for it
  pub record IsRangeOf (p : runs.Pass T (Line T)) (vs : List T) (held : Held) (at : RangeAt) : Type 0 where
    pub chain : List ℕ
    pub has : HasNodes c vs chain held
    pub is : IsRangeAtWith rule c o p (putting vs chain) held at
    pub wants : takes at ≡ true → held.count < length vs

  -- it was at this, begun as the pass was v, and has stopped
  pub record HasStopped (v : PassView T) (p : runs.Pass T (Line T)) (vs : List T) (held : Held) (at : RangeAt) (stop : RangeStop) : Type 0 where
    pub chain : List ℕ
    pub has : HasNodes c vs chain held
    pub wants : takes at ≡ true → held.count < length vs
    pub stops : StopsSo rule c o v p (putting vs chain) held at stop

  -- some steps led it on
  abbrev pub RanOn : runs.Pass T (Line T) → List T → Held → RangeAt → runs.Pass T (Line T) → RangeAt → Type 0
  RanOn p vs held at q at' = IsRangeOf q vs held at' × (begun_with rule c q ≡ begun_with rule c p) × (gives_back at' ≡ gives_back at)

module _ {T : Type 0} (rule : List (Event T) → Type 0) {D : Type 0} (c : StackWith T D) where
  -- a put of these values is under way
  pub record IsRangeOpWith (vs : List T) (op : RangeOp T) : Type 0 where
    pub of : IsRange op.operation vs
    pub at : IsRangeOf rule c op.operation op.pass vs op.at.held op.at.at

  -- begun as the pass was v, it is under way, or gave what the whole put gives
  abbrev pub RangeCame : List T → PassView T → Stepped (RangeOp T) (Pass T) (Result Ranged RangeRefused) → Type 0
  RangeCame vs v made = MatchStepped made
      (λ next. IsRangeOpWith vs next × (begun_with rule c next.pass ≡ v))
      (λ back answer. PutsOf rule c v vs (places_from (put_of answer) vs) back answer)

  -- it was begun, and has made no step
  abbrev pub RangeStarts : List T → PassView T → Stepped (RangeOp T) (Pass T) (Result Ranged RangeRefused) → Type 0
  RangeStarts vs v made = RangeCame vs v made × (left_after made ≡ 0) × MatchStepped made (λ next. passes.pass_in next.pass ≡ v) (λ back answer. pass_in back ≡ v)

-- of a stack with no rule
abbrev pub IsRangeOp : {T : Type 0} → Stack T → List T → RangeOp T → Type 0
IsRangeOp c vs op = IsRangeOpWith no_rule c vs op

-- Puts of a range: what each state of one is, what it stops with, and where a pass stands between its stops.
use Rattle.std.specs.Prelude.{ℕ, [], Bool, true, false, ◌≡◌, ◌<◌, List, reverse, Option as Slot, Err, ◌≤◌, length, Ok, ◌==◌, if◌then◌else◌, ◌∷◌, None, ◌+◌, ◌++◌, map, drop, replicate, Some, zero, suc, Result, take}
use Rattle.bounded_model.specs.Justified.{Justified}
use Rattle.bounded_model.specs.Justified as right
use Rattle.stack_machine.specs.Machine.{placed}
use Rattle.running.specs.declared.passes.Pass as runs
use Rattle.running.specs.Passes as passes
use Rattle.treiber_stack.specs.Prelude.{Account, Adds, AnswerPut, BacksOut, Closed, Ended, Event, FreeWord, Full, Giving, Limits, Line, LinkTaken}
use Rattle.treiber_stack.specs.Prelude.{LinkToTop, LoadFreeLine, LoadFreeLink, LoadFreeToGive, LoadTop, LoadTopToRefuse, NULL, Nothing, Operation}
use Rattle.treiber_stack.specs.Prelude.{PassView, PutFull, PutSpent, PutsRange, Putting, RangeAnswers, RangeRefused, Ranged, Shape, Spent, SwapTop}
use Rattle.treiber_stack.specs.Prelude.{TakeFree, View, capacity_of, ends, fields_of, first, full, index_of, is_idle, last, line_in, names, next_node}
use Rattle.treiber_stack.specs.Prelude.{tag_limit_of, tag_of, times, unplaced, vacant, with_node}
use Rattle.treiber_stack.specs.declared.bulk.range_steps.RangeAt.{RangeAt}
use Rattle.treiber_stack.specs.declared.bulk.range_steps.RangeAt.TheVariants.{LoadFree, Link, Hold, GiveBack, Load, LinkTo, Exchange, Refuse}
use Rattle.treiber_stack.specs.declared.bulk.range_steps.RangeEnd.{RangeEnd}
use Rattle.treiber_stack.specs.declared.bulk.range_steps.RangeEnd.TheVariants.{Put, Barred as IsBarred, GaveBack, Full as IsFull, Refused, Spent as IsSpent}
use Rattle.treiber_stack.specs.declared.bulk.range_steps.RangeStop.{RangeStop}
use Rattle.treiber_stack.specs.declared.bulk.range_steps.RangeStop.TheVariants.{Took, Over}
use Rattle.treiber_stack.specs.declared.code.refusing.Barred.{Barred}
use Rattle.treiber_stack.specs.code.Refusing.{barring}
use Rattle.treiber_stack.specs.declared.bulk.range_steps.Held.{Held}
use Rattle.treiber_stack.specs.Calls.{Stack, StackWith, room_of, limit_of, begun_with, machine_with, WasRangeWith, Pass, shape_of, pass_in, IsPassWith}
use Rattle.treiber_stack.specs.code.Giving.{give_line, AreNodes}
use Rattle.treiber_stack.specs.declared.bulk.range_steps.Range.{Range}
use Rattle.treiber_stack.specs.code.Begun.{put_begun}
use Rattle.treiber_stack.specs.declared.bulk.range_steps.RangeStopped.{RangeStopped}
use Rattle.treiber_stack.specs.code.Steps.{IsAtWith, IsSeatWith, IsGiving}
use Rattle.treiber_stack.specs.code.Machine.{no_rule}
use Rattle.treiber_stack.specs.declared.code.giving.Give.TheVariants.{Load as LoadToGive}

-- why a range that is not empty was refused, and what the pass has done
abbrev pub NotPut : {T : Type 0} → Shape → PassView T → ℕ → PassView T → RangeRefused → Type 0
NotPut c v most w Nothing = ⊥
NotPut c v most w Full = Adds v w [] × Justified c v w right.PutFull
NotPut c v most w Closed = BacksOut v w most × Justified c v w right.PutClosed
NotPut c v most w (Spent word t) = BacksOut v w most × Justified c v w (right.PutSpent word t)

-- a range still takes nodes
abbrev pub takes : RangeAt → Bool
takes LoadFree = true
takes (Link w) = true
takes (Hold w k) = true
takes at = false

-- What holds at the end of a range, and at each stop, by the range's line before and by how many
-- nodes it held
abbrev pub ToldEnd : ℕ → RangeEnd → Type 0
ToldEnd k (Put number) = 0 < k
ToldEnd k (IsBarred why) = 0 < k
ToldEnd k (GaveBack why) = ⊥
ToldEnd k end = k ≡ 0

abbrev pub ToldStop : ℕ → Bool → ℕ → RangeStop → Type 0
ToldStop n more k (Took i) = (more ≡ true) × (i < n)
ToldStop n more k (Over end) = ToldEnd k end

abbrev pub Told : ℕ → ℕ → RangeAt → RangeStop → Type 0
Told n k (GiveBack why at) stop = stop ≡ Over (GaveBack why)
Told n k at stop = ToldStop n (takes at) k stop

module _ {T : Type 0} where
  -- the slots of the nodes in hand, with the first values: the last of them is in front
  abbrev pub loaded : Putting T → List (ℕ × Slot T)
  loaded put = full put.chain (reverse (placed put))

  -- the nodes of a put that is refused for its top, and then the answer
  abbrev pub refused : Putting T → Barred → Giving T
  refused put why = record { chain = put.chain; answer = AnswerPut (Err (barring why put.values)) }

  -- nodes are in hand for the first values, and hold them
  pub record HasNodesBelow (n : ℕ) (vs : List T) (chain : List ℕ) (held : Held) : Type 0 where
    pub counted : length chain ≡ held.count
    pub few : held.count ≤ length vs
    pub low : (i : ℕ) → 0 < times i chain → i < n
    pub begins : first chain ≡ held.chain.first
    pub ends : last chain ≡ held.chain.last

  abbrev pub HasNodes : {D : Type 0} → StackWith T D → List T → List ℕ → Held → Type 0
  HasNodes c vs chain held = HasNodesBelow (room_of c) vs chain held

  -- the machine's line of a state, its slots in hand, and what is known of what it has read and holds
  abbrev pub range_line : Putting T → RangeAt → Line T
  range_line put LoadFree = LoadFreeLine put
  range_line put (Link w) = LoadFreeLink put (fields_of w)
  range_line put (Hold w k) = TakeFree put (fields_of w) k
  range_line put Load = LoadTop put
  range_line put (LinkTo w) = LinkToTop put (fields_of w)
  range_line put (Exchange w) = SwapTop put (fields_of w)
  range_line put Refuse = LoadTopToRefuse put.values
  range_line put (GiveBack why at) = give_line (refused put why) at

  abbrev pub range_slots : Putting T → RangeAt → List (ℕ × Slot T)
  range_slots put Refuse = []
  range_slots put (GiveBack why at) = vacant put.chain
  range_slots put at = loaded put

  abbrev pub HasReadFor : ℕ → ℕ → Putting T → Held → RangeAt → Type 0
  HasReadFor n limit put held LoadFree = HasNodesBelow n put.values put.chain held
  HasReadFor n limit put held (Link w) = HasNodesBelow n put.values put.chain held × (index_of w < n) × (tag_of w < limit)
  HasReadFor n limit put held (Hold w k) = HasNodesBelow n put.values put.chain held × (index_of w < n) × (tag_of w < limit) × (k ≤ NULL)
  HasReadFor n limit put held Load = (0 < held.count) × AreNodes n put.chain held.chain
  HasReadFor n limit put held (LinkTo w) = (0 < held.count) × AreNodes n put.chain held.chain × (tag_of w < limit)
  HasReadFor n limit put held (Exchange w) = (0 < held.count) × AreNodes n put.chain held.chain × (tag_of w < limit)
  HasReadFor n limit put held Refuse = held.count ≡ 0
  HasReadFor n limit put held (GiveBack why at) = AreNodes n put.chain held.chain

  abbrev pub HasRead : {D : Type 0} → StackWith T D → Putting T → Held → RangeAt → Type 0
  HasRead c put held at = HasReadFor (room_of c) (limit_of c) put held at

  -- and where it stops
  abbrev pub end_line : Putting T → RangeEnd → Line T
  end_line put (Put number) = ends (AnswerPut (Ok (number, unplaced put)))
  end_line put IsFull = ends (AnswerPut (Err (PutFull put.values)))
  end_line put (Refused why) = ends (AnswerPut (Err (barring why put.values)))
  end_line put (IsSpent t) = ends (AnswerPut (Err (PutSpent put.values FreeWord t)))
  end_line put (IsBarred why) = LoadFreeToGive (refused put why)
  end_line put (GaveBack why) = ends (AnswerPut (Err (barring why put.values)))

  abbrev pub range_stop : Putting T → RangeStop → Line T
  range_stop put (Took i) = if length put.chain == 0 then next_node (with_node put i) else LinkTaken (with_node put i)
  range_stop put (Over end) = end_line put end

  abbrev pub range_hand : Putting T → RangeStop → List (ℕ × Slot T)
  range_hand put (Took i) = (i, None) ∷ loaded put
  range_hand put (Over end) = loaded put

  -- the same of a range under way, whose put is the one that its steps were begun with
  abbrev pub at_operation : Range T → Operation T
  at_operation s = s.begun.operation.value

  abbrev pub at_line : Range T → Line T
  at_line s = range_line (put_begun s.begun) s.at

  abbrev pub at_slots : Range T → List (ℕ × Slot T)
  at_slots s = range_slots (put_begun s.begun) s.at

  abbrev pub stop_line : RangeStopped T → Line T
  stop_line r = range_stop (put_begun r.begun) r.stop

  abbrev pub stop_hand : RangeStopped T → List (ℕ × Slot T)
  stop_hand r = range_hand (put_begun r.begun) r.stop

  abbrev pub StopTold : {D : Type 0} → StackWith T D → Range T → RangeStopped T → Type 0
  StopTold c s r = (r.begun ≡ s.begun) × Told (room_of c) s.held.count s.at r.stop

  -- how it is read
  abbrev pub range_account : Limits → Account T (Line T) (Operation T) (Range T) (RangeStopped T)
  range_account k = record {
    operation = at_operation;
    line = at_line;
    slots = at_slots;
    knows = λ s. HasReadFor (capacity_of k) (tag_limit_of k) (put_begun s.begun) s.held s.at;
    answer = λ o r. stop_line r;
    rest = stop_hand;
    told = λ s r. (r.begun ≡ s.begun) × Told (capacity_of k) s.held.count s.at r.stop;
  }

  -- a range is at this
  pub record IsRangeAtWith (rule : List (Event T) → Type 0) {D : Type 0} (c : StackWith T D) (o : Operation T) (p : runs.Pass T (Line T)) (put : Putting T) (held : Held) (at : RangeAt) : Type 0 where
    pub line : IsAtWith rule c o p (range_line put at) (range_slots put at)
    pub read : HasRead c put held at

  -- in a stack with no rule
  abbrev pub IsRangeAt : Stack T → Operation T → runs.Pass T (Line T) → Putting T → Held → RangeAt → Type 0
  IsRangeAt c o p put held at = IsRangeAtWith no_rule c o p put held at

  -- a node was taken; it is linked to the one before it, if there is one
  abbrev pub linking : List ℕ → Putting T → Line T
  linking [] put = next_node put
  linking (j ∷ js) put = LinkTaken put

  pub record TakesNode (rule : List (Event T) → Type 0) {D : Type 0} (c : StackWith T D) (o : Operation T) (begun : PassView T) (put : Putting T) (q : runs.Pass T (Line T)) (i : ℕ) : Type 0 where
    pub at : IsAtWith rule c o q (linking put.chain (with_node put i)) ((i, None) ∷ loaded put)
    pub low : i < room_of c
    pub begun_is : begun_with rule c q ≡ begun

  -- it has stopped at this line, by whether its machine has answered
  abbrev pub Stopped : (List (Event T) → Type 0) → {D : Type 0} → StackWith T D → Operation T → PassView T → runs.Pass T (Line T) → Line T → List (ℕ × Slot T) → Bool → Type 0
  Stopped rule c o begun q l rest true = IsSeatWith rule c q × Ended (machine_with rule c) o q.seat.me.0 begun l
  Stopped rule c o begun q l rest false = IsAtWith rule c o q l rest × (begun_with rule c q ≡ begun)

  abbrev pub StopsSo : (List (Event T) → Type 0) → {D : Type 0} → StackWith T D → Operation T → PassView T → runs.Pass T (Line T) → Putting T → Held → RangeAt → RangeStop → Type 0
  StopsSo rule c o begun q put held at stop = Told (room_of c) held.count at stop × Stopped rule c o begun q (range_stop put stop) (range_hand put stop) (is_idle (range_stop put stop))

  abbrev pub EndsSo : (List (Event T) → Type 0) → {D : Type 0} → StackWith T D → Operation T → PassView T → runs.Pass T (Line T) → Putting T → Held → RangeEnd → Type 0
  EndsSo rule c o begun q put held end = ToldEnd held.count end × Stopped rule c o begun q (end_line put end) (loaded put) (is_idle (end_line put end))

  -- the places once the first k values have left
  abbrev pub places_from : ℕ → List T → List (Slot T)
  places_from k vs = replicate k None ++ map Some (drop k vs)

  -- the value after the first k
  abbrev pub value_at : List T → ℕ → Slot T
  value_at [] k = None
  value_at (v ∷ vs) zero = Some v
  value_at (v ∷ vs) (suc k) = value_at vs k

  -- which is this one
  abbrev pub IsNext : List T → ℕ → T → Type 0
  IsNext vs k x = (k < length vs) × (value_at vs k ≡ Some x)

  abbrev pub putting : List T → List ℕ → Putting T
  putting vs chain = record { values = vs; chain = chain }

  -- the put continues with the next value, or with the top
  pub record IsFilling (rule : List (Event T) → Type 0) {D : Type 0} (c : StackWith T D) (o : Operation T) (p : runs.Pass T (Line T)) (vs : List T) (held : Held) : Type 0 where
    pub chain : List ℕ
    pub has : HasNodes c vs chain held
    pub at : IsAtWith rule c o p (next_node (putting vs chain)) (loaded (putting vs chain))

  -- a node was taken for the next value
  pub record HasTaken (rule : List (Event T) → Type 0) {D : Type 0} (c : StackWith T D) (o : Operation T) (p : runs.Pass T (Line T)) (vs : List T) (held : Held) (i : ℕ) : Type 0 where
    pub chain : List ℕ
    pub has : HasNodes c vs chain held
    pub takes : TakesNode rule c o (begun_with rule c p) (putting vs chain) p i

  -- it has the value; the link to the node before it is a step
  abbrev pub FillsOne : (List (Event T) → Type 0) → {D : Type 0} → StackWith T D → Operation T → runs.Pass T (Line T) → List T → Held → runs.Pass T (Line T) → Held → Type 0
  FillsOne rule c o p vs held q more = IsFilling rule c o q vs more × (more.count ≡ held.count + 1) × (begun_with rule c q ≡ begun_with rule c p) × ((passes.pass_in q).steps ≤ (passes.pass_in p).steps + 1)

  -- a range is over, with nodes for the first values
  pub record IsOver (rule : List (Event T) → Type 0) {D : Type 0} (c : StackWith T D) (o : Operation T) (v : PassView T) (p : runs.Pass T (Line T)) (vs : List T) (held : Held) (end : RangeEnd) : Type 0 where
    pub chain : List ℕ
    pub has : HasNodes c vs chain held
    pub ends : EndsSo rule c o v p (putting vs chain) held end

  -- a range of these values, begun as the pass was v, has ended
  abbrev pub PutsOf : (List (Event T) → Type 0) → {D : Type 0} → StackWith T D → PassView T → List T → List (Slot T) → Pass T → Result Ranged RangeRefused → Type 0
  PutsOf rule c v vs places q r = IsPassWith rule c q × PutsRange (record { shape = shape_of c; from = v; to = pass_in q }) (map Some vs) places r × RangeAnswers vs r v (pass_in q) × WasRangeWith rule c v vs r q

  -- a refused range whose values are still in the slots
  pub record IsRefused (rule : List (Event T) → Type 0) {D : Type 0} (c : StackWith T D) (o : Operation T) (p : runs.Pass T (Line T)) (vs : List T) (held : Held) (why : Barred) : Type 0 where
    pub chain : List ℕ
    pub has : HasNodes c vs chain held
    pub some_node : 0 < held.count
    pub at : IsAtWith rule c o p (LoadFreeToGive (refused (putting vs chain) why)) (loaded (putting vs chain))

  -- the values of a refused range come out of its nodes, the last first
  pub record IsRestoring (rule : List (Event T) → Type 0) {D : Type 0} (c : StackWith T D) (o : Operation T) (p : runs.Pass T (Line T)) (vs : List T) (held : Held) (why : Barred) (moved index : ℕ) : Type 0 where
    pub chain : List ℕ
    pub has : HasNodes c vs chain held
    pub done : List ℕ
    pub left : List ℕ
    pub parts : chain ≡ done ++ left
    pub counted : length done ≡ moved
    pub next : 0 < length left → first left ≡ index
    pub at : IsAtWith rule c o p (LoadFreeToGive (refused (putting vs chain) why)) (full left (reverse (take (length left) vs)) ++ vacant done)

  -- they are all out, and the emptied nodes are to be given back
  pub record Restores (rule : List (Event T) → Type 0) {D : Type 0} (c : StackWith T D) (o : Operation T) (p : runs.Pass T (Line T)) (vs : List T) (held : Held) (why : Barred) (q : runs.Pass T (Line T)) : Type 0 where
    pub chain : List ℕ
    pub has : HasNodes c vs chain held
    pub back : IsGiving rule c o q (refused (putting vs chain) why) held.chain LoadToGive
    pub begun : begun_with rule c q ≡ begun_with rule c p

  -- a link of the chain that is given back next was read
  abbrev pub ReadsAgain : View T (Line T) → ℕ → ℕ → Type 0
  ReadsAgain v i found = (giving : Giving T) (before others : List ℕ) (next : ℕ) → line_in names v ≡ LoadFreeToGive giving → giving.chain ≡ before ++ i ∷ next ∷ others → found ≡ next

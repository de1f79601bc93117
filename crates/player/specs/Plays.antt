-- A played script: each line's answer is that of the call that the line names, under the container's own laws.
use Rattle.std.specs.Prelude.{◌≡◌, ◌≢◌, ℕ, IsTrue, ◌+◌, ◌-◌, ◌≤◌, Bool, true, false, List, [], ◌∷◌, map, replicate, reverse, Option, Some, Result, Ok, Err, slice_set, slice_index_or}
use Rattle.std.specs.Char.{is_ascii_lowercase}
use Rattle.std.specs.Io.Iter.{u64_saturate}
use Rattle.bounded_model.specs.declared.answers.TakeRefused.{TakeRefused}
use Rattle.bounded_model.specs.declared.bulk.Ranged.{Ranged}
use Rattle.bounded_model.specs.declared.bulk.RangeRefused.{RangeRefused}
use Rattle.bounded_model.specs.declared.bulk.RangeRefused.TheVariants as refused
use Rattle.bounded_model.specs.declared.commands.Command.{Command}
use Rattle.bounded_model.specs.declared.history.Order.{Order}
use Rattle.bounded_model.specs.declared.history.Order.TheVariants.{Lifo}
use Rattle.bounded_model.specs.declared.views.PassView.{PassView}
use Rattle.bounded_model.specs.declared.views.RootView.{RootView}
use Rattle.bounded_model.specs.Bulk.{PutsRange}
use Rattle.bounded_model.specs.Calls.{CallGives}
use Rattle.bounded_model.specs.Histories.{Later}
use Rattle.bounded_model.specs.Laws.{FoldGives, TakesNothing, MeetGives, Splits, Joins, Leaves, IsFullOfPasses}
use Rattle.bounded_model.specs.Machine.{Shape}
use Rattle.bounded_model.specs.Stepping.{Underway, no_step}
use Rattle.script.specs.Words.{values_in}
use Rattle.script.specs.declared.answer.Answer.{Answer}
use Rattle.script.specs.declared.answer.Answer.TheVariants as answer
use Rattle.script.specs.declared.answer.RangeReply.{RangeReply}
use Rattle.script.specs.declared.answer.RangeReply.TheVariants as range
use Rattle.script.specs.declared.line.Act.{Act}
use Rattle.script.specs.declared.line.Act.TheVariants.{Call, Begin, Step, Range, Fold, ReversedFold, Meet, Drop}
use Rattle.script.specs.declared.line.Line.{Line}
use Rattle.script.specs.declared.line.PassName.{PassName}
use Rattle.script.specs.declared.line.Line.TheVariants.{By, Finish}

-- what a letter means: nobody, a pass between its calls, or a call under way
pub data Meaning : Type 0 where
  Nobody : Meaning
  Resting : PassView (List ℕ) → Meaning
  Acting : Command (List ℕ) → Underway (List ℕ) → Meaning

-- the container's root, and what the letters from a to z name
pub record World : Type 0 where
  pub root : RootView (List ℕ)
  pub names : List Meaning

abbrev pub start : RootView (List ℕ) → World
start r = record { root = r; names = replicate 26 Nobody }

-- ---- one call

-- what a range's answer is called in a script
abbrev pub range_reply : Result Ranged RangeRefused → RangeReply
range_reply (Ok ranged) = range.Put ranged.number ranged.count
range_reply (Err refused.Nothing) = range.Nothing
range_reply (Err refused.Full) = range.Full
range_reply (Err refused.Closed) = range.Closed
range_reply (Err (refused.Spent word tag)) = range.Spent word tag

-- a range of these values: the call's own answer, and the values that are still in their places
pub record RangeTold (c : Shape) (v w : PassView (List ℕ)) (values : List (List ℕ)) (said : RangeReply) (kept : List (List ℕ)) : Type 0 where
  pub gave : Result Ranged RangeRefused
  pub places : List (Option (List ℕ))
  pub range : PutsRange (record { shape = c; from = v; to = w }) (map Some values) places gave
  pub reply : said ≡ range_reply gave
  pub values_kept : kept ≡ values_in places

-- the values that a fold took, as it tells them: from the top down, or the other way round
abbrev pub in_direction : Bool → List (List ℕ) → List (List ℕ)
in_direction false values = values
in_direction true values = reverse values

-- a fold: it took all values at once, and told each of them, in its direction
abbrev pub FoldTold : Shape → Bool → PassView (List ℕ) → PassView (List ℕ) → Result (ℕ × List (List ℕ)) TakeRefused → Type 0
FoldTold c reversed v w (Ok (number, told)) = (values : List (List ℕ)) × FoldGives v w values number × (told ≡ in_direction reversed values)
FoldTold c reversed v w (Err why) = TakesNothing c v w why

-- ---- single steps

-- how many steps a pass has made since then; no script has room for more than a `u64` counts
abbrev pub steps_since : PassView (List ℕ) → PassView (List ℕ) → ℕ
steps_since v w = u64_saturate (w.steps - v.steps)

-- a pass has made this many steps more
pub record MakesSteps (count : ℕ) (v w : PassView (List ℕ)) : Type 0 where
  pub number : w.number ≡ v.number
  pub steps : w.steps ≡ v.steps + count
  pub seen : Later v.seen w.seen

-- some of these steps were made
pub record MakesUpTo (count : ℕ) (v w : PassView (List ℕ)) : Type 0 where
  pub made : ℕ
  pub some : 1 ≤ made
  pub at_most : made ≤ count
  pub makes : MakesSteps made v w

-- steps of a call under way: all that the line names if it is still under way; if it ends, the call's law from its
-- begin
abbrev pub StepsTold : Shape → Command (List ℕ) → Underway (List ℕ) → ℕ → Answer → Meaning → Type 0
StepsTold c call u count (answer.Again told) (Acting same w) = (same ≡ call) × (w.begun ≡ u.begun) × MakesSteps count u.now w.now × (told ≡ steps_since w.begun w.now)
StepsTold c call u count (answer.Ended said told) (Resting w) = MakesUpTo count u.now w × CallGives c u.begun call w said × (told ≡ steps_since u.begun w)
StepsTold c call u count said after = ⊥

-- ---- one line of one pass

-- ranges and folds are a stack's
abbrev pub IsFor : Order → Act → Type 0
IsFor order (Range values) = order ≡ Lifo
IsFor order Fold = order ≡ Lifo
IsFor order ReversedFold = order ≡ Lifo
IsFor order act = Unit {0}

-- what a line needs: small letters, another pass to meet, and a stack for ranges and folds
pub record IsFit (order : Order) (letter : ℕ) (act : Act) : Type 0 where
  pub small : IsTrue (is_ascii_lowercase letter)
  pub another : (other : PassName) → act ≡ Meet other → IsTrue (is_ascii_lowercase other.0) × (letter ≢ other.0)
  pub fits : IsFor order act

-- a line of a pass between its calls
abbrev pub RestingTold : Shape → PassView (List ℕ) → Act → Answer → Meaning → Type 0
RestingTold c v (Call call) (answer.Call said) (Resting w) = CallGives c v call w said
RestingTold c v (Begin call) answer.Begun (Acting begun u) = (begun ≡ call) × (u ≡ no_step v)
RestingTold c v (Step count) answer.NothingBegun (Resting w) = w ≡ v
RestingTold c v (Range values) (answer.Range said kept) (Resting w) = RangeTold c v w values said kept
RestingTold c v Fold (answer.Fold said) (Resting w) = FoldTold c false v w said
RestingTold c v ReversedFold (answer.ReversedFold said) (Resting w) = FoldTold c true v w said
RestingTold c v Drop answer.NothingBegun (Resting w) = w ≡ v
RestingTold c v act said after = ⊥

-- a line of a pass in the middle of a call
abbrev pub ActingTold : Shape → Command (List ℕ) → Underway (List ℕ) → Act → Answer → Meaning → Type 0
ActingTold c call u (Step count) said after = StepsTold c call u count said after
ActingTold c call u Drop said after = (said ≡ answer.Dropped) × (after ≡ Nobody)
ActingTold c call u act said after = (said ≡ answer.Busy) × (after ≡ Acting call u)

-- a line of what a letter names, which is nobody only if no pass could be had
abbrev pub Told : Shape → Meaning → Act → Answer → Meaning → Type 0
Told c Nobody act said after = (said ≡ answer.NoPass) × (after ≡ Nobody)
Told c (Resting v) act said after = RestingTold c v act said after
Told c (Acting call u) act said after = ActingTold c call u act said after

-- ---- one line

-- a letter that names nobody gets a pass, split off the root, if one can be had
abbrev pub Finds : Shape → RootView (List ℕ) → Meaning → RootView (List ℕ) → Meaning → Type 0
Finds c r Nobody s Nobody = IsFullOfPasses c r × (s ≡ r)
Finds c r Nobody s (Resting v) = Splits c r s v
Finds c r Nobody s (Acting call u) = ⊥
Finds c r (Resting v) s found = (found ≡ Resting v) × (s ≡ r)
Finds c r (Acting call u) s found = (found ≡ Acting call u) × (s ≡ r)

abbrev pub named : World → ℕ → Meaning
named world letter = slice_index_or world.names (letter - 97) Nobody

abbrev pub renamed : List Meaning → ℕ → Meaning → List Meaning
renamed names letter after = slice_set names (letter - 97) after

-- a line of one pass
pub record Does (c : Shape) (old : World) (letter : ℕ) (act : Act) (said : Answer) (new : World) : Type 0 where
  pub found : Meaning
  pub after : Meaning
  pub finds : Finds c old.root (named old letter) new.root found
  pub told : Told c found act said after
  pub names : new.names ≡ renamed old.names letter after

-- two passes meet, if both are there and between their calls
abbrev pub MeetTold : Meaning → Meaning → Answer → Meaning → Type 0
MeetTold Nobody other said after = (said ≡ answer.NoPass) × (after ≡ Nobody)
MeetTold first Nobody said after = (said ≡ answer.NoPass) × (after ≡ first)
MeetTold (Resting v) (Resting u) answer.Met (Resting w) = MeetGives v u w true
MeetTold (Resting v) (Resting u) answer.NoPass (Resting w) = MeetGives v u w false
MeetTold (Resting v) (Resting u) said after = ⊥
MeetTold first other said after = (said ≡ answer.Busy) × (after ≡ first)

-- the other letter is looked for only if the first has a pass
abbrev pub FindsOther : Shape → Meaning → RootView (List ℕ) → Meaning → RootView (List ℕ) → Meaning → Type 0
FindsOther c Nobody r other s found = (found ≡ other) × (s ≡ r)
FindsOther c (Resting v) r other s found = Finds c r other s found
FindsOther c (Acting call u) r other s found = Finds c r other s found

pub record DoesMeet (c : Shape) (old : World) (letter other : ℕ) (said : Answer) (new : World) : Type 0 where
  pub between : RootView (List ℕ)
  pub first : Meaning
  pub second : Meaning
  pub after : Meaning
  pub finds : Finds c old.root (named old letter) between first
  pub finds_other : FindsOther c first between (named old other) new.root second
  pub told : MeetTold first second said after
  pub names : new.names ≡ renamed (renamed old.names letter after) other second

abbrev pub Acts : Shape → World → ℕ → Act → Answer → World → Type 0
Acts c old letter (Meet other) said new = DoesMeet c old letter other.0 said new
Acts c old letter act said new = Does c old letter act said new

-- ---- the end

-- a pass between its calls is joined
abbrev pub JoinsOne : RootView (List ℕ) → Meaning → RootView (List ℕ) → Type 0
JoinsOne r Nobody s = s ≡ r
JoinsOne r (Resting v) s = Joins r v s
JoinsOne r (Acting call u) s = s ≡ r

-- in the order of the letters
abbrev pub JoinsAll : RootView (List ℕ) → List Meaning → RootView (List ℕ) → Type 0
JoinsAll r [] s = s ≡ r
JoinsAll r (name ∷ names) s = (joined : RootView (List ℕ)) × JoinsOne r name joined × JoinsAll joined names s

pub record Ends (c : Shape) (world : World) (values : List (List ℕ)) : Type 0 where
  pub root : RootView (List ℕ)
  pub joined : JoinsAll world.root world.names root
  pub leaves : Leaves c root values

-- ---- all lines

-- one answer for each line, `finish` last or not at all
abbrev pub Plays : Shape → World → List Line → List Answer → Type 0
Plays c world [] [] = Unit {0}
Plays c world (Finish ∷ []) (answer.Rest values ∷ []) = Ends c world values
Plays c world (By name act ∷ lines) (said ∷ more) = (next : World) × Acts c world name.0 act said next × Plays c next lines more
Plays c world lines said = ⊥

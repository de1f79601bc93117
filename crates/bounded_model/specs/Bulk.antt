-- A call that puts or takes many values by one exchange.
use Rattle.std.specs.Prelude.{◌≡◌, ◌⊎◌, ℕ, ◌<◌, ◌≤◌, ◌++◌, List, [], ◌∷◌, length, take, drop, replicate, Option as Slot, Some, None, Result, Ok, Err}
use Rattle.bounded_model.specs.declared.answers.PutRefused.TheVariants.{Full as FullOf, Closed as ClosedTo, Spent as SpentFor}
use Rattle.bounded_model.specs.declared.answers.TakeRefused.{TakeRefused}
use Rattle.bounded_model.specs.declared.bulk.Ranged.{Ranged}
use Rattle.bounded_model.specs.declared.bulk.RangeRefused.{RangeRefused}
use Rattle.bounded_model.specs.declared.bulk.RangeRefused.TheVariants.{Nothing, Full, Closed, Spent}
use Rattle.bounded_model.specs.declared.bulk.Folded.{Folded}
use Rattle.bounded_model.specs.declared.history.Event.{Event}
use Rattle.bounded_model.specs.declared.views.Answered.TheVariants.{Fold as FoldAnswered, Put as PutAnswered}
use Rattle.bounded_model.specs.declared.views.PassView.{PassView}
use Rattle.bounded_model.specs.Machine.{Shape, state}
use Rattle.bounded_model.specs.Justified.{Sometime, Justified, IsFull, PutFull, PutClosed, PutSpent}
use Rattle.bounded_model.specs.Laws.{Call, Adds, Answers, BacksOut, TakesNothing, RangeGives, FoldGives}

-- Puts of a range

-- the values in the places of a range
abbrev pub somes : {T : Type 0} → List (Slot T) → List T
somes [] = []
somes (None ∷ places) = somes places
somes (Some v ∷ places) = v ∷ somes places

-- no cell can be had: each holds a value or is in a hand, or none can be taken any more
abbrev pub HasNoCell : {T : Type 0} → Shape → List (Event T) → Type 0
HasNoCell c h = IsFull c h ⊎ ((state c h).holds ≡ c.limit)

-- a range was put from the front: these values went in at once, and their places are empty. Values
-- stayed only if no cell could be had for the next
pub record PutsFront {T : Type 0} (call : Call T) (old new : List (Slot T)) (r : Ranged) : Type 0 where
  pub some_value : 0 < r.count
  pub at_most : r.count ≤ length old
  pub gives : RangeGives call.from (somes (take r.count old)) call.to r.number
  pub places : new ≡ replicate r.count None ++ drop r.count old
  pub all : (r.count ≡ length old) ⊎ Sometime call.from.seen call.to.seen (HasNoCell call.shape)

-- why a range of up to `most` values was refused, and what the pass has done
abbrev pub PutsNone : {T : Type 0} → Call T → ℕ → RangeRefused → Type 0
PutsNone k most Nothing = (most ≡ 0) × (k.to ≡ k.from)
PutsNone k most Full = (0 < most) × Adds k.from k.to [] × Justified k.shape k.from k.to PutFull
PutsNone k most Closed = (0 < most) × BacksOut k.from k.to most × Justified k.shape k.from k.to PutClosed
PutsNone k most (Spent word t) = (0 < most) × BacksOut k.from k.to most × Justified k.shape k.from k.to (PutSpent word t)

-- put_range: a refusal leaves every value in its place
abbrev pub PutsRange : {T : Type 0} → Call T → List (Slot T) → List (Slot T) → Result Ranged RangeRefused → Type 0
PutsRange call old new (Ok r) = PutsFront call old new r
PutsRange call old new (Err why) = (new ≡ old) × PutsNone call (length old) why

-- The pass, which was v and is w, keeps one answer more of a put of these values: the number, or the refusal with all of them. An empty
-- range is no call, and its pass is as it was
abbrev pub RangeAnswers : {T : Type 0} → List T → Result Ranged RangeRefused → PassView T → PassView T → Type 0
RangeAnswers vs (Ok r) v w = Answers v w (PutAnswered (Ok r.number))
RangeAnswers vs (Err Nothing) v w = w ≡ v
RangeAnswers vs (Err Full) v w = Answers v w (PutAnswered (Err (FullOf vs)))
RangeAnswers vs (Err Closed) v w = Answers v w (PutAnswered (Err (ClosedTo vs)))
RangeAnswers vs (Err (Spent word t)) v w = Answers v w (PutAnswered (Err (SpentFor vs word t)))

-- Folds of all values

-- all values were taken at once and their cells given back at once, and the fold did with them what
-- `folds` says; or nothing was done, and then `unchanged`
abbrev pub FoldsAll : {T : Type 0} → Call T → (List T → Type 0) → Type 0 → Result Folded TakeRefused → Type 0
FoldsAll {T} k folds unchanged (Ok r) = (values : List T) × FoldGives k.from k.to values r.number × (r.count ≡ length values) × folds values
FoldsAll k folds unchanged (Err why) = TakesNothing k.shape k.from k.to why × unchanged

-- the pass, which was v and is w, keeps one answer more: the values of its take, in the order in which it folded them, or the refusal
abbrev pub FoldAnswers : {T : Type 0} → (List T → List T) → Result Folded TakeRefused → PassView T → PassView T → Type 0
FoldAnswers {T} order (Ok r) v w = (values : List T) × FoldGives v w values r.number × Answers v w (FoldAnswered (Ok (order values, r.number)))
FoldAnswers order (Err why) v w = Answers v w (FoldAnswered (Err why))

-- What puts and takes that wait promise.
use Rattle.std.specs.Prelude.{◌≡◌, ℕ, List, [], ◌∷◌, map, Option, Some, None, Result, Ok, Err, ⊤}
use Rattle.std.specs.Iterator.{YieldsThen}
use Rattle.bounded_model.specs.declared.answers.PutRefused.{PutRefused}
use Rattle.bounded_model.specs.declared.answers.PutRefused.TheVariants.{Closed as PutClosed, Spent as PutSpent}
use Rattle.bounded_model.specs.declared.answers.TakeRefused.{TakeRefused}
use Rattle.bounded_model.specs.declared.answers.TakeRefused.TheVariants.{Closed as TakeClosed, Shut as TakeShut, Spent as TakeSpent}
use Rattle.bounded_model.specs.declared.views.PassView.{PassView}
use Rattle.bounded_model.specs.Machine.{Shape}
use Rattle.bounded_model.specs.Laws.{Call, PutGives, TakeGives}
use Rattle.bounded_model.specs.Consumes.{TakesEach}
use Rattle.waiting.specs.Answering.{PutAnswers, TakeAnswers, AnswersEach}
use Rattle.waiting.specs.declared.stopped.PutStopped.{PutStopped}
use Rattle.waiting.specs.declared.stopped.PutStopped.TheVariants.{Closed, Spent}
use Rattle.waiting.specs.declared.stopped.TakeStopped.{TakeStopped}
use Rattle.waiting.specs.declared.stopped.TakeStopped.TheVariants.{Closed as TakesClosed, Shut as TakesShut, Spent as TakesSpent}
use Rattle.waiting.specs.declared.stopped.Unsent.{Unsent}

-- Puts

-- why a waiting put stopped, as a put's refusal
abbrev pub refused_put : {T : Type 0} → PutStopped T → PutRefused T
refused_put (Closed x) = PutClosed x
refused_put (Spent x word t) = PutSpent x word t

-- what a waiting put answers, as a put's answer: never that the container is full
abbrev pub put_answered : {T : Type 0} → Result ℕ (PutStopped T) → Result ℕ (PutRefused T)
put_answered (Ok n) = Ok n
put_answered (Err why) = Err (refused_put why)

-- these values, each with its number, were put one after another
abbrev pub PutsEach : {T : Type 0} → Shape → PassView T → List (T × ℕ) → PassView T → Type 0
PutsEach c v [] w = v ≡ w
PutsEach {T} c v (x ∷ xs) w = (u : PassView T) × PutGives c v x.0 u (Ok x.1) × PutsEach c u xs w

-- what an iterator gave from its first state on was put, up to w, and then it gave `next`; and what the pass has answered
pub record PutsFront {T I : Type 0} (c : Shape) (v w : PassView T) (gives : I → Option T → I → Type 0) (values : I) (next : Option T) (rest : I) : Type 0 where
  pub put : List (T × ℕ)
  pub puts : PutsEach c v put w
  pub answered : AnswersEach (λ x. PutAnswers x.0 (Ok x.1)) v put w
  pub given : YieldsThen gives values (map (λ x. x.0) put) next rest

-- all values were put; or all before one, that one was refused for good, and the iterator continues after it
abbrev pub PutsAll : {T I : Type 0} → Call T → (I → Option T → I → Type 0) → I → Result ⊤ (Unsent T I) → Type 0
PutsAll {T} {I} k gives values (Ok _) = (end : I) × PutsFront k.shape k.from k.to gives values None end
PutsAll {T} {I} k gives values (Err unsent) =
    (x : T) × (w : PassView T) × PutsFront k.shape k.from w gives values (Some x) unsent.rest
    × PutGives k.shape w x k.to (Err (refused_put unsent.first)) × PutAnswers x (Err (refused_put unsent.first)) w k.to

-- Takes

-- why a waiting take stopped, as a take's refusal
abbrev pub refused_take : TakeStopped → TakeRefused
refused_take TakesClosed = TakeClosed
refused_take TakesShut = TakeShut
refused_take (TakesSpent word t) = TakeSpent word t

-- what a waiting take answers, as a take's answer: never that the container is empty
abbrev pub take_answered : {T : Type 0} → Result (T × ℕ) TakeStopped → Result (T × ℕ) TakeRefused
take_answered (Ok r) = Ok r
take_answered (Err why) = Err (refused_take why)

-- some values were taken one after another until a take was refused for good, and the fold did with them and their
-- numbers, in the order of taking, what `folds` says; and what the pass has answered
pub record TakesAll {T : Type 0} (call : Call T) (folds : List (T × ℕ) → Type 0) (why : TakeRefused) : Type 0 where
  pub taken : List (T × ℕ)
  pub last : PassView T
  pub takes : TakesEach call.shape call.from taken last
  pub answered : AnswersEach (λ x. TakeAnswers (Ok x)) call.from taken last
  pub folded : folds taken
  pub refused : TakeGives call.shape last call.to (Err why)
  pub refusal : TakeAnswers (Err why) last call.to

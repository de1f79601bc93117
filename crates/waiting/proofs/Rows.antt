-- One more at the end of a row: of puts, of takes, of passes.
use Rattle.std.proofs.Common.{ℕ, List, [], ◌∷◌, ◌++◌, refl, map, Option, Some, Ok}
use Rattle.std.specs.Iterator.{Yields}
use Rattle.bounded_model.specs.declared.views.PassView.{PassView}
use Rattle.bounded_model.specs.declared.views.RootView.{RootView}
use Rattle.bounded_model.specs.Machine.{Shape}
use Rattle.bounded_model.specs.Laws.{PutGives, TakeGives, Splits}
use Rattle.bounded_model.specs.Consumes.{TakesEach, Folds}
use Rattle.waiting.specs.Answering.{PutAnswers, TakeAnswers, AnswersEach}
use Rattle.waiting.specs.Waits.{PutsEach, PutsFront}
use Rattle.waiting.specs.Passes.{SplitsEach}

-- Answers

AnswersEach_more : {A T : Type 0} (Gives : A → PassView T → PassView T → Type 0) (v : PassView T) (xs : List A) (u w : PassView T) (x : A) → AnswersEach Gives v xs u → Gives x u w → AnswersEach Gives v (xs ++ x ∷ []) w
AnswersEach_more Gives v [] u w x each last = (w, rw each last, refl)
AnswersEach_more Gives v (y ∷ ys) u w x each last = (each.0, each.1, AnswersEach_more Gives each.0 ys u w x each.2 last)

-- Puts

PutsEach_more : {T : Type 0} (c : Shape) (v : PassView T) (xs : List (T × ℕ)) (u w : PassView T) (x : T × ℕ) → PutsEach c v xs u → PutGives c u x.0 w (Ok x.1) → PutsEach c v (xs ++ x ∷ []) w
PutsEach_more c v [] u w x puts last = (w, rw puts last, refl)
PutsEach_more c v (y ∷ ys) u w x puts last = (puts.0, puts.1, PutsEach_more c puts.0 ys u w x puts.2 last)

Yields_more : {T I : Type 0} (gives : I → Option T → I → Type 0) (s : I) (xs : List (T × ℕ)) (t u : I) (x : T × ℕ) → Yields gives s (map (λ y. y.0) xs) t → gives t (Some x.0) u → Yields gives s (map (λ y. y.0) (xs ++ x ∷ [])) u
Yields_more gives s [] t u x given last = (u, rw given last, refl)
Yields_more gives s (y ∷ ys) t u x given last = (given.0, given.1, Yields_more gives given.0 ys t u x given.2 last)

-- the iterator gave some values from s on, and is at t; they were put, up to u
pub record Front {T I : Type 0} (c : Shape) (v u : PassView T) (gives : I → Option T → I → Type 0) (s t : I) : Type 0 where
  pub put : List (T × ℕ)
  pub puts : PutsEach c v put u
  pub answered : AnswersEach (λ x. PutAnswers x.0 (Ok x.1)) v put u
  pub given : Yields gives s (map (λ x. x.0) put) t

pub Front-none : {T I : Type 0} (c : Shape) (v : PassView T) (gives : I → Option T → I → Type 0) (s : I) → Front c v v gives s s
Front-none c v gives s = record { put = []; puts = refl; answered = refl; given = refl }

module _ {T I : Type 0} (c : Shape) {v : PassView T} {gives : I → Option T → I → Type 0} {s : I} where
  pub Front-more : {u w : PassView T} {t r : I} {x : T} {n : ℕ} → Front c v u gives s t → gives t (Some x) r → PutGives c u x w (Ok n) → PutAnswers x (Ok n) u w → Front c v w gives s r
  Front-more {u} {w} {t} {r} {x} {n} front given put answered = record {
    put = front.put ++ (x, n) ∷ [];
    puts = PutsEach_more c v front.put u w (x, n) front.puts put;
    answered = AnswersEach_more (λ x. PutAnswers x.0 (Ok x.1)) v front.put u w (x, n) front.answered answered;
    given = Yields_more gives s front.put t r (x, n) front.given given;
  }

  pub Front-then : {u : PassView T} {t r : I} (next : Option T) → Front c v u gives s t → gives t next r → PutsFront c v u gives s next r
  Front-then {u} {t} {r} next front given = record { put = front.put; puts = front.puts; answered = front.answered; given = (t, front.given, given) }

-- Takes

TakesEach_more : {T : Type 0} (c : Shape) (v : PassView T) (xs : List (T × ℕ)) (u w : PassView T) (x : T × ℕ) → TakesEach c v xs u → TakeGives c u w (Ok x) → TakesEach c v (xs ++ x ∷ []) w
TakesEach_more c v [] u w x takes last = (w, rw takes last, refl)
TakesEach_more c v (y ∷ ys) u w x takes last = (takes.0, takes.1, TakesEach_more c takes.0 ys u w x takes.2 last)

Folds_more : {A S : Type 0} (Gives : S → A → S → Type 0) (s : S) (xs : List A) (r t : S) (x : A) → Folds Gives s xs r → Gives r x t → Folds Gives s (xs ++ x ∷ []) t
Folds_more Gives s [] r t x folds last = (t, rw folds last, refl)
Folds_more Gives s (y ∷ ys) r t x folds last = (folds.0, folds.1, Folds_more Gives folds.0 ys r t x folds.2 last)

-- some values were taken, and f made t of s and them in the order of taking
pub record Taken {T S : Type 0} (c : Shape) (Gives : S → T × ℕ → S → Type 0) (v : PassView T) (s : S) (w : PassView T) (t : S) : Type 0 where
  pub taken : List (T × ℕ)
  pub takes : TakesEach c v taken w
  pub answered : AnswersEach (λ x. TakeAnswers (Ok x)) v taken w
  pub folds : Folds Gives s taken t

pub Taken-none : {T S : Type 0} (c : Shape) (Gives : S → T × ℕ → S → Type 0) (v : PassView T) (s : S) → Taken c Gives v s v s
Taken-none c Gives v s = record { taken = []; takes = refl; answered = refl; folds = refl }

pub Taken-more : {T S : Type 0} {c : Shape} {Gives : S → T × ℕ → S → Type 0} {v : PassView T} {s : S} {u : PassView T} {r : S} {x : T × ℕ} {w : PassView T} {t : S}
    → Taken c Gives v s u r → TakeGives c u w (Ok x) → TakeAnswers (Ok x) u w → Gives r x t → Taken c Gives v s w t
Taken-more {T} {S} {c} {Gives} {v} {s} {u} {r} {x} {w} {t} before take answered fold = record {
  taken = before.taken ++ x ∷ [];
  takes = TakesEach_more c v before.taken u w x before.takes take;
  answered = AnswersEach_more (λ x. TakeAnswers (Ok x)) v before.taken u w x before.answered answered;
  folds = Folds_more Gives s before.taken r t x before.folds fold;
}

-- Passes

pub SplitsEach-more : {T P : Type 0} (c : Shape) (view : P → PassView T) (r : RootView T) (ps : List P) (q s : RootView T) (p : P) → SplitsEach c r (map view ps) q → Splits c q s (view p) → SplitsEach c r (map view (ps ++ p ∷ [])) s
SplitsEach-more c view r [] q s p splits last = (s, rw splits last, refl)
SplitsEach-more c view r (y ∷ ys) q s p splits last = (splits.0, splits.1, SplitsEach-more c view splits.0 ys q s p splits.2 last)

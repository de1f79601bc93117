-- One more take at the end of a row of takes.
use Rattle.std.proofs.Common.{ℕ, List, [], ◌∷◌, ◌++◌, refl, Ok, map}
use Rattle.bounded_model.specs.declared.views.PassView.{PassView}
use Rattle.bounded_model.specs.Machine.{Shape}
use Rattle.bounded_model.specs.Laws.{TakeGives}
use Rattle.bounded_model.specs.Consumes.{TakesEach, Folds}

-- some values were taken, and f made t of s and them in the order of taking
pub record Consumed {T S : Type 0} (c : Shape) (Gives : S → T → S → Type 0) (v : PassView T) (s : S) (w : PassView T) (t : S) : Type 0 where
  pub taken : List (T × ℕ)
  pub takes : TakesEach c v taken w
  pub folds : Folds Gives s (map (λ x. x.0) taken) t

TakesEach_more : {T : Type 0} (c : Shape) (v : PassView T) (xs : List (T × ℕ)) (u w : PassView T) (x : T × ℕ) → TakesEach c v xs u → TakeGives c u w (Ok x) → TakesEach c v (xs ++ x ∷ []) w
TakesEach_more c v [] u w x takes last = (w, rw takes last, refl)
TakesEach_more c v (y ∷ ys) u w x takes last = (takes.0, takes.1, TakesEach_more c takes.0 ys u w x takes.2 last)

Folds_more : {T S : Type 0} (Gives : S → T → S → Type 0) (s : S) (xs : List (T × ℕ)) (r t : S) (x : T × ℕ) → Folds Gives s (map (λ y. y.0) xs) r → Gives r x.0 t → Folds Gives s (map (λ y. y.0) (xs ++ x ∷ [])) t
Folds_more Gives s [] r t x folds last = (t, rw folds last, refl)
Folds_more Gives s (y ∷ ys) r t x folds last = (folds.0, folds.1, Folds_more Gives folds.0 ys r t x folds.2 last)

pub Consumed_none : {T S : Type 0} (c : Shape) (Gives : S → T → S → Type 0) (v : PassView T) (s : S) → Consumed c Gives v s v s
Consumed_none c Gives v s = record { taken = []; takes = refl; folds = refl }

pub Consumed_more : {T S : Type 0} {c : Shape} {Gives : S → T → S → Type 0} {v : PassView T} {s : S} {u : PassView T} {r : S} {x : T} {n : ℕ} {w : PassView T} {t : S}
    → Consumed c Gives v s u r → TakeGives c u w (Ok (x, n)) → Gives r x t → Consumed c Gives v s w t
Consumed_more {T} {S} {c} {Gives} {v} {s} {u} {r} {x} {n} {w} {t} before take fold = record {
  taken = before.taken ++ (x, n) ∷ [];
  takes = TakesEach_more c v before.taken u w (x, n) before.takes take;
  folds = Folds_more Gives s before.taken r t (x, n) before.folds fold;
}

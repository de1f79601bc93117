-- What the contract of each call says of the moment at which it did what it did.
use Rattle.std.proofs.Common.{◌≡◌, ℕ, true, false, Bool, List, [], ◌∷◌, ◌++◌, append_assoc, refl, sym, ap, ◌∙◌, Result, Ok, Err}
use Rattle.std.specs.Prelude.{◌==◌, cond}
use Rattle.bounded_model.specs.declared.answers.PutRefused.{PutRefused}
use Rattle.bounded_model.specs.declared.answers.PutRefused.TheVariants.{Full, Closed, Spent}
use Rattle.bounded_model.specs.declared.answers.TakeRefused.{TakeRefused}
use Rattle.bounded_model.specs.declared.history.Event.{Event}
use Rattle.bounded_model.specs.declared.history.Event.TheVariants.{Hold, Put, Take, TakeAll, Free, Close, Shut}
use Rattle.bounded_model.specs.declared.views.PassView.{PassView}
use Rattle.bounded_model.specs.Machine.{Shape}
use Rattle.bounded_model.specs.Histories.{pass_of, own}
use Rattle.bounded_model.specs.Laws.{Adds, PutGives, TakeGives, CloseGives, ShutGives, LookGives, LenGives, RangeGives, FoldGives, holds_of}
use Rattle.bounded_model.specs.Justified.{Counted, Looked}
use Rattle.runs.specs.InTime.{Changes, Finds, DidOnce, put_effect, take_effect, close_effect, shut_effect}

module _ {T : Type 0} where
  -- where the newest event of a pass stands
  record NewestOwn (p : ℕ) (xs : List (Event T)) (e : Event T) (ys : List (Event T)) : Type 0 where
    newer : List (Event T)
    older : List (Event T)
    is : xs ≡ newer ++ e ∷ older
    others : own p older ≡ ys

  newest_own : (p : ℕ) (xs : List (Event T)) (e : Event T) (ys : List (Event T)) → own p xs ≡ e ∷ ys → NewestOwn p xs e ys
  newest_own p [] e ys same = cc
  newest_own p (x ∷ xs) e ys same = by_test (λ there. newest_own p xs e ys there) (pass_of x == p) refl
    where
      by_test : (own p xs ≡ e ∷ ys → NewestOwn p xs e ys) → (b : Bool) → (pass_of x == p) ≡ b → NewestOwn p (x ∷ xs) e ys
      by_test rest true t =
          let here : x ∷ own p xs ≡ e ∷ ys = sym (ap (λ (b : Bool). cond b (x ∷ own p xs) (own p xs)) t) ∙ same in
          let first : x ≡ e = cc in
          let others : own p xs ≡ ys = cc in
          record { newer = []; older = xs; is = ap (λ (y : Event T). y ∷ xs) first; others = others }
      by_test rest false t =
          let n = rest (sym (ap (λ (b : Bool). cond b (x ∷ own p xs) (own p xs)) t) ∙ same) in
          record { newer = x ∷ n.newer; older = n.older; is = ap (λ (zs : List (Event T)). x ∷ zs) n.is; others = n.others }

  module _ (c : Shape) (v w : PassView T) where
    -- the moment of an event that stands in the new part
    happened : (newer older : List (Event T)) (e : Event T) → w.seen ≡ (newer ++ e ∷ older) ++ v.seen → pass_of e ≡ v.number → DidOnce c v w (Changes e)
    happened newer older e is mine = record {
      at = e ∷ (older ++ v.seen);
      since = record { more = e ∷ older; is = refl };
      until = record { more = newer; is = is ∙ append_assoc newer (e ∷ older) v.seen };
      holds = (older ++ v.seen, refl, record { more = older; is = refl }, mine);
    }

    -- the newest own event, and the one before it
    newest : (e : Event T) (ys : List (Event T)) → Adds v w (e ∷ ys) → pass_of e ≡ v.number → DidOnce c v w (Changes e)
    newest e ys adds mine =
        let n = newest_own v.number adds.between e ys adds.own_events in
        happened n.newer n.older e (adds.seen ∙ ap (λ (zs : List (Event T)). zs ++ v.seen) n.is) mine

    second : (d e : Event T) (ys : List (Event T)) → Adds v w (d ∷ e ∷ ys) → pass_of e ≡ v.number → DidOnce c v w (Changes e)
    second d e ys adds mine =
        let n = newest_own v.number adds.between d (e ∷ ys) adds.own_events in
        let k = newest_own v.number n.older e ys n.others in
        happened (n.newer ++ d ∷ k.newer) k.older e
        (adds.seen ∙ ap (λ (zs : List (Event T)). zs ++ v.seen) (n.is ∙ ap (λ (zs : List (Event T)). n.newer ++ d ∷ zs) k.is ∙ sym (append_assoc n.newer (d ∷ k.newer) (e ∷ k.older)))) mine

    pub put_did : (x : T) (said : Result ℕ (PutRefused T)) → PutGives c v x w said → DidOnce c v w (put_effect v.number x said)
    put_did x (Ok n) g = newest (Put v.number (x ∷ []) n) (Hold v.number ∷ []) g refl
    put_did x (Err (Full y)) g = g.2
    put_did x (Err (Closed y)) g = g.2
    put_did x (Err (Spent y word t)) g = g.2

    pub take_did : (said : Result (T × ℕ) TakeRefused) → TakeGives c v w said → DidOnce c v w (take_effect v.number said)
    take_did (Ok r) g = second (Free v.number 1) (Take v.number r.0 r.1) [] g refl
    take_did (Err why) g = g.1

    pub close_did : (said : Bool) → CloseGives c v w said → DidOnce c v w (close_effect v.number said)
    close_did true g = newest (Close v.number) [] g refl
    close_did false g = g.1

    pub shut_did : (said : Bool) → ShutGives c v w said → DidOnce c v w (shut_effect v.number said)
    shut_did true g = newest (Shut v.number) [] g refl
    shut_did false g = g.1

    pub look_did : (said : Bool) → LookGives c v w said → DidOnce c v w (Finds (Looked said))
    look_did said g = g.1

    pub len_did : (k : ℕ) → LenGives c v w k → DidOnce c v w (Finds (Counted k))
    len_did k g = g.1

    pub range_did : (xs : List T) (n : ℕ) → RangeGives v xs w n → DidOnce c v w (Changes (Put v.number xs n))
    range_did xs n g = newest (Put v.number xs n) (holds_of v.number _) g refl

    pub fold_did : (xs : List T) (n : ℕ) → FoldGives v w xs n → DidOnce c v w (Changes (TakeAll v.number xs n))
    fold_did xs n g = second (Free v.number _) (TakeAll v.number xs n) [] g refl

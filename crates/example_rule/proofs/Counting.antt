-- What a call's answer says of the puts that its pass has made, and of the value that it took.
use Rattle.std.proofs.Common.{◌≡◌, ℕ, ◌+◌, inl, inr, ⊎_elim, Bool, true, false, cond, List, [], ◌∷◌, ◌++◌, Result, Ok, Err, refl, sym, ap, ◌∙◌, subst}
use Rattle.std.specs.Prelude.{◌==◌}
use Rattle.bounded_model.specs.declared.answers.PutRefused.{PutRefused}
use Rattle.bounded_model.specs.declared.answers.PutRefused.TheVariants.{Full, Closed, Spent}
use Rattle.bounded_model.specs.declared.history.Event.{Event}
use Rattle.bounded_model.specs.declared.history.Event.TheVariants.{Hold, Put, Take}
use Rattle.bounded_model.specs.declared.views.PassView.{PassView}
use Rattle.bounded_model.specs.Alone.{without_hands}
use Rattle.bounded_model.specs.Histories.{Among, own, pass_of}
use Rattle.bounded_model.specs.Laws.{Adds, PutGives, TakeGives}
use Rattle.bounded_model.specs.Machine.{Legal, Shape, without_first}
use Rattle.bounded_model.proofs.Histories.{own-append}
use Rattle.queue_machine.specs.Answers.{shape}
use Rattle.running.proofs.Changed.{back_changes_nothing, changed_since, unchanged}
use Rattle.running.specs.Ties.{changed_by}
use Rattle.example_rule.specs.Fed.{Fed, count_puts}
use Rattle.example_rule.proofs.Feeding.{head_or, mine, puts_are, taken}

module _ {T : Type 0} where
  -- a pass that has moved hands alone has put no more
  same_puts : (v w : PassView T) (events : List (Event T)) → Adds v w events → without_hands events ≡ [] → count_puts (changed_by v.number w.seen) ≡ count_puts (changed_by v.number v.seen)
  same_puts v w events a none = ap count_puts (unchanged v.number v.seen events a.between a.seen a.own_events none)

  pub one_more : (c : Shape) (v w : PassView T) (x : T) (n : ℕ) → PutGives c v x w (Ok n) → count_puts (changed_by v.number w.seen) ≡ 1 + count_puts (changed_by v.number v.seen)
  one_more c v w x n gives = ap count_puts (changed_since v.number v.seen _ gives.between gives.seen gives.own_events)

  pub none_more : (c : Shape) (v w : PassView T) (x : T) (why : PutRefused T) → PutGives c v x w (Err why) → count_puts (changed_by v.number w.seen) ≡ count_puts (changed_by v.number v.seen)
  none_more c v w x (Full y) gives = same_puts v w _ gives.1 refl
  none_more c v w x (Closed y) gives = same_puts v w _ gives.1.adds (back_changes_nothing v.number gives.1.held)
  none_more c v w x (Spent y word t) gives = same_puts v w _ gives.1.adds (back_changes_nothing v.number gives.1.held)

  pub put_number : (c : Shape) (v w : PassView T) (x : T) (said : Result ℕ (PutRefused T)) → PutGives c v x w said → w.number ≡ v.number
  put_number c v w x (Ok n) gives = gives.number
  put_number c v w x (Err (Full y)) gives = gives.1.number
  put_number c v w x (Err (Closed y)) gives = gives.1.adds.number
  put_number c v w x (Err (Spent y word t)) gives = gives.1.adds.number

  among_own : (p : ℕ) (x : Event T) (h : List (Event T)) → Among x (own p h) → Among x h
  among_own p x [] there = absurd there
  among_own p x (e ∷ h) there = kept (pass_of e == p) (among_own p x h) there
    where
      kept : (b : Bool) → (Among x (own p h) → Among x h) → Among x (cond b (e ∷ own p h) (own p h)) → Among x (e ∷ h)
      kept true earlier now = ⊎_elim (λ (is : x ≡ e). inl is) (λ (then : Among x (own p h)). inr (earlier then)) now
      kept false earlier now = inr (earlier now)

  among_left : (x : Event T) (newer older : List (Event T)) → Among x newer → Among x (newer ++ older)
  among_left x [] older there = absurd there
  among_left x (e ∷ newer) older there = ⊎_elim (λ (is : x ≡ e). inl is) (λ (earlier : Among x newer). inr (among_left x newer older earlier)) there

  -- a take of number k gives f k
  pub gives_its_number : (boss : ℕ) (f : ℕ → T) (n limit : ℕ) (v w : PassView T) (x : T) (k : ℕ) → TakeGives (shape n limit) v w (Ok (x, k)) → Legal (shape n limit) w.seen → Fed boss f w.seen → x ≡ f k
  gives_its_number boss f n limit v w x k gives legal fed =
      let p = v.number in
      let event : Event T = Take p x k in
      let own_event : Among event (own p gives.between) = subst (Among event) (sym gives.own_events) (inr (inl refl)) in
      let seen : Among event w.seen = subst (Among event) (sym gives.seen) (among_left event gives.between v.seen (among_own p event gives.between own_event)) in
      taken boss f n limit w.seen legal fed p x k seen

  -- the number of a put of the boss is that of its puts before
  module _ (boss : ℕ) (f : ℕ → T) (n limit : ℕ) (before : List (Event T)) (x : T) (k : ℕ) where
    numbered : (between : List (Event T)) → own boss between ≡ Put boss (x ∷ []) k ∷ Hold boss ∷ [] → Legal (shape n limit) (between ++ before) → Fed boss f (between ++ before) → k ≡ count_puts (changed_by boss before)
    numbered [] is legal fed = absurd (cc)
    numbered (e ∷ es) is legal fed = at (pass_of e == boss) is (λ (r : own boss es ≡ Put boss (x ∷ []) k ∷ Hold boss ∷ []). numbered es r legal.1 fed.1)
      where
        at : (b : Bool) → cond b (e ∷ own boss es) (own boss es) ≡ Put boss (x ∷ []) k ∷ Hold boss ∷ [] → (own boss es ≡ Put boss (x ∷ []) k ∷ Hold boss ∷ [] → k ≡ count_puts (changed_by boss before)) → k ≡ count_puts (changed_by boss before)
        at true now earlier =
            let put : e ≡ Put boss (x ∷ []) k = ap (head_or e) now in
            let held : own boss es ≡ Hold boss ∷ [] = ap without_first now in
            let needs : Legal (shape n limit) (Put boss (x ∷ []) k ∷ es ++ before) = subst (λ (y : Event T). Legal (shape n limit) (y ∷ es ++ before)) put legal in
            needs.0.3 ∙ puts_are boss f n limit (es ++ before) ∙ mine boss f (es ++ before) fed.1 ∙ ap (λ (ys : List (Event T)). count_puts (without_hands ys)) (own-append boss es before ∙ ap (λ (ys : List (Event T)). ys ++ own boss before) held)
        at false now earlier = earlier now

  pub put_has_number : (boss : ℕ) (f : ℕ → T) (n limit : ℕ) (v w : PassView T) (x : T) (k : ℕ) → v.number ≡ boss → PutGives (shape n limit) v x w (Ok k) → Legal (shape n limit) w.seen → Fed boss f w.seen → k ≡ count_puts (changed_by boss v.seen)
  put_has_number boss f n limit v w x k is_boss gives legal fed =
      numbered boss f n limit v.seen x k gives.between
      (subst (λ (b : ℕ). own b gives.between ≡ Put b (x ∷ []) k ∷ Hold b ∷ []) is_boss gives.own_events)
      (subst (Legal (shape n limit)) gives.seen legal)
      (subst (Fed boss f) gives.seen fed)

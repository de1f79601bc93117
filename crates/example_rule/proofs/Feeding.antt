-- A rule by which a consumer knows what it takes.
use Rattle.std.proofs.Common.{◌≡◌, ℕ, zero, suc, ◌+◌, ⊎_elim, Bool, true, false, cond, List, [], ◌∷◌, ◌++◌, refl, sym, ap, ◌∙◌, subst, arith}
use Rattle.std.proofs.lemmas.Bool.{false≢true}
use Rattle.std.specs.Prelude.{◌==◌}
use Rattle.bounded_model.specs.declared.history.Event.{Event}
use Rattle.bounded_model.specs.declared.history.Event.TheVariants.{Hold, Put, Take, TakeAll, Free, Close, Shut}
use Rattle.bounded_model.specs.declared.views.PassView.{PassView}
use Rattle.bounded_model.specs.Alone.{without_hands}
use Rattle.bounded_model.specs.Histories.{Among, own, pass_of}
use Rattle.bounded_model.specs.Machine.{Legal, state, without_first}
use Rattle.bounded_model.proofs.Histories.{own-mine}
use Rattle.queue_machine.specs.Answers.{shape}
use Rattle.running.specs.Ties.{PutDeals, TakeDeals, CloseDeals, changed_by}
use Rattle.example_rule.specs.Fed.{Fed, Feeds, count_puts}
use Rattle.example_rule.specs.FedIsTie.{fed_is_tie}

abbrev is_put : {T : Type 0} → Event T → Bool
is_put (Put p vs k) = true
is_put e = false

abbrev pub head_or : {T : Type 0} → T → List T → T
head_or v [] = v
head_or v (x ∷ xs) = x

abbrev has_one : {T : Type 0} → List T → Bool
has_one [] = false
has_one (x ∷ xs) = true

module _ {T : Type 0} (boss : ℕ) (f : ℕ → T) where
  skips : (b : Bool) (e : Event T) (es : List (Event T)) → is_put e ≡ false → count_puts (without_hands (cond b (e ∷ es) es)) ≡ count_puts (without_hands es)
  skips false e es none_put = refl
  skips true (Put p vs k) es none_put = absurd (false≢true (sym none_put))
  skips true e es none_put = refl

  -- all puts are the boss's
  pub mine : (h : List (Event T)) → Fed boss f h → count_puts h ≡ count_puts (changed_by boss h)
  mine [] fed = refl
  mine (Put p vs k ∷ h) fed = ap (λ (x : ℕ). 1 + x) (mine h fed.1) ∙ sym (ap (λ (es : List (Event T)). count_puts (without_hands es)) (own-mine boss (Put p vs k) h fed.0.0))
  mine (e ∷ h) fed = mine h fed.1 ∙ sym (skips (pass_of e == boss) e (own boss h) refl)

  abbrev upto : ℕ → ℕ → List T
  upto a zero = []
  upto a (suc x) = f a ∷ upto (suc a) x

  upto_more : (a x : ℕ) → upto a x ++ f (a + x) ∷ [] ≡ upto a (suc x)
  upto_more a zero = ap (λ (k : ℕ). f k ∷ []) (omega arith)
  upto_more a (suc x) = ap (λ (ys : List T). f a ∷ ys) (ap (λ (k : ℕ). upto (suc a) x ++ f k ∷ []) (omega arith) ∙ upto_more (suc a) x)

  -- what each call owes, in a queue
  module _ (n limit : ℕ) where
    pub puts_are : (h : List (Event T)) → (state (shape n limit) h).puts ≡ count_puts h
    puts_are [] = refl
    puts_are (Put p vs k ∷ h) = let r = puts_are h in omega (arith, r)
    puts_are (Hold p ∷ h) = puts_are h
    puts_are (Take p v k ∷ h) = puts_are h
    puts_are (TakeAll p vs k ∷ h) = puts_are h
    puts_are (Free p k ∷ h) = puts_are h
    puts_are (Close p ∷ h) = puts_are h
    puts_are (Shut p ∷ h) = puts_are h

    pub put_deals : (p : PassView T) (x : T) → p.number ≡ boss → x ≡ f (count_puts (changed_by boss p.seen)) → PutDeals (shape n limit) (Fed boss f) p x
    put_deals p x is_boss is h e effect later same legal fed =
        let k = effect.0 in
        let needs : Legal (shape n limit) (Put p.number (x ∷ []) k ∷ h) = subst (λ (y : Event T). Legal (shape n limit) (y ∷ h)) effect.1 legal in
        let none_since : changed_by boss h ≡ changed_by boss p.seen = subst (λ (b : ℕ). changed_by b h ≡ changed_by b p.seen) is_boss same in
        let number : k ≡ count_puts (changed_by boss p.seen) = needs.0.3 ∙ puts_are h ∙ mine h fed ∙ ap count_puts none_since in
        let value : x ≡ f k = is ∙ ap f (sym number) in
        subst (λ (y : Event T). Fed boss f (y ∷ h)) (sym effect.1) ((is_boss, ap (λ (y : T). y ∷ []) value), fed)

    pub take_deals : (p : PassView T) → TakeDeals (shape n limit) (Fed boss f) p
    take_deals p h e effect later same legal fed = subst (λ (y : Event T). Fed boss f (y ∷ h)) (sym effect.2) (tt, fed)

    pub close_deals : (p : PassView T) → CloseDeals (shape n limit) (Fed boss f) p
    close_deals p h e effect later same legal fed = subst (λ (y : Event T). Fed boss f (y ∷ h)) (sym effect) (tt, fed)

    -- what a queue stores
    record Stores (h : List (Event T)) : Type 0 where
      many : ℕ
      values : (state (shape n limit) h).values ≡ upto (state (shape n limit) h).takes many
      balance : (state (shape n limit) h).puts ≡ (state (shape n limit) h).takes + many

    after_take : (h : List (Event T)) (v : T) (rest : List T) (many : ℕ) → (state (shape n limit) h).values ≡ v ∷ rest → (state (shape n limit) h).values ≡ upto (state (shape n limit) h).takes many → (x : ℕ) × (many ≡ suc x) × (v ∷ rest ≡ upto (state (shape n limit) h).takes (suc x))
    after_take h v rest zero starts are = absurd (no_values (sym starts ∙ are))
      where
        no_values : v ∷ rest ≡ [] → ⊥
        no_values e = false≢true (sym (ap has_one e))
    after_take h v rest (suc x) starts are = (x, refl, sym starts ∙ are)

    stores : (h : List (Event T)) → Legal (shape n limit) h → Fed boss f h → Stores h
    stores [] legal fed = record { many = 0; values = refl; balance = refl }
    stores (Put p vs k ∷ h) legal fed =
        let r = stores h legal.1 fed.1 in
        let s = state (shape n limit) h in
        let number : k ≡ s.takes + r.many = legal.0.3 ∙ r.balance in
        record {
          many = suc r.many;
          values = ap (λ (ys : List T). ys ++ vs) r.values ∙ ap (λ (ys : List T). upto s.takes r.many ++ ys) (fed.0.1 ∙ ap (λ (x : ℕ). f x ∷ []) number) ∙ upto_more s.takes r.many;
          balance = let b = r.balance in omega (arith, b);
        }
    stores (Take p v k ∷ h) legal fed =
        let r = stores h legal.1 fed.1 in
        let t = after_take h v legal.0.1.0 r.many legal.0.1.1 r.values in
        record {
          many = t.0;
          values = ap without_first (legal.0.1.1 ∙ t.2) ∙ ap (λ (a : ℕ). upto a t.0) (omega arith);
          balance = let b = r.balance in let m = t.1 in omega (arith, b, m);
        }
    stores (TakeAll p vs k ∷ h) legal fed = absurd legal.0.1
    stores (Hold p ∷ h) legal fed = let r = stores h legal.1 fed.1 in record { many = r.many; values = r.values; balance = r.balance }
    stores (Free p k ∷ h) legal fed = let r = stores h legal.1 fed.1 in record { many = r.many; values = r.values; balance = r.balance }
    stores (Close p ∷ h) legal fed = let r = stores h legal.1 fed.1 in record { many = r.many; values = r.values; balance = r.balance }
    stores (Shut p ∷ h) legal fed = let r = stores h legal.1 fed.1 in record { many = r.many; values = r.values; balance = r.balance }

    -- a take gives the first value that is stored
    taken_now : (p : ℕ) (v : T) (k : ℕ) (h : List (Event T)) → Legal (shape n limit) (Take p v k ∷ h) → Fed boss f (Take p v k ∷ h) → v ≡ f k
    taken_now p v k h legal fed =
        let r = stores h legal.1 fed.1 in
        let t = after_take h v legal.0.1.0 r.many legal.0.1.1 r.values in
        first_is t.2 ∙ ap f (sym legal.0.2)
      where
        first_is : {rest ys : List T} {w : T} → v ∷ rest ≡ w ∷ ys → v ≡ w
        first_is e = ap (head_or v) e

    pub taken : (h : List (Event T)) → Legal (shape n limit) h → Fed boss f h → (p : ℕ) (v : T) (k : ℕ) → Among (Take p v k) h → v ≡ f k
    taken [] legal fed p v k there = absurd there
    taken (e ∷ h) legal fed p v k there =
        ⊎_elim
        (λ (is : Take p v k ≡ e). taken_now p v k h (subst (λ (y : Event T). Legal (shape n limit) (y ∷ h)) (sym is) legal) (subst (λ (y : Event T). Fed boss f (y ∷ h)) (sym is) fed))
        (λ (earlier : Among (Take p v k) h). taken h legal.1 fed.1 p v k earlier)
        there

    pub feeds : Feeds boss f n limit
    feeds = record { tie = fed_is_tie boss f; put = put_deals; take = take_deals; close = close_deals; taken = taken }

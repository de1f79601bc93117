-- The calls of a legal history, without the moves of hands, are a run of one sequential list.
use Rattle.std.proofs.Common.{◌≡◌, ℕ, ◌+◌, List, [], ◌∷◌, refl, sym, ap, ◌∙◌, subst}
use Rattle.bounded_model.specs.declared.history.Order.{Order}
use Rattle.bounded_model.specs.declared.history.Order.TheVariants.{Fifo, Lifo}
use Rattle.bounded_model.specs.declared.history.Event.{Event}
use Rattle.bounded_model.specs.declared.history.Event.TheVariants.{Hold, Put, Take, TakeAll, Free, Close, Shut}
use Rattle.bounded_model.specs.Machine.{Shape, State, state, Legal, put_on, without_first, StartsWith, next_put, next_take}
use Rattle.bounded_model.specs.Alone.{without_hands, IsListRun, SameList}

module _ {T : Type 0} (c : Shape) where
  next_put-same : (o : Order) (s t : State T) → SameList s t → next_put o s ≡ next_put o t
  next_put-same Fifo s t x = x.puts
  next_put-same Lifo s t x = cc (x.puts, x.takes)

  next_take-same : (o : Order) (s t : State T) → SameList s t → next_take o s ≡ next_take o t
  next_take-same Fifo s t x = x.takes
  next_take-same Lifo s t x = cc (x.puts, x.takes)

  pub same_list : (h : List (Event T)) → SameList (state c h) (state c (without_hands h))
  same_list [] = record { values = refl; closed = refl; shut = refl; puts = refl; takes = refl }
  same_list (Hold p ∷ h) = let x = same_list h in record { values = x.values; closed = x.closed; shut = x.shut; puts = x.puts; takes = x.takes }
  same_list (Put p vs n ∷ h) = let x = same_list h in record {
    values = ap (λ (l : List T). put_on c.order l vs) x.values;
    closed = x.closed;
    shut = x.shut;
    puts = ap (λ (k : ℕ). k + 1) x.puts;
    takes = x.takes;
  }
  same_list (Take p v n ∷ h) = let x = same_list h in record { values = ap without_first x.values; closed = x.closed; shut = x.shut; puts = x.puts; takes = ap (λ (k : ℕ). k + 1) x.takes }
  same_list (TakeAll p vs n ∷ h) = let x = same_list h in record { values = refl; closed = x.closed; shut = x.shut; puts = x.puts; takes = ap (λ (k : ℕ). k + 1) x.takes }
  same_list (Free p k ∷ h) = let x = same_list h in record { values = x.values; closed = x.closed; shut = x.shut; puts = x.puts; takes = x.takes }
  same_list (Close p ∷ h) = let x = same_list h in record { values = x.values; closed = refl; shut = x.shut; puts = x.puts; takes = x.takes }
  same_list (Shut p ∷ h) = let x = same_list h in record { values = x.values; closed = x.closed; shut = refl; puts = x.puts; takes = x.takes }

  pub runs_alone : (h : List (Event T)) → Legal c h → IsListRun c (without_hands h)
  runs_alone [] l = tt
  runs_alone (Hold p ∷ h) l = runs_alone h l.1
  runs_alone (Put p vs n ∷ h) l = let x = same_list h in
      ((sym x.closed ∙ l.0.0, l.0.1, l.0.3 ∙ next_put-same c.order (state c h) (state c (without_hands h)) x), runs_alone h l.1)
  runs_alone (Take p v n ∷ h) l = let x = same_list h in
      ((sym x.shut ∙ l.0.0, subst (StartsWith v) x.values l.0.1, l.0.2 ∙ next_take-same c.order (state c h) (state c (without_hands h)) x), runs_alone h l.1)
  runs_alone (TakeAll p vs n ∷ h) l = let x = same_list h in
      ((sym x.shut ∙ l.0.0, l.0.1, sym x.values ∙ l.0.2, l.0.3, l.0.4 ∙ next_take-same c.order (state c h) (state c (without_hands h)) x), runs_alone h l.1)
  runs_alone (Free p k ∷ h) l = runs_alone h l.1
  runs_alone (Close p ∷ h) l = let x = same_list h in (sym x.closed ∙ l.0, runs_alone h l.1)
  runs_alone (Shut p ∷ h) l = let x = same_list h in (sym x.shut ∙ l.0, runs_alone h l.1)

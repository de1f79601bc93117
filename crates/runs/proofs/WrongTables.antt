-- Why those of specs/WrongTables are refused.
use Rattle.std.proofs.Common.{◌≡◌, ℕ, List, [], ◌∷◌, ◌++◌, length, refl, ap, ⊎_elim, arith}
use Rattle.bounded_model.specs.declared.history.Event.{Event}
use Rattle.bounded_model.specs.declared.history.Event.TheVariants.{Hold}
use Rattle.bounded_model.specs.Histories.{pass_of, Later}
use Rattle.bounded_model.proofs.Histories.{no_parts}
use Rattle.runs.specs.Table.{OneHistory}
use Rattle.runs.specs.WrongTables.{two_histories, one_pass_twice, own_unseen}

-- of two histories of one event each, neither is a part of the other
same_first : (x y : Event ℕ) (more : List (Event ℕ)) → y ∷ [] ≡ more ++ x ∷ [] → pass_of y ≡ pass_of x
same_first x y [] is = let same : y ≡ x = cc in ap pass_of same
same_first x y (z ∷ more) is = let nothing : more ++ x ∷ [] ≡ [] = cc in let no : x ∷ [] ≡ [] = (no_parts more (x ∷ []) nothing).1 in cc

pub two_histories-refused : (h : List (Event ℕ)) → ¬ OneHistory h two_histories
two_histories-refused h o = ⊎_elim
    (λ (l : Later (Hold 0 ∷ []) (Hold 1 ∷ [])). let same : ◌≡◌ {A = ℕ} 1 0 = same_first (Hold 0) (Hold 1) l.more l.is in absurd (omega (arith, same)))
    (λ (l : Later (Hold 1 ∷ []) (Hold 0 ∷ [])). let same : ◌≡◌ {A = ℕ} 0 1 = same_first (Hold 1) (Hold 0) l.more l.is in absurd (omega (arith, same)))
    (o.in_one_order 0 1 _ _ _ _ _ _ refl refl)

pub one_pass_twice-refused : (h : List (Event ℕ)) → ¬ OneHistory h one_pass_twice
one_pass_twice-refused h o = o.apart 0 1 _ _ _ _ _ _ (λ (same : ◌≡◌ {A = ℕ} 0 1). absurd (omega (arith, same))) refl refl refl

pub own_unseen-refused : ¬ OneHistory (Hold 0 ∷ []) own_unseen
own_unseen-refused o = let same : ◌≡◌ {A = ℕ} 1 0 = ap length (o.passes 0 _ _ _ refl).own_events in absurd (omega (arith, same))

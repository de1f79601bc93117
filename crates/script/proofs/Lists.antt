-- Values in places.
use Rattle.std.proofs.Common.{◌≡◌, ℕ, zero, suc, List, [], ◌∷◌, ◌++◌, Option, Some, None, map, drop, replicate, refl, ap, ◌∙◌}
use Rattle.script.specs.Words.{values_in}

pub values_push : (places : List (Option (List ℕ))) (value : List ℕ) → values_in (places ++ Some value ∷ []) ≡ values_in places ++ value ∷ []
values_push [] value = refl
values_push (None ∷ places) value = values_push places value
values_push (Some first ∷ places) value = ap (λ (values : List (List ℕ)). first ∷ values) (values_push places value)

pub values_all : (values : List (List ℕ)) → values_in (map (λ value. Some value) values) ≡ values
values_all [] = refl
values_all (value ∷ values) = ap (λ (more : List (List ℕ)). value ∷ more) (values_all values)

-- the first values have left their places
pub values_kept : (count : ℕ) (values : List (List ℕ)) → values_in (replicate count None ++ drop count (map (λ value. Some value) values)) ≡ drop count values
values_kept count values = emptied count (drop count (map (λ value. Some value) values)) ∙ behind count values
  where
    emptied : (count : ℕ) (places : List (Option (List ℕ))) → values_in (replicate count None ++ places) ≡ values_in places
    emptied zero places = refl
    emptied (suc count) places = emptied count places

    behind : (count : ℕ) (values : List (List ℕ)) → values_in (drop count (map (λ value. Some value) values)) ≡ drop count values
    behind zero values = values_all values
    behind (suc count) [] = refl
    behind (suc count) (value ∷ values) = behind count values

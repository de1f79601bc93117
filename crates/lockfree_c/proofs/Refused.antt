-- A call that a known slot or item would have let through was refused: none was known.
use Rattle.std.proofs.Common.{◌≡◌, ℕ, zero, suc, ◌+◌, ◌<◌, ◌≤◌, Bool, true, false, List, [], ◌∷◌, ◌++◌, length, refl, sym, ap, ◌∙◌, subst, arith, append-nil, append_assoc, length-append, take, true≢false}
use Rattle.rtrb.specs.Ring.{sent, known_free, received, known_items, SameProducer, SameConsumer, ProducerLooked, ConsumerLooked}
use mathlib.Core.List.{IsPrefix}
use Rattle.lockfree_c.specs.Ends.{In, Out, SeesNoSlot, SeesNoItem}

pub not_true : false ≡ true → ⊥
not_true e = true≢false (sym e)

none_known : (n m : ℕ) → (0 < n → false ≡ true) → n ≤ m
none_known zero m refused = omega arith
none_known (suc n) m refused = absurd (not_true (refused (omega arith)))

pub no_slot : (p m q : In) → SameProducer p m → sent m ≡ sent p → known_free m ≡ 0 → known_free p ≤ known_free m → ProducerLooked m q → SeesNoSlot p q
no_slot p m q on pushed none known after = record { at = m; looked = (on, pushed, known); none_free = none; after = after }

pub refused_push : (p m q : In) → SameProducer p m → sent m ≡ sent p → known_free m ≡ 0 → (0 < known_free p → false ≡ true) → ProducerLooked m q → SeesNoSlot p q
refused_push p m q on pushed none refused after = no_slot p m q on pushed none (none_known _ _ refused) after

pub none_in : (xs : List ℕ) → xs ≡ [] → 0 < length xs → ⊥
none_in xs e some = let n : length xs ≡ 0 = ap length e in omega (n, some, arith)

same : (c i d : Out) → SameConsumer c i → SameConsumer i d → SameConsumer c d
same c i d a b = ((b.0.0 ∙ a.0.0, b.0.1 ∙ a.0.1, b.0.2 ∙ a.0.2, b.0.3 ∙ a.0.3), b.1 ∙ a.1)

pub no_item : (c i d : Out) → IsPrefix (known_items c) (known_items d) → ConsumerLooked c i → SameConsumer i d → received d ≡ received i → known_items d ≡ [] → SeesNoItem c d
no_item c i d known looked on popped none = record { at = d; looked = (same c i d looked.0 on, popped ∙ looked.1, known); none_there = none; after = (((refl, refl, refl, refl), refl), refl, ([], append-nil (known_items d))) }

pub prefix_of_none : (xs ys : List ℕ) → xs ≡ [] → IsPrefix xs ys
prefix_of_none xs ys e = (ys, ap (λ zs. zs ++ ys) e)

joined : (xs ys zs : List ℕ) → IsPrefix xs ys → IsPrefix ys zs → IsPrefix xs zs
joined xs ys zs (x, e) (y, f) = (x ++ y, sym (append_assoc xs x y) ∙ ap (λ v. v ++ y) e ∙ f)

empty : (xs : List ℕ) → length xs ≡ 0 → xs ≡ []
empty [] e = refl
empty (x ∷ xs) e = absurd (omega (e, arith))

pub no_items : (c i d : Out) (n : ℕ) (xs ys : List ℕ) → n ≡ 0 → ConsumerLooked c i → SameConsumer i d → received d ≡ received i ++ take n ys
    → IsPrefix (known_items i) (take n ys ++ known_items d) → (n < length xs → length (known_items d) ≡ 0) → 0 < length xs → SeesNoItem c d
no_items c i d n xs ys e looked on popped known most some =
    let none = empty (known_items d) (most (subst (λ k. k < length xs) (sym e) some)) in
    no_item c i d (joined _ _ _ looked.2 (subst (λ k. IsPrefix (known_items i) (take k ys ++ known_items d)) e known)) looked on (subst (λ k. received d ≡ received i ++ take k ys) e popped ∙ append-nil (received i)) none

pub no_slots : (p m q : In) (xs pushed rest : List ℕ) → SameProducer p m → pushed ++ rest ≡ xs → sent m ≡ sent p ++ pushed → known_free p ≤ known_free m + length pushed
    → (0 < length rest → known_free m ≡ 0) → ProducerLooked m q → length pushed ≡ 0 → 0 < length xs → SeesNoSlot p q
no_slots p m q xs (x ∷ pushed) rest on parts sends known most after none some = absurd (omega (none, arith))
no_slots p m q xs [] rest on parts sends known most after none some =
    no_slot p m q on (sends ∙ append-nil (sent p)) (most (subst (λ ys. 0 < length ys) (sym parts) some)) (omega (known, arith)) after

shorter : (xs ys : List ℕ) → IsPrefix xs ys → length ys ≡ 0 → 0 < length xs → ⊥
shorter xs ys (zs, e) none some = let n : length (xs ++ zs) ≡ length ys = ap length e in omega (n, none, some, length-append xs zs, arith)

pub looked_in_vain : (c i d : Out) → ConsumerLooked c i → ConsumerLooked i d → length (known_items d) ≡ 0 → SeesNoItem c d × (0 < length (known_items c) → ⊥)
looked_in_vain c i d a b none =
    let known = joined _ _ _ a.2 b.2 in
    (no_item c i d known a b.0 b.1 (empty _ none), shorter _ _ known none)

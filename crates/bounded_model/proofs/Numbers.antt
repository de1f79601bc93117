-- The numbers of takes and puts.
use Rattle.std.proofs.Common.{◌≡◌, ℕ, suc, ◌+◌, ◌<◌, ◌≤◌, List, [], ◌∷◌, ◌++◌, refl, arith, sym, ap, ◌∙◌, append-nil, length, length-append}
use Rattle.std.specs.List.{AllByRecursion as Every}
use Rattle.bounded_model.specs.declared.history.Order.{Order}
use Rattle.bounded_model.specs.declared.history.Order.TheVariants.{Fifo, Lifo}
use Rattle.bounded_model.specs.declared.history.Event.{Event}
use Rattle.bounded_model.specs.declared.history.Event.TheVariants.{Hold, Put, Take, TakeAll, Free, Close, Shut}
use Rattle.bounded_model.specs.Machine.{Shape, State, state, after, Legal, next_put, next_take}
use Rattle.bounded_model.specs.Gathers.{gather, Moved, moved_by, sent_of, took_of, fold_of, number_of, Rises, Counts}
use Rattle.bounded_model.proofs.Histories.{no_parts}

module _ {A : Type 0} where
  pub Every-append : (P : A → Type 0) (xs ys : List A) → Every P xs → Every P ys → Every P (xs ++ ys)
  Every-append P [] ys h k = k
  Every-append P (x ∷ xs) ys h k = (h.0, Every-append P xs ys h.1 k)

  pub Every-weaker : (P Q : A → Type 0) → ((x : A) → P x → Q x) → (xs : List A) → Every P xs → Every Q xs
  Every-weaker P Q f [] h = tt
  Every-weaker P Q f (x ∷ xs) h = (f x h.0, Every-weaker P Q f xs h.1)

  pub Rises-push : (key : A → ℕ) (xs : List A) (y : A) → Rises key xs → Every (λ x. key x < key y) xs → Rises key (xs ++ y ∷ [])
  Rises-push key [] y r b = (tt, tt)
  Rises-push key (x ∷ xs) y r b = (Every-append (λ z. key x < key z) xs (y ∷ []) r.0 (b.0, tt), Rises-push key xs y r.1 b.1)

  pub Counts-push : (key : A → ℕ) (k : ℕ) (xs : List A) (y : A) → Counts key k xs → key y ≡ k + length xs → Counts key k (xs ++ y ∷ [])
  Counts-push key k [] y c is = (omega arith, tt)
  Counts-push key k (x ∷ xs) y c is = (c.0, Counts-push key (suc k) xs y c.1 (omega arith))

  -- numbers that count are rising numbers
  counts_above : (key : A → ℕ) (j k : ℕ) (xs : List A) → j < k → Counts key k xs → Every (λ x. j < key x) xs
  counts_above key j k [] below c = tt
  counts_above key j k (x ∷ xs) below c = let is = c.0 in (omega arith, counts_above key j (suc k) xs (omega arith) c.1)

  pub Rises-from_counts : (key : A → ℕ) (k : ℕ) (xs : List A) → Counts key k xs → Rises key xs
  Rises-from_counts key k [] c = tt
  Rises-from_counts key k (x ∷ xs) c = let is = c.0 in (counts_above key (key x) (suc k) xs (omega arith) c.1, Rises-from_counts key (suc k) xs c.1)

module _ {T : Type 0} (c : Shape) where
  put_bound : (o : Order) (s : State T) (q : ℕ) (vs : List T) (n : ℕ) → next_take o s ≤ next_take o (after c s (Put q vs n))
  put_bound Fifo s q vs n = omega arith
  put_bound Lifo s q vs n = omega arith

  take_bound : (o : Order) (s : State T) (q : ℕ) (v : T) (n : ℕ) → next_take o s < next_take o (after c s (Take q v n))
  take_bound Fifo s q v n = omega arith
  take_bound Lifo s q v n = omega arith

  same_bound : (o : Order) (s t : State T) → t.puts ≡ s.puts → t.takes ≡ s.takes → next_take o s ≤ next_take o t
  same_bound Fifo s t a b = omega arith
  same_bound Lifo s t a b = omega arith

  abbrev RiseTo : List (Moved T) → ℕ → Type 0
  RiseTo ms n = Every (λ m. m.number < n) ms × Rises (λ m. m.number) ms

  RiseTo-more : (ms : List (Moved T)) (j k : ℕ) → j ≤ k → RiseTo ms j → RiseTo ms k
  RiseTo-more ms j k up r = (Every-weaker _ _ (λ m b. omega arith) ms r.0, r.1)

  -- without takes of all, the numbers of takes rise, and are below the next one
  pub takes_rise : (h : List (Event T)) → Legal c h → gather fold_of h ≡ [] → Every (λ m. m.number < next_take c.order (state c h)) (gather took_of h) × Rises (λ m. m.number) (gather took_of h)
  takes_rise [] l k = (tt, tt)
  takes_rise (Hold q ∷ h) l k =
      let up = same_bound c.order (state c h) (state c (Hold q ∷ h)) refl refl in
      rw append-nil (RiseTo-more (gather took_of h) _ _ up (takes_rise h l.1 (no_parts (gather fold_of h) [] k).0))
  takes_rise (Put q vs n ∷ h) l k =
      let up = put_bound c.order (state c h) q vs n in
      rw append-nil (RiseTo-more (gather took_of h) _ _ up (takes_rise h l.1 (no_parts (gather fold_of h) [] k).0))
  takes_rise (Take q v n ∷ h) l k =
      let before = takes_rise h l.1 (no_parts (gather fold_of h) [] k).0 in
      let up = take_bound c.order (state c h) q v n in
      let is = l.0.2 in (
        Every-append _ (gather took_of h) (record { value = v; number = n; by = q } ∷ []) (Every-weaker _ _ (λ m b. omega arith) (gather took_of h) before.0) (omega arith, tt),
        Rises-push (λ m. m.number) (gather took_of h) (record { value = v; number = n; by = q }) before.1 (Every-weaker _ _ (λ m b. omega arith) (gather took_of h) before.0),
      )
  takes_rise (TakeAll q vs n ∷ h) l k = let none = (no_parts (gather fold_of h) (q ∷ []) k).1 in cc
  takes_rise (Free q j ∷ h) l k =
      let up = same_bound c.order (state c h) (state c (Free q j ∷ h)) refl refl in
      rw append-nil (RiseTo-more (gather took_of h) _ _ up (takes_rise h l.1 (no_parts (gather fold_of h) [] k).0))
  takes_rise (Close q ∷ h) l k =
      let up = same_bound c.order (state c h) (state c (Close q ∷ h)) refl refl in
      rw append-nil (RiseTo-more (gather took_of h) _ _ up (takes_rise h l.1 (no_parts (gather fold_of h) [] k).0))
  takes_rise (Shut q ∷ h) l k =
      let up = same_bound c.order (state c h) (state c (Shut q ∷ h)) refl refl in
      rw append-nil (RiseTo-more (gather took_of h) _ _ up (takes_rise h l.1 (no_parts (gather fold_of h) [] k).0))

  -- in a queue's history they are 0, 1, 2, ..
  pub takes_count : (h : List (Event T)) → c.order ≡ Fifo → Legal c h → ((state c h).takes ≡ length (gather took_of h)) × Counts (λ m. m.number) 0 (gather took_of h)
  takes_count [] queue l = (refl, tt)
  takes_count (Hold q ∷ h) queue l = rw append-nil (takes_count h queue l.1)
  takes_count (Put q vs n ∷ h) queue l = rw append-nil (takes_count h queue l.1)
  takes_count (Take q v n ∷ h) queue l =
      let before = takes_count h queue l.1 in
      let long = length-append (gather took_of h) (record { value = v; number = n; by = q } ∷ []) in
      let is : n ≡ (state c h).takes = l.0.2 ∙ ap (λ k. next_take k (state c h)) queue in
      let count = before.0 in
      (omega arith, Counts-push (λ m. m.number) 0 (gather took_of h) (record { value = v; number = n; by = q }) before.1 (omega arith))
  takes_count (TakeAll q vs n ∷ h) queue l = absurd (rw queue at l.0.1)
  takes_count (Free q k ∷ h) queue l = rw append-nil (takes_count h queue l.1)
  takes_count (Close q ∷ h) queue l = rw append-nil (takes_count h queue l.1)
  takes_count (Shut q ∷ h) queue l = rw append-nil (takes_count h queue l.1)

  one_sent : (q n : ℕ) (vs : List T) (ms : List (Moved T)) → length vs ≡ 1 → n ≡ length ms → Counts (λ m. m.number) 0 ms
      → (suc (length ms) ≡ length (ms ++ moved_by q n vs)) × Counts (λ m. m.number) 0 (ms ++ moved_by q n vs)
  one_sent q n [] ms one is before = absurd (omega arith)
  one_sent q n (v ∷ []) ms one is before = (
    omega (arith, length-append ms (record { value = v; number = n; by = q } ∷ [])),
    Counts-push (λ m. m.number) 0 ms (record { value = v; number = n; by = q }) before (omega arith),
  )
  one_sent q n (v ∷ w ∷ vs) ms one is before = absurd (omega arith)

  -- and so are those of puts
  pub sends_count : (h : List (Event T)) → c.order ≡ Fifo → Legal c h → ((state c h).puts ≡ length (gather sent_of h)) × Counts (λ m. m.number) 0 (gather sent_of h)
  sends_count [] queue l = (refl, tt)
  sends_count (Hold q ∷ h) queue l = rw append-nil (sends_count h queue l.1)
  sends_count (Put q vs n ∷ h) queue l =
      let before = sends_count h queue l.1 in
      let one : length vs ≡ 1 = rw queue at l.0.1 in
      let is : n ≡ (state c h).puts = l.0.3 ∙ ap (λ k. next_put k (state c h)) queue in
      let count = before.0 in
      let more = one_sent q n vs (gather sent_of h) one (omega arith) before.1 in
      let long = more.0 in
      (omega arith, more.1)
  sends_count (Take q v n ∷ h) queue l = rw append-nil (sends_count h queue l.1)
  sends_count (TakeAll q vs n ∷ h) queue l = absurd (rw queue at l.0.1)
  sends_count (Free q k ∷ h) queue l = rw append-nil (sends_count h queue l.1)
  sends_count (Close q ∷ h) queue l = rw append-nil (sends_count h queue l.1)
  sends_count (Shut q ∷ h) queue l = rw append-nil (sends_count h queue l.1)

  -- in a stack's history those of puts, takes and folds together are 0, 1, 2, ..
  one_call : (n : ℕ) (s : State T) (ns : List ℕ) → c.order ≡ Lifo → n ≡ next_take c.order s → (s.puts + s.takes ≡ length ns) × Counts (λ k. k) 0 ns → (suc (s.puts + s.takes) ≡ length (ns ++ n ∷ [])) × Counts (λ k. k) 0 (ns ++ n ∷ [])
  one_call n s ns stack is before =
      let at : n ≡ s.puts + s.takes = is ∙ ap (λ o. next_take o s) stack in
      let count = before.0 in
      (omega (arith, length-append ns (n ∷ [])), Counts-push (λ k. k) 0 ns n before.1 (omega arith))

  calls_count : (h : List (Event T)) → c.order ≡ Lifo → Legal c h → ((state c h).puts + (state c h).takes ≡ length (gather number_of h)) × Counts (λ k. k) 0 (gather number_of h)
  calls_count [] stack l = (refl, tt)
  calls_count (Hold q ∷ h) stack l = rw append-nil (calls_count h stack l.1)
  calls_count (Put q vs n ∷ h) stack l =
      let same : next_put c.order (state c h) ≡ next_take c.order (state c h) = ap (λ o. next_put o (state c h)) stack ∙ sym (ap (λ o. next_take o (state c h)) stack) in
      let one = one_call n (state c h) (gather number_of h) stack (l.0.3 ∙ same) (calls_count h stack l.1) in
      let long = one.0 in
      (omega arith, one.1)
  calls_count (Take q v n ∷ h) stack l = let one = one_call n (state c h) (gather number_of h) stack l.0.2 (calls_count h stack l.1) in let long = one.0 in (omega arith, one.1)
  calls_count (TakeAll q vs n ∷ h) stack l = let one = one_call n (state c h) (gather number_of h) stack l.0.4 (calls_count h stack l.1) in let long = one.0 in (omega arith, one.1)
  calls_count (Free q k ∷ h) stack l = rw append-nil (calls_count h stack l.1)
  calls_count (Close q ∷ h) stack l = rw append-nil (calls_count h stack l.1)
  calls_count (Shut q ∷ h) stack l = rw append-nil (calls_count h stack l.1)

  pub numbers_count : (h : List (Event T)) → c.order ≡ Lifo → Legal c h → Counts (λ k. k) 0 (gather number_of h)
  numbers_count h stack l = (calls_count h stack l).1

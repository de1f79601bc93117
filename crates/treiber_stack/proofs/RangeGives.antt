-- What a range put gives, by its answer.
use Rattle.std.proofs.Common.{◌≡◌, ℕ, zero, suc, ◌<◌, ◌≤◌, inl, inr, ⊎_elim, List, [], ◌∷◌, ◌++◌, map, length, take, drop, replicate, refl, sym, ap, ◌∙◌, subst, length-append, arith}
use Rattle.std.proofs.lemmas.List.{length-drop}
use Rattle.std.specs.Prelude.{Option as Slot, Some, None, Result, Ok, Err}
use Rattle.bounded_model.specs.declared.history.Event.TheVariants.{Put}
use Rattle.bounded_model.specs.Bulk.{PutsFront, PutsNone}
use Rattle.bounded_model.specs.Laws.{RangeGives}
use Rattle.running.specs.declared.passes.Pass as runs
use Rattle.treiber_stack.specs.Prelude.{AnswerPut, BacksOut, Call, Closed, Deeds, Ended, Event, FreeWord, Full, Line, Nothing, Operation, PassView}
use Rattle.treiber_stack.specs.Prelude.{PutClosed, PutFull, PutRefused, PutSpent, PutsRange, RangeAnswers, RangeRefused, Shape, Spent, TopWord, View}
use Rattle.treiber_stack.specs.Prelude.{call_of, ends, gave_back, handed_back, holds_of, made_refusal, own, pass_of, unplaced}
use Rattle.treiber_stack.specs.declared.bulk.range_steps.Held.{Held}
use Rattle.treiber_stack.specs.declared.bulk.range_steps.RangeEnd.TheVariants.{Barred as IsBarred}
use Rattle.treiber_stack.specs.declared.code.refusing.Barred.{Barred}
use Rattle.treiber_stack.specs.declared.code.refusing.Barred.TheVariants.{Closed as BarredClosed, Spent as BarredSpent}
use Rattle.treiber_stack.specs.Calls.{IsRange, WasRangeWith, WasRunWith, StackWith, machine_with, shape_of, pass_in}
use Rattle.treiber_stack.specs.code.Ranging.{NotPut, IsOver, IsRefused, PutsOf, places_from, putting}
use Rattle.treiber_stack.specs.code.Refusing.{barring, barring_range}
use Rattle.treiber_stack.specs.code.Steps.{IsSeatWith, as_pass}
use Rattle.treiber_stack.specs.code.KeepsAnswers.{adds_of}
use Rattle.treiber_stack.proofs.Filling.{some_in}
use Rattle.treiber_stack.proofs.Loading.{length_some, somes_taken, drop_some}

module _ {T : Type 0} where
  head_or : T → List T → T
  head_or d [] = d
  head_or d (x ∷ xs) = x

  tail_of : List T → List T
  tail_of [] = []
  tail_of (x ∷ xs) = xs

  -- values in front of the others are the first ones
  front_is : (us ws : List T) (k : ℕ) → k ≤ length ws → us ++ drop k ws ≡ ws → us ≡ take k ws
  unfolding head_or tail_of
  front_is [] ws zero h e = refl
  front_is [] [] (suc k) h e = absurd (omega arith)
  front_is [] (w ∷ ws) (suc k) h e = absurd (let l : length (drop k ws) ≡ suc (length ws) = ap length e in let d = length-drop k ws in omega (arith, l, d))
  front_is (u ∷ us) [] k h e = absurd (let l : suc (length (us ++ drop k [])) ≡ 0 = ap length e in omega (arith, l))
  front_is (u ∷ us) (w ∷ ws) zero h e = absurd (let l : suc (length (us ++ w ∷ ws)) ≡ suc (length ws) = ap length e in omega (arith, l, length-append us (w ∷ ws)))
  front_is (u ∷ us) (w ∷ ws) (suc k) h e = (λ t. ap (head_or u) e t ∷ front_is us ws k (omega arith) (ap tail_of e) t)

  all_in : (vs : List T) (k : ℕ) → k ≤ length vs → drop k vs ≡ [] → length vs ≡ k
  all_in [] zero h e = refl
  all_in [] (suc k) h e = absurd (omega arith)
  all_in (v ∷ vs) zero h e = absurd (let l : suc (length vs) ≡ 0 = ap length e in omega (arith, l))
  all_in (v ∷ vs) (suc k) h e = ap suc (all_in vs k (omega arith) e)

module _ {T : Type 0} (rule : List (Event T) → Type 0) {D : Type 0} (c : StackWith T D) (o : Operation T) {v : View T (Line T)} {begun : PassView T} where
  -- a refused put has given back what it took
  backs_out : (why : PutRefused (List T)) → Ended (machine_with rule c) o v begun (ends (AnswerPut (Err why))) → BacksOut begun (pass_of v) (length (handed_back why))
  backs_out why e =
      let made = made_refusal (pass_of v).number (own (pass_of v).number e.deeds.between) (call_of o) why e.deeds.made in
      record { held = made.nodes; at_most = made.at_most; adds = adds_of rule c.table.shared.key e (gave_back begun.number made.nodes) (made.is ∙ ap (λ (k : ℕ). gave_back k made.nodes) e.number) }

  -- no node could be had, and why nothing could be put
  not_put_spent : (vs : List T) (t : ℕ) → Ended (machine_with rule c) o v begun (ends (AnswerPut (Err (PutSpent vs FreeWord t)))) → NotPut (shape_of c) begun (length vs) (pass_of v) (Spent FreeWord t)
  not_put_spent vs t e = (backs_out (PutSpent vs FreeWord t) e, e.tells)

  not_put_barred : (vs : List T) (why : Barred) → Ended (machine_with rule c) o v begun (ends (AnswerPut (Err (barring why vs)))) → NotPut (shape_of c) begun (length vs) (pass_of v) (barring_range why)
  not_put_barred vs BarredClosed e = (backs_out (PutClosed vs) e, e.tells)
  not_put_barred vs (BarredSpent t) e = (backs_out (PutSpent vs TopWord t) e, e.tells)

  -- no node was free
  not_put_full : (vs : List T) → IsRange o vs → Ended (machine_with rule c) o v begun (ends (AnswerPut (Err (PutFull vs)))) → NotPut (shape_of c) begun (length vs) (pass_of v) Full
  not_put_full [] is e = absurd is
  not_put_full (x ∷ xs) is e =
      let deeds = subst (λ (k : Call T). Deeds (shape_of c) (pass_of v).number k (ends (AnswerPut (Err (PutFull (x ∷ xs))))) begun.seen (pass_of v).seen) is e.deeds in (
        record {
          number = e.number;
          steps = e.steps;
          between = deeds.between;
          seen = deeds.is;
          own_events = ap (λ (k : ℕ). own k deeds.between) (sym e.number) ∙ deeds.made.1;
        },
        e.tells,
      )

  -- the values that were put
  range_gives : (vs : List T) (chain : List ℕ) (k number : ℕ) → IsRange o vs → 0 < k → k ≤ length vs → length chain ≡ k
      → Ended (machine_with rule c) o v begun (ends (AnswerPut (Ok (number, unplaced (putting vs chain)))))
      → PutsFront (record { shape = shape_of c; from = begun; to = pass_of v }) (map Some vs) (places_from k vs) (record { number = number; count = k })
  range_gives [] chain k number is some few counted end = absurd is
  range_gives (x ∷ xs) chain k number is some few counted end =
      let vs : List T = x ∷ xs in
      let deeds = subst (λ (l : Call T). Deeds (shape_of c) (pass_of v).number l (ends (AnswerPut (Ok (number, unplaced (putting vs chain))))) begun.seen (pass_of v).seen) is end.deeds in
      let made = deeds.made in
      let put : made.values ≡ take k vs = front_is made.values vs k few (subst (λ (m : ℕ). made.values ++ drop m vs ≡ vs) counted made.all) in
      record {
        some_value = some;
        at_most = subst (λ (m : ℕ). k ≤ m) (sym (length_some vs)) few;
        gives = subst (λ (us : List T). RangeGives begun us (pass_of v) number) (put ∙ sym (somes_taken k vs)) (record {
          number = end.number;
          steps = end.steps;
          between = deeds.between;
          seen = deeds.is;
          own_events = ap (λ (j : ℕ). own j deeds.between) (sym end.number) ∙ made.is ∙ ap (λ (j : ℕ). Put j made.values number ∷ holds_of j (length made.values)) end.number;
        });
        places = ap (λ (ps : List (Slot T)). replicate k None ++ ps) (sym (drop_some k vs));
        all = ⊎_elim
            (λ none_left. inl (sym (all_in vs k few (subst (λ (m : ℕ). drop m vs ≡ []) counted none_left)) ∙ sym (length_some vs)))
            (λ full. inr full)
            deeds.all;
      }

-- a refusal of a range that is not empty
none_gives : {T : Type 0} (c : Shape) (v w : PassView T) (vs : List T) (why : RangeRefused) → 0 < length vs → NotPut c v (length vs) w why → PutsRange (record { shape = c; from = v; to = w }) (map Some vs) (map Some vs) (Err why)
none_gives c v w vs why h refusal = (refl, puts_none why (length (map Some vs)) (subst (λ (k : ℕ). 0 < k) (sym (length_some vs)) h) (subst (λ (k : ℕ). NotPut c v k w why) (sym (length_some vs)) refusal))
  where
    puts_none : (why : RangeRefused) (most : ℕ) → 0 < most → NotPut c v most w why → PutsNone (record { shape = c; from = v; to = w }) most why
    puts_none Nothing most some r = absurd r
    puts_none Full most some r = (some, r.0, r.1)
    puts_none Closed most some r = (some, r.0, r.1)
    puts_none (Spent word t) most some r = (some, r.0, r.1)

-- a put of a range has answered, and was run as one call
module _ {T : Type 0} (rule : List (Event T) → Type 0) {D : Type 0} (c : StackWith T D) (o : Operation T) (begun : PassView T) (p : runs.Pass T (Line T)) (vs : List T) (is : IsRange o vs) (on : IsSeatWith rule c p) where
  abbrev Ends : Result (ℕ × List T) (PutRefused (List T)) → Type 0
  Ends answer = Ended (machine_with rule c) o p.seat.me.0 begun (ends (AnswerPut answer))

  pub put_so : (chain : List ℕ) (k number : ℕ) → 0 < k → k ≤ length vs → length chain ≡ k → Ends (Ok (number, unplaced (putting vs chain))) → PutsOf rule c begun vs (places_from k vs) (as_pass p) (Ok (record { number = number; count = k }))
  put_so chain k number some few counted e = (
    record { on = on; keeps = tt },
    range_gives rule c o vs chain k number is some few counted e,
    e.answered,
    (o, is, subst (λ (j : ℕ). WasRunWith rule c o begun (as_pass p) (AnswerPut (Ok (number, drop j vs)))) counted (e.ran refl)),
  )

  none_so : (why : RangeRefused) → NotPut (shape_of c) begun (length vs) (pass_in (as_pass p)) why → RangeAnswers vs (Err why) begun (pass_in (as_pass p)) → WasRangeWith rule c begun vs (Err why) (as_pass p) → PutsOf rule c begun vs (map Some vs) (as_pass p) (Err why)
  none_so why refusal answers ran = (record { on = on; keeps = tt }, none_gives (shape_of c) begun (pass_in (as_pass p)) vs why (some_in o vs is) refusal, answers, ran)

  pub full_so : Ends (Err (PutFull vs)) → PutsOf rule c begun vs (map Some vs) (as_pass p) (Err Full)
  full_so e = none_so Full (not_put_full rule c o vs is e) e.answered (o, is, e.ran refl)

  pub spent_so : (t : ℕ) → Ends (Err (PutSpent vs FreeWord t)) → PutsOf rule c begun vs (map Some vs) (as_pass p) (Err (Spent FreeWord t))
  spent_so t e = none_so (Spent FreeWord t) (not_put_spent rule c o vs t e) e.answered (o, is, e.ran refl)

  pub barred_so : (why : Barred) → Ends (Err (barring why vs)) → PutsOf rule c begun vs (map Some vs) (as_pass p) (Err (barring_range why))
  barred_so BarredClosed e = none_so Closed (not_put_barred rule c o vs BarredClosed e) e.answered (o, is, e.ran refl)
  barred_so (BarredSpent t) e = none_so (Spent TopWord t) (not_put_barred rule c o vs (BarredSpent t) e) e.answered (o, is, e.ran refl)

-- a range whose values go back
pub is_refused : {T : Type 0} (rule : List (Event T) → Type 0) {D : Type 0} (c : StackWith T D) (o : Operation T) (v : PassView T) (p : runs.Pass T (Line T)) (vs : List T) (held : Held) (why : Barred) → IsOver rule c o v p vs held (IsBarred why) → IsRefused rule c o p vs held why
is_refused rule c o v p vs held why over = record { chain = over.chain; has = over.has; some_node = over.ends.0; at = over.ends.1.0 }

-- Each kind of step of the queue keeps the chain.
use Rattle.std.proofs.Common.{◌≡◌, ◌≢◌, ℕ, ◌<◌, ◌≤◌, true, false, List, [], ◌∷◌, ◌++◌, length, map, refl, sym, ap, ◌∙◌, subst, append_assoc, arith}
use Rattle.std.proofs.lemmas.Bool.{false≢true}
use Rattle.std.proofs.lemmas.List.{length-append, map-append}
use Rattle.tagged_index.specs.declared.word.TheConstants.{NULL}
use Rattle.bounded_model.specs.Machine.{without_first}
use Rattle.machine.specs.Words.{Tagged, raised, marked, with_second, store, times, Leads, Stands}
use Rattle.machine.proofs.Chains.{times_rest}
use Rattle.machine.proofs.Lists.{times_here, times_append, not_there, store_else, leads_frame, leads_append}
use Rattle.queue_machine.specs.Machine.{store_word}
use Rattle.queue_machine.specs.Rule.{Lists, IsChained}
use Rattle.queue_machine.proofs.Chain.{word_here, word_else, word_each, leads_cut, chain_length, tail_in}

map_frame : (f f' : ℕ → ℕ) (is : List ℕ) → ((j : ℕ) → 0 < times j is → f' j ≡ f j) → map f' is ≡ map f is
map_frame f f' [] h = refl
map_frame f f' (i ∷ is) h = let here = h i (omega (arith, times_here i is)) in let rest = map_frame f f' is (λ j there. h j (omega arith)) in rw (here, rest) refl

-- a list that is not empty keeps its first where something is put behind it
rest_append : (is js : List ℕ) → 0 < length is → without_first (is ++ js) ≡ without_first is ++ js
rest_append [] js h = absurd (omega arith)
rest_append (i ∷ is) js h = refl

-- the index that stands in a word
abbrev at : (ℕ → Tagged) → ℕ → ℕ
at next j = (next j).index

module _ {head tail : Tagged} {next : ℕ → Tagged} {cell : ℕ → ℕ} {g : Lists} (x : IsChained head tail next cell g) where
  -- a store into a held node
  pub store_cell_chained : (j c : ℕ) → times j g.chain ≡ 0 → IsChained head tail next (store cell j c) g
  store_cell_chained j c out = record {
    stands = x.stands;
    split = x.split;
    short = x.short;
    place = x.place;
    stored = x.stored ∙ sym (map_frame cell (store cell j c) (without_first g.chain) (λ i there. store_else cell j c i (not_there j i (without_first g.chain) (omega (arith, times_rest j g.chain)) there)));
    tidy = x.tidy;
  }

  pub store_next_chained : (j : ℕ) (y : Tagged) → times j g.chain ≡ 0 → (y.mark ≡ true → y.index ≡ NULL) → IsChained head tail (store_word next j y) cell g
  store_next_chained j y out tidy = record {
    stands = leads_frame (at next) (at (store_word next j y)) g.chain head.index NULL (λ i there. ap (λ (w : Tagged). w.index) (word_else next j y i (not_there j i g.chain out there))) x.stands;
    split = x.split;
    short = x.short;
    place = x.place;
    stored = x.stored;
    tidy = word_each (λ i w. w.mark ≡ true → w.index ≡ NULL) next j y tidy (λ i ne. x.tidy i);
  }

  -- Node j is linked behind the last one, which the tail names
  pub link_chained : (n : Tagged) (j : ℕ) → next tail.index ≡ n → n.mark ≡ false → g.after ≡ [] → times j g.chain ≡ 0 → times tail.index g.chain ≤ 1 → (next j).index ≡ NULL
      → IsChained head tail (store_word next tail.index (raised n j)) cell (record { cells = g.cells; nodes = g.nodes; chain = g.chain ++ (j ∷ []); before = g.before; after = j ∷ []; queued = g.queued ++ (cell j ∷ []) })
  link_chained n j is unmarked end out once null =
      let t = tail.index in
      let next' = store_word next t (raised n j) in
      let ne : j ≢ t = λ e. absurd (let q : times j g.chain ≡ times t g.chain = ap (λ (k : ℕ). times k g.chain) e in omega (arith, q, out, tail_in x)) in
      let split : g.chain ≡ g.before ++ (t ∷ []) = x.split ∙ ap (λ (is : List ℕ). g.before ++ t ∷ is) end in
      let first : Leads (at next) head.index g.before t = (leads_cut (at next) head.index g.before t g.after NULL (subst (λ (is : List ℕ). Leads (at next) head.index is NULL) x.split x.stands)).0 in
      let apart : times t g.before ≡ 0 = omega (arith, once, ap (times t) split, times_append t g.before (t ∷ []), times_here t []) in
      let first' : Leads (at next') head.index g.before t = leads_frame (at next) (at next') g.before head.index t (λ i there. ap (λ (w : Tagged). w.index) (word_else next t (raised n j) i (not_there t i g.before apart there))) first in
      let here : at next' t ≡ j = ap (λ (w : Tagged). w.index) (word_here next t (raised n j)) in
      let last' : Leads (at next') t (t ∷ j ∷ []) NULL = (refl, (here, ap (λ (w : Tagged). w.index) (word_else next t (raised n j) j ne) ∙ null)) in
      let whole : g.chain ++ (j ∷ []) ≡ g.before ++ t ∷ j ∷ [] = ap (λ (is : List ℕ). is ++ (j ∷ [])) split ∙ append_assoc g.before (t ∷ []) (j ∷ []) in
      record {
        stands = subst (λ (is : List ℕ). Stands (at next') head.index is) (sym whole) (leads_append (at next') head.index g.before t (t ∷ j ∷ []) NULL first' last');
        split = whole;
        short = omega arith;
        place = x.place;
        stored = ap (λ (is : List ℕ). is ++ (cell j ∷ [])) x.stored ∙ sym (map-append cell (without_first g.chain) (j ∷ [])) ∙ ap (map cell) (sym (rest_append g.chain (j ∷ []) (omega (arith, chain_length x))));
        tidy = word_each (λ i w. w.mark ≡ true → w.index ≡ NULL) next t (raised n j) (λ h. absurd (false≢true (sym unmarked ∙ h))) (λ i ne. x.tidy i);
      }

  -- the last link gets the mark
  pub close_chained : (n : Tagged) (i : ℕ) → next i ≡ n → n.index ≡ NULL → IsChained head tail (store_word next i (marked (raised n NULL))) cell g
  close_chained n i is null =
      let same : (j : ℕ) → at (store_word next i (marked (raised n NULL))) j ≡ at next j = word_each (λ j w. w.index ≡ at next j) next i (marked (raised n NULL)) (sym (ap (λ (w : Tagged). w.index) is ∙ null)) (λ j ne. refl) in
      record {
        stands = leads_frame (at next) (at (store_word next i (marked (raised n NULL)))) g.chain head.index NULL (λ j there. same j) x.stands;
        split = x.split;
        short = x.short;
        place = x.place;
        stored = x.stored;
        tidy = word_each (λ j w. w.mark ≡ true → w.index ≡ NULL) next i (marked (raised n NULL)) (λ h. refl) (λ j ne. x.tidy j);
      }

  -- the tail is moved on to the last node
  pub swing_chained : (i : ℕ) → g.after ≡ i ∷ [] → IsChained head (raised tail i) next cell (record { cells = g.cells; nodes = g.nodes; chain = g.chain; before = g.before ++ (tail.index ∷ []); after = []; queued = g.queued })
  swing_chained i is = record {
    stands = x.stands;
    split = x.split ∙ ap (λ (is : List ℕ). g.before ++ tail.index ∷ is) is ∙ sym (append_assoc g.before (tail.index ∷ []) (i ∷ []));
    short = omega arith;
    place = omega (arith, x.place, length-append g.before (tail.index ∷ []));
    stored = x.stored;
    tidy = x.tidy;
  }

  -- the head is exchanged for the first node, which the tail has come to: the dummy leaves the chain
  pub record Taken (n : Tagged) : Type 0 where
    pub chain : List ℕ
    pub before : List ℕ
    pub queued : List ℕ
    pub chain_is : g.chain ≡ head.index ∷ chain
    pub before_is : g.before ≡ head.index ∷ before
    pub queued_is : g.queued ≡ cell n.index ∷ queued
    pub chained : IsChained (raised head n.index) tail next cell (record { cells = g.cells; nodes = g.nodes; chain = chain; before = before; after = g.after; queued = queued })

  pub take_chained : (n : Tagged) → next head.index ≡ n → head.tag < tail.tag → Taken n
  take_chained n is some_before = by_cases g.before g.chain refl x.split (omega (arith, x.place)) x.stands x.stored
    where
      -- the rest of the chain begins with the node that is the new dummy
      rest_by : (before : List ℕ) (rest : List ℕ) → g.before ≡ head.index ∷ before → g.chain ≡ head.index ∷ rest → rest ≡ before ++ tail.index ∷ g.after → Stands (at next) (at next head.index) rest → g.queued ≡ map cell rest → Taken n
      rest_by before [] b c s leads stored = absurd (omega (arith, ap length s, length-append before (tail.index ∷ g.after)))
      rest_by before (i ∷ rest) b c s leads stored =
          let new : i ≡ n.index = sym leads.0 ∙ ap (λ (w : Tagged). w.index) is in
          record {
            chain = i ∷ rest;
            before = before;
            queued = map cell rest;
            chain_is = c;
            before_is = b;
            queued_is = stored ∙ ap (λ (k : ℕ). cell k ∷ map cell rest) new;
            chained = record {
              stands = (sym new, leads.1);
              split = s;
              short = x.short;
              place = omega (arith, x.place, ap length b);
              stored = refl;
              tidy = x.tidy;
            };
          }

      by_cases : (before chain : List ℕ) → g.before ≡ before → g.chain ≡ before ++ tail.index ∷ g.after → 0 < length before → Stands (at next) head.index g.chain → g.queued ≡ map cell (without_first g.chain) → Taken n
      by_cases [] chain b c some_node stands stored = absurd (omega arith)
      by_cases (i ∷ before) chain b c some_node stands stored =
          let leads : Stands (at next) head.index (i ∷ (before ++ tail.index ∷ g.after)) = subst (Stands (at next) head.index) c stands in
          let first : i ≡ head.index = sym leads.0 in
          rest_by before (before ++ tail.index ∷ g.after)
          (b ∙ ap (λ (k : ℕ). k ∷ before) first)
          (c ∙ ap (λ (k : ℕ). k ∷ (before ++ tail.index ∷ g.after)) first)
          refl
          (subst (λ (k : ℕ). Stands (at next) (at next k) (before ++ tail.index ∷ g.after)) first leads.1)
          (stored ∙ ap (λ (is : List ℕ). map cell (without_first is)) c)

  pub shut_chained : IsChained (with_second head) tail next cell g
  shut_chained = record { stands = x.stands; split = x.split; short = x.short; place = x.place; stored = x.stored; tidy = x.tidy }

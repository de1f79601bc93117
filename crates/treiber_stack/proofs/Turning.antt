-- A fold takes the chain, and one from the bottom up turns it round.
use Rattle.std.proofs.Common.{◌≡◌, ◌≢◌, ℕ, ◌<◌, ◌≤◌, true, false, List, [], ◌∷◌, ◌++◌, length, reverse, refl, sym, ap, ◌∙◌, subst, append_assoc, append-nil, ne_eqb, eq-eqb, cond, arith}
use Rattle.std.proofs.lemmas.List.{reverse-append, reverse-reverse, length-reverse}
use Rattle.std.specs.Prelude.{Option as Slot, Ok, map}
use mathlib.Core.Option.{some}
use Rattle.index_list.specs.declared.front.Front.TheVariants.{First, Last}
use Rattle.machine.proofs.Chains.{times_reverse}
use Rattle.stack_machine.specs.declared.lines.Direction.{Direction}
use Rattle.stack_machine.specs.declared.lines.Direction.TheVariants.{Down, Up}
use Rattle.stack_table.specs.Lines.{won_chain}
use Rattle.stack_table.specs.Slots.{IsWhole}
use Rattle.stack_table.proofs.Slots.{numbers_full}
use Rattle.treiber_stack.specs.Prelude.{AnswerFold, FoldFirst, Front, IsHand, Links, LoadLinkToFold, LoadLinkToTurn, LoadTopToTake, NULL, On, Outcome}
use Rattle.treiber_stack.specs.Prelude.{Whole, direction, fields_of, first, full, in_order, index_of, length_in_order, numbers, slot_values, tag_of}
use Rattle.treiber_stack.specs.Prelude.{times, times_append, values_full, values_of}
use Rattle.treiber_stack.specs.declared.bulk.folding.Batch.{Batch}
use Rattle.treiber_stack.specs.declared.bulk.folding.Walk.{Walk}
use Rattle.treiber_stack.specs.declared.bulk.folding.FoldAt.TheVariants.{TakeAll, LoadToTurn, TurnLink, LoadToFold}
use Rattle.treiber_stack.specs.code.Folding.{nodes_of, folded_of, folding, IsBatch, IsTurning}
use Rattle.treiber_stack.specs.Calls.{StackWith, room_of}
use Rattle.treiber_stack.proofs.Folds.{Folding}
use Rattle.treiber_stack.proofs.Walking.{is_there, goes_further, ends_here, walk_start}

-- nodes in hand are so in either order
hand_in_order : {T : Type 0} (n : ℕ) (d : Direction) (chain : List ℕ) (values : List T) → IsHand n chain values → IsHand n (in_order d chain) (in_order d values)
hand_in_order n Down chain values h = h
hand_in_order n Up chain values h = record {
  low = λ i there. h.low i (subst (λ (k : ℕ). 0 < k) (times_reverse i chain) there);
  once = λ i. subst (λ (k : ℕ). k ≤ 1) (sym (times_reverse i chain)) (h.once i);
  few = subst (λ (k : ℕ). k ≤ n) (sym (length-reverse chain)) h.few;
  as_many = length-reverse chain ∙ h.as_many ∙ sym (length-reverse values);
}

module _ {T : Type 0} {D : Type 0} (c : StackWith T D) where
  abbrev n : ℕ
  n = room_of c

  -- these slots came with the top w
  module _ (front : Front) (w : ℕ) (b : Batch T) (came : List (ℕ × Slot T)) (whole : IsWhole n (index_of w) (direction front) came) (taken : b.taken.value.me.1 ≡ came) where
    abbrev d : Direction
    d = direction front

    as_many : length (in_order d whole.chain) ≡ length (in_order d whole.values)
    as_many = length_in_order d whole.chain ∙ whole.hand.as_many ∙ sym (length_in_order d whole.values)

    nodes_are : nodes_of b ≡ in_order d whole.chain
    nodes_are = ap (λ (zs : List (ℕ × Slot T)). numbers zs) (taken ∙ whole.slots) ∙ numbers_full (in_order d whole.chain) (in_order d whole.values) as_many

    values_are : folded_of b ≡ in_order d whole.values
    values_are = ap (λ (zs : List (ℕ × Slot T)). values_of (map some (slot_values zs))) (taken ∙ whole.slots) ∙ values_full false (in_order d whole.chain) (in_order d whole.values) as_many

    batch : IsBatch n b
    batch = record {
      slots = taken ∙ whole.slots ∙ (λ t. full (sym nodes_are t) (sym values_are t));
      hand = subst (λ (is : List ℕ). IsHand n is (folded_of b)) (sym nodes_are) (subst (λ (vs : List T). IsHand n (in_order d whole.chain) vs) (sym values_are) (hand_in_order n d whole.chain whole.values whole.hand));
    }

    turned_values : values_of (map some (reverse (slot_values came))) ≡ reverse (folded_of b)
    turned_values = ap (λ (zs : List (ℕ × Slot T)). values_of (map some (reverse (slot_values zs)))) whole.slots ∙ values_full true (in_order d whole.chain) (in_order d whole.values) as_many ∙ ap (λ (vs : List T). reverse vs) (sym values_are)

  -- the exchange of the top has won
  module _ (r : Outcome) (had : List (ℕ × Slot T)) (won : r.won ≡ true) (w index : ℕ) (indexed : index ≡ index_of w) (b : Batch T) (numbered : b.number ≡ tag_of w) (taken : b.taken.value.me.1 ≡ had) where
    pub won_down : b.front ≡ First → (walk : Walk T) → walk.first ≡ index → walk.index ≡ index → walk.count ≡ 0 → walk.held.value.me.1 ≡ had → Folding c (TakeAll First w) r had had (On (LoadToFold b walk))
    won_down down walk start at none held = λ found came f.
        let is = (f.1 won).0 ∙ append-nil came in
        let whole = (f.1 won).1 in
        let all = batch First w b came whole (taken ∙ is) in
        record {
          same = ap FoldFirst down;
          is = ap (λ t. cond t (won_chain Down (fields_of w) came) (LoadTopToTake (Whole Down))) (f.0 ∙ won)
              ∙ (λ t. LoadLinkToFold (record { chain = numbers (sym (taken ∙ is) t); answer = AnswerFold (Ok (values_of (map some (slot_values (sym (taken ∙ is) t))), sym numbered t)) }) (sym (at ∙ indexed) t));
          busy = refl;
          hand = sym held;
          knows = walk_start n b walk whole.others all (nodes_are First w b came whole (taken ∙ is) ∙ whole.begins ∙ ap (λ (i : ℕ). i ∷ whole.others) (sym (at ∙ indexed))) (start ∙ sym at) none (held ∙ sym taken);
        }

    pub won_up : b.front ≡ Last → Folding c (TakeAll Last w) r had had (On (LoadToTurn b NULL index))
    won_up up = λ found came f.
        let is = (f.1 won).0 ∙ append-nil came in
        let whole = (f.1 won).1 in
        let all = batch Last w b came whole (taken ∙ is) in
        let values : reverse (values_of (map some (reverse (slot_values came)))) ≡ folded_of b = ap (λ (vs : List T). reverse vs) (turned_values Last w b came whole (taken ∙ is)) ∙ reverse-reverse (folded_of b) in
        let parts : reverse (nodes_of b) ≡ index ∷ whole.others = ap (λ (xs : List ℕ). reverse xs) (nodes_are Last w b came whole (taken ∙ is)) ∙ reverse-reverse whole.chain ∙ whole.begins ∙ ap (λ (i : ℕ). i ∷ whole.others) (sym indexed) in
        record {
          same = ap FoldFirst up;
          is = ap (λ t. cond t (won_chain Up (fields_of w) came) (LoadTopToTake (Whole Up))) (f.0 ∙ won)
              ∙ (λ t. LoadLinkToTurn (record { chain = reverse (numbers (sym (taken ∙ is) t)); answer = AnswerFold (Ok (values t, sym numbered t)) }) NULL (sym indexed t));
          busy = refl;
          hand = sym taken;
          knows = (whole.others, record { batch = all; turned = []; parts = parts; low = whole.hand.low index (is_there whole.chain [] whole.others index (whole.begins ∙ ap (λ (i : ℕ). i ∷ whole.others) (sym indexed))); small = omega arith });
        }

  -- the chain is turned round, a node by two steps
  module _ (b : Batch T) (above index : ℕ) (r : Outcome) (had : List (ℕ × Slot T)) where
    pub turn_loads : (others : List ℕ) → IsTurning n b above index others → (r.word ≤ NULL) × Links (reverse (nodes_of b)) index r.word → Folding c (LoadToTurn b above index) r had had (On (TurnLink b above index r.word))
    turn_loads others t says = λ kept. record { same = refl; is = refl; busy = refl; hand = kept; knows = (others, t, says.1 (reverse t.turned) others t.parts, says.0) }

    module _ (below : ℕ) (others : List ℕ) (t : IsTurning n b above index others) (names : below ≡ first others) where
      pub turn_goes : below ≢ NULL → Folding c (TurnLink b above index below) r had had (On (LoadToTurn b index below))
      turn_goes ne =
          let more = goes_further below others names ne in
          let low = t.low in
          let most = c.table.shared.key.capacity_in_range in
          let here = is_there (reverse (nodes_of b)) (reverse t.turned ++ index ∷ []) more.0 below parts in λ kept. record {
            same = refl;
            is = ap (λ k. cond k (LoadLinkToFold (folding b (reverse (reverse (nodes_of b)))) index) (LoadLinkToTurn (folding b (reverse (nodes_of b))) index below)) (ne_eqb below NULL ne);
            busy = refl;
            hand = kept;
            knows = (
              more.0,
              record {
                batch = t.batch;
                turned = index ∷ t.turned;
                parts = parts ∙ ap (λ (xs : List ℕ). xs ++ below ∷ more.0) (sym (reverse-append (index ∷ []) t.turned));
                low = t.batch.hand.low below (subst (λ (k : ℕ). 0 < k) (times_reverse below (nodes_of b)) here);
                small = omega arith;
              },
            );
          }
        where
          parts : reverse (nodes_of b) ≡ (reverse t.turned ++ index ∷ []) ++ below ∷ (goes_further below others names ne).0
          parts = t.parts ∙ ap (λ (xs : List ℕ). reverse t.turned ++ index ∷ xs) (goes_further below others names ne).1 ∙ sym (append_assoc (reverse t.turned) (index ∷ []) (below ∷ (goes_further below others names ne).0))

      pub turn_ends : below ≡ NULL → (walk : Walk T) → walk.first ≡ index → walk.index ≡ index → walk.count ≡ 0 → walk.held.value.me.1 ≡ had → Folding c (TurnLink b above index below) r had had (On (LoadToFold b walk))
      turn_ends e walk start at none held =
          let most = c.table.shared.key.capacity_in_range in
          let last = ends_here below others names e (λ j there. let l = t.batch.hand.low j (let s : times j (reverse (nodes_of b)) ≡ times j (reverse t.turned ++ index ∷ others) = ap (times j) t.parts in omega (arith, s, times_reverse j (nodes_of b), times_append j (reverse t.turned) (index ∷ others))) in omega arith) in
          let parts : nodes_of b ≡ index ∷ t.turned = sym (reverse-reverse (nodes_of b)) ∙ ap (λ (xs : List ℕ). reverse xs) (t.parts ∙ ap (λ (xs : List ℕ). reverse t.turned ++ index ∷ xs) last) ∙ reverse-append (reverse t.turned) (index ∷ []) ∙ ap (λ (xs : List ℕ). index ∷ xs) (reverse-reverse t.turned) in
          λ kept. record {
            same = refl;
            is = ap (λ k. cond k (LoadLinkToFold (folding b (reverse (reverse (nodes_of b)))) index) (LoadLinkToTurn (folding b (reverse (nodes_of b))) index below)) (eq-eqb below NULL e)
                ∙ (λ t. LoadLinkToFold (folding b (reverse-reverse (nodes_of b) t)) (sym at t));
            busy = refl;
            hand = sym held;
            knows = walk_start n b walk t.turned t.batch (parts ∙ ap (λ (i : ℕ). i ∷ t.turned) (sym at)) (start ∙ sym at) none (held ∙ kept);
          }

-- A fold's walk along its chain.
use Rattle.std.proofs.Common.{◌≡◌, ◌≢◌, ℕ, suc, ◌+◌, ◌<◌, ◌≤◌, List, [], ◌∷◌, ◌++◌, length, refl, sym, ap, ◌∙◌, subst, append_assoc, append-nil, length-append, ne_eqb, eq-eqb, cond, arith}
use Rattle.std.specs.Prelude.{take, Option as Slot, Some, None}
use Rattle.treiber_stack.specs.Prelude.{Done, Links, LoadFreeToGive, LoadLinkToFold, NULL, Outcome, first, first_in, full, last, rest, times}
use Rattle.treiber_stack.specs.Prelude.{times_append, times_here, vacant, vacant_append}
use Rattle.treiber_stack.specs.declared.bulk.folding.Batch.{Batch}
use Rattle.treiber_stack.specs.declared.bulk.folding.Walk.{Walk}
use Rattle.treiber_stack.specs.declared.bulk.folding.FoldAt.TheVariants.{LoadToFold, GiveBack}
use Rattle.treiber_stack.specs.declared.bulk.folding.FoldStop.TheVariants.{Yields}
use Rattle.treiber_stack.specs.declared.code.giving.Chain.{Chain}
use Rattle.treiber_stack.specs.declared.code.giving.Give.TheVariants.{Load}
use Rattle.treiber_stack.specs.code.Folding.{nodes_of, folded_of, folding, IsBatch, IsWalking, FoldTold}
use Rattle.treiber_stack.specs.code.Giving.{AreNodes}
use Rattle.treiber_stack.specs.Calls.{StackWith, room_of, limit_of}
use Rattle.treiber_stack.proofs.Folds.{Folding}

abbrev value_of : {T : Type 0} → T → List (ℕ × Slot T) → T
value_of d [] = d
value_of d ((i, None) ∷ zs) = d
value_of d ((i, Some v) ∷ zs) = v

some_value : {T : Type 0} (vs : List T) → 0 < length vs → (v : T) × (rest : List T) × (vs ≡ v ∷ rest)
some_value [] h = absurd (omega arith)
some_value (v ∷ vs) h = (v, vs, refl)

no_value : {T : Type 0} (vs : List T) → length vs ≡ 0 → vs ≡ []
no_value [] z = refl
no_value (v ∷ vs) z = absurd (omega arith)

take_front : {T : Type 0} (xs ys : List T) → take (length xs) (xs ++ ys) ≡ xs
take_front [] ys = refl
take_front (x ∷ xs) ys = ap (λ (zs : List _). x ∷ zs) (take_front xs ys)

last_of : (xs : List ℕ) (i : ℕ) → last (xs ++ i ∷ []) ≡ i
last_of [] i = refl
last_of (x ∷ []) i = refl
last_of (x ∷ y ∷ xs) i = last_of (y ∷ xs) i

-- a node is on a chain
pub is_there : (chain before after : List ℕ) (i : ℕ) → chain ≡ before ++ i ∷ after → 0 < times i chain
is_there chain before after i parts = let e : times i chain ≡ times i (before ++ i ∷ after) = ap (times i) parts in omega (arith, e, times_append i before (i ∷ after), times_here i after)

-- what a link names, by the rest of its chain
pub goes_further : (next : ℕ) (others : List ℕ) → next ≡ first others → next ≢ NULL → (more : List ℕ) × (others ≡ next ∷ more)
goes_further next [] e ne = absurd (ne e)
goes_further next (j ∷ js) e ne = (js, λ t. sym e t ∷ js)

pub ends_here : (next : ℕ) (others : List ℕ) → next ≡ first others → next ≡ NULL → ((j : ℕ) → 0 < times j others → j < NULL) → others ≡ []
ends_here next [] e null low = refl
ends_here next (j ∷ js) e null low = absurd (let l = low j (let t = times_here j js in omega arith) in omega arith)

-- a walk that is to begin
pub walk_start : {T : Type 0} (n : ℕ) (b : Batch T) (walk : Walk T) (others : List ℕ) → IsBatch n b → nodes_of b ≡ walk.index ∷ others → walk.first ≡ walk.index → walk.count ≡ 0 → walk.held.value.me.1 ≡ b.taken.value.me.1 → IsWalking n b walk
walk_start n b walk others batch parts start none held =
    let many : 0 < length (folded_of b) = let h = batch.hand.as_many in let k : length (nodes_of b) ≡ suc (length others) = ap length parts in omega arith in
    let v = some_value (folded_of b) many in
    record {
      batch = batch;
      done = [];
      others = others;
      value = v.0;
      values = v.1;
      held = held ∙ batch.slots ∙ (λ t. full (parts t) (v.2 t)) ∙ sym (append-nil (full (walk.index ∷ others) (v.0 ∷ v.1)));
      begins = ap first parts ∙ sym start;
      parts = parts;
      order = v.2 ∙ ap (λ (k : ℕ). take k (folded_of b) ++ v.0 ∷ v.1) (sym none);
      counted = sym none;
      as_many = ap (λ (k : ℕ). length (take k (folded_of b))) none ∙ sym none;
      low = batch.hand.low walk.index (is_there (nodes_of b) [] others walk.index parts);
    }

-- the value of the node that it has come to moves out, and the slot goes behind the others
module _ {T : Type 0} {D : Type 0} (c : StackWith T D) (b : Batch T) (walk : Walk T) (W : IsWalking (room_of c) b walk) (r : Outcome) (had has : List (ℕ × Slot T)) (x : T) (value : had ≡ (walk.index, Some x) ∷ rest had) (out : has ≡ rest had ++ (walk.index, None) ∷ []) (kept : had ≡ walk.held.value.me.1)
    (says : (r.word ≤ NULL) × Links (nodes_of b) walk.index r.word) where
  abbrev n : ℕ
  n = room_of c

  abbrev index : ℕ
  index = walk.index

  abbrev gone : List T
  gone = take walk.count (folded_of b)

  same_value : x ≡ W.value
  same_value = sym (ap (value_of x) value) ∙ ap (value_of x) (kept ∙ W.held)

  names : r.word ≡ first W.others
  names = says.1 W.done W.others W.parts

  slots_are : has ≡ full W.others W.values ++ vacant (W.done ++ index ∷ [])
  slots_are = out ∙ ap (λ (zs : List (ℕ × Slot T)). rest zs ++ (index, None) ∷ []) (kept ∙ W.held)
      ∙ append_assoc (full W.others W.values) (vacant W.done) ((index, None) ∷ [])
      ∙ ap (λ (zs : List (ℕ × Slot T)). full W.others W.values ++ zs) (sym (vacant_append W.done (index ∷ [])))

  parted : folded_of b ≡ (gone ++ W.value ∷ []) ++ W.values
  parted = W.order ∙ sym (append_assoc gone (W.value ∷ []) W.values)

  one_more : length (gone ++ W.value ∷ []) ≡ walk.count + 1
  one_more = length-append gone (W.value ∷ []) ∙ ap (λ (k : ℕ). k + 1) W.as_many

  gone_more : take (walk.count + 1) (folded_of b) ≡ gone ++ W.value ∷ []
  gone_more = (λ t. take (sym one_more t) (parted t)) ∙ take_front (gone ++ W.value ∷ []) W.values

  left_over : length W.values ≡ length W.others
  left_over =
      let a = W.batch.hand.as_many in
      let d : length (nodes_of b) ≡ length (W.done ++ index ∷ W.others) = ap length W.parts in
      let e : length (folded_of b) ≡ length (gone ++ W.value ∷ W.values) = ap length W.order in
      let f = W.as_many in
      let k = W.counted in
      omega (arith, a, d, e, f, k, length-append W.done (index ∷ W.others), length-append gone (W.value ∷ W.values))

  -- it goes on to the next node
  module _ (walk' : Walk T) (start : walk'.first ≡ walk.first) (to : walk'.index ≡ r.word) (counts : walk'.count ≡ walk.count + 1) (holds : walk'.held.value.me.1 ≡ has) (ne : r.word ≢ NULL) where
    more : (js : List ℕ) × (W.others ≡ walk'.index ∷ js)
    more = let e = goes_further r.word W.others names ne in (e.0, e.1 ∙ ap (λ (k : ℕ). k ∷ e.0) (sym to))

    walks_on : IsWalking n b walk'
    walks_on =
        let many : 0 < length W.values = let k : length W.others ≡ suc (length more.0) = ap length more.1 in let l = left_over in omega arith in
        let v = some_value W.values many in
        let parts : nodes_of b ≡ (W.done ++ index ∷ []) ++ walk'.index ∷ more.0 = W.parts ∙ ap (λ (xs : List ℕ). W.done ++ index ∷ xs) more.1 ∙ sym (append_assoc W.done (index ∷ []) (walk'.index ∷ more.0)) in
        record {
          batch = W.batch;
          done = W.done ++ index ∷ [];
          others = more.0;
          value = v.0;
          values = v.1;
          held = holds ∙ slots_are ∙ (λ t. full (more.1 t) (v.2 t) ++ vacant (W.done ++ index ∷ []));
          begins = W.begins ∙ sym start;
          parts = parts;
          order = parted ∙ (λ t. sym gone_so t ++ v.2 t);
          counted = length-append W.done (index ∷ []) ∙ ap (λ (k : ℕ). k + 1) W.counted ∙ sym counts;
          as_many = ap length gone_so ∙ one_more ∙ sym counts;
          low = W.batch.hand.low walk'.index (is_there (nodes_of b) (W.done ++ index ∷ []) more.0 walk'.index parts);
        }
      where
        gone_so : take walk'.count (folded_of b) ≡ gone ++ W.value ∷ []
        gone_so = ap (λ (k : ℕ). take k (folded_of b)) counts ∙ gone_more

    pub yields_more : Folding c (LoadToFold b walk) r had has (Done (Yields x (LoadToFold b walk')))
    yields_more = λ same. record {
      is = ap (λ t. cond t (LoadFreeToGive (folding b (nodes_of b))) (LoadLinkToFold (folding b (nodes_of b)) r.word)) (ne_eqb r.word NULL ne) ∙ ap (LoadLinkToFold (folding b (nodes_of b))) (sym to);
      hand = sym holds;
    }

    pub tells_more : FoldTold n (limit_of c) b.front gone (Yields x (LoadToFold b walk'))
    tells_more = (walks_on, refl, ap (λ (k : ℕ). take k (folded_of b)) counts ∙ gone_more ∙ ap (λ (v : T). gone ++ v ∷ []) (sym same_value))

  -- or that was the last one
  module _ (e : r.word ≡ NULL) (chain : Chain) (is : chain ≡ record { first = walk.first; last = index }) (k : ℕ) (counts : k ≡ walk.count + 1) where
    none : W.others ≡ []
    none =
        let most = c.table.shared.key.capacity_in_range in
        ends_here r.word W.others names e (λ j there. let l = W.batch.hand.low j (let t : times j (nodes_of b) ≡ times j (W.done ++ index ∷ W.others) = ap (times j) W.parts in omega (arith, t, times_append j W.done (index ∷ W.others))) in omega arith)

    nothing : W.values ≡ []
    nothing = no_value W.values (left_over ∙ ap length none)

    parts : nodes_of b ≡ W.done ++ index ∷ []
    parts = W.parts ∙ ap (λ (xs : List ℕ). W.done ++ index ∷ xs) none

    nodes : AreNodes n (nodes_of b) chain
    nodes =
        let some_node : 0 < length (nodes_of b) = let k : length (nodes_of b) ≡ length (W.done ++ index ∷ []) = ap length parts in omega (arith, k, length-append W.done (index ∷ [])) in
        subst (AreNodes n (nodes_of b)) (sym is) (record {
          begins = W.begins;
          ends = ap last parts ∙ last_of W.done index;
          first_low = subst (λ (k : ℕ). k < n) W.begins (W.batch.hand.low (first (nodes_of b)) (first_in (nodes_of b) some_node));
          last_low = W.low;
        })

    pub yields_last : Folding c (LoadToFold b walk) r had has (Done (Yields x (GiveBack b chain k Load)))
    yields_last = λ same. record {
      is = ap (λ t. cond t (LoadFreeToGive (folding b (nodes_of b))) (LoadLinkToFold (folding b (nodes_of b)) r.word)) (eq-eqb r.word NULL e);
      hand = slots_are ∙ (λ t. full (none t) (nothing t) ++ vacant (W.done ++ index ∷ [])) ∙ ap (λ (xs : List ℕ). vacant xs) (sym parts);
    }

    whole : folded_of b ≡ gone ++ W.value ∷ []
    whole = parted ∙ ap (λ (vs : List T). (gone ++ W.value ∷ []) ++ vs) nothing ∙ append-nil (gone ++ W.value ∷ [])

    pub tells_last : FoldTold n (limit_of c) b.front gone (Yields x (GiveBack b chain k Load))
    tells_last = ((W.batch, nodes, ap length whole ∙ one_more ∙ sym counts), refl, whole ∙ ap (λ (v : T). gone ++ v ∷ []) (sym same_value))

-- The values along the chain of a closed table are the queue's.
use Rattle.std.proofs.Common.{◌≡◌, ℕ, zero, suc, ◌+◌, ◌<◌, ◌≤◌, cond, ltb, List, [], ◌∷◌, length, map, set, refl, sym, ap, ◌∙◌, subst, arith}
use Rattle.std.proofs.lemmas.Bool.Decides.{nat_tests}
use Rattle.std.specs.Prelude.{slice_index, Option as Slot, Some, None}
use mathlib.Core.Option.{Option, none, some, some-injective, some-ne-none}
use lib.ListN.{get_elem?}
use Rattle.atomic_table.specs.Table.{Final, Seen}
use Rattle.atomic_table.proofs.Lists.{set_else, set_again}
use Rattle.bounded_model.specs.Machine.{state, without_first}
use Rattle.bounded_model.specs.Laws.{IsSound, Leaves}
use Rattle.machine.specs.declared.seats.View.TheVariants.{AtRoot}
use Rattle.machine.specs.Words.{times, Leads}
use Rattle.machine.specs.Chains.{HasValues}
use Rattle.machine.specs.Seats.{Acts, nothing, Rooted, Knows}
use Rattle.machine.proofs.Tests.{cases}
use Rattle.machine.proofs.Lists.{times_here, not_there}
use Rattle.machine.proofs.Chains.{values_frame, times_rest}
use Rattle.machine.proofs.SeatedEnds.{leaves}
use Rattle.queue_machine.specs.Answers.{shape}
use Rattle.queue_machine.proofs.Chain.{head_in}
use Rattle.queue_machine.proofs.Linked.{head_below, node_below}
use Rattle.running.specs.Rule.{Rule}
use Rattle.queue_table.specs.Layout.{head_at}
use Rattle.queue_table.specs.Memories.{at_home}
use Rattle.ms_queue.specs.Prelude.{Event, Line, NULL, RootView, View, index_of, next_at, queue_with}
use Rattle.ms_queue.specs.code.Left.{node_behind, cell_of, count_full, slot_of, in_front, values_from, left_along}

pub word_at : (words : List ℕ) (i n : ℕ) → get_elem? words i ≡ some n → slice_index words i ≡ n
word_at [] i n e = absurd (some-ne-none n (sym e))
word_at (w ∷ words) zero n e = some-injective w n e
word_at (w ∷ words) (suc i) n e = word_at words i n e

pub no_slot_past : {A : Type 0} (xs : List A) (i : ℕ) → length xs ≤ i → get_elem? xs i ≡ none
no_slot_past [] i h = refl
no_slot_past (x ∷ xs) zero h = absurd (omega arith)
no_slot_past (x ∷ xs) (suc i) h = no_slot_past xs i (omega arith)

-- the chain behind the first node
behind_first : (next : ℕ → ℕ) (x : ℕ) (chain : List ℕ) → 0 < times x chain → Leads next x chain NULL → Leads next (next x) (without_first chain) NULL
behind_first next x [] there stands = absurd (omega arith)
behind_first next x (d ∷ js) there stands = subst (λ (y : ℕ). Leads next (next y) js NULL) (sym stands.0) stands.1

module _ {T : Type 0} where
  count_taken : (slots : List (Slot T)) (i : ℕ) (v : T) → get_elem? slots i ≡ some (Some v) → count_full slots ≡ suc (count_full (set slots i None))
  count_taken [] i v e = absurd (some-ne-none (Some v) (sym e))
  count_taken (None ∷ slots) zero v e = let q : None ≡ Some v = some-injective None (Some v) e in absurd cc
  count_taken (None ∷ slots) (suc i) v e = count_taken slots i v e
  count_taken (Some w ∷ slots) zero v e = refl
  count_taken (Some w ∷ slots) (suc i) v e = ap suc (count_taken slots i v e)

  length_set : (slots : List (Slot T)) (i : ℕ) (x : Slot T) → length (set slots i x) ≡ length slots
  length_set [] i x = refl
  length_set (y ∷ slots) zero x = refl
  length_set (y ∷ slots) (suc i) x = ap suc (length_set slots i x)

  -- the slot of a node's cell, and of what is no node
  slot_there : (words : List ℕ) (slots : List (Slot T)) (j : ℕ) → j ≤ length slots → slot_of words slots j ≡ get_elem? slots (cell_of words j)
  slot_there words slots j low = cases (λ v. v ≡ get_elem? slots (cell_of words j)) (ltb (length slots) j) none (get_elem? slots (cell_of words j)) (λ b. absurd (grind (arith, nat_tests))) (λ _. refl)

  pub slot_past : (words : List ℕ) (slots : List (Slot T)) (j : ℕ) → length slots < j → slot_of words slots j ≡ none
  slot_past words slots j high = cases (λ v. v ≡ none) (ltb (length slots) j) none (get_elem? slots (cell_of words j)) (λ _. refl) (λ b. absurd (grind (arith, nat_tests)))

  slot_none : (words : List ℕ) (slots : List (Slot T)) (j : ℕ) → length slots ≤ cell_of words j → slot_of words slots j ≡ none
  slot_none words slots j high = cases (λ v. v ≡ none) (ltb (length slots) j) none (get_elem? slots (cell_of words j)) (λ _. refl) (λ _. no_slot_past slots (cell_of words j) high)

  -- no value follows where there is none
  pub values_end : (words : List ℕ) (most : ℕ) (slots : List (Slot T)) (j : ℕ) (o : Option (Slot T)) → slot_of words slots j ≡ o → ((others : List T) → in_front o others ≡ []) → values_from words most slots j ≡ []
  values_end words zero slots j o e ends = refl
  values_end words (suc most) slots j o e ends =
      let others : List T = values_from words most (set slots (cell_of words j) None) (node_behind words j) in
      ap (λ (x : Option (Slot T)). in_front x others) e ∙ ends others

  -- `next` where the cell is none
  pub left_none : (words : List ℕ) (slots : List (Slot T)) (j : ℕ) → length slots ≤ cell_of words j → left_along words slots j ≡ []
  left_none words slots j high = values_end words (count_full slots) slots j none (slot_none words slots j high) (λ _. refl)

  -- a value is followed by those from the next node on
  values_next : (words : List ℕ) (slots : List (Slot T)) (j : ℕ) (v : T) → j ≤ length slots → get_elem? slots (cell_of words j) ≡ some (Some v)
      → left_along words slots j ≡ v ∷ left_along words (set slots (cell_of words j) None) (node_behind words j)
  values_next words slots j v low e =
      let after : List (Slot T) = set slots (cell_of words j) None in
      let others : List T = left_along words after (node_behind words j) in
      ap (λ (k : ℕ). values_from words k slots j) (count_taken slots (cell_of words j) v e) ∙ ap (λ (x : Option (Slot T)). in_front x others) (slot_there words slots j low ∙ e)

  -- `next` where the slot has nothing, and where it has a value; x is what it leaves in the slot
  pub left_empty : (words : List ℕ) (slots : List (Slot T)) (j cell : ℕ) (x : Slot T) → j ≤ length slots → cell ≡ cell_of words j → get_elem? slots cell ≡ some None → x ≡ None
      → (left_along words slots j ≡ []) × (left_along words (set slots cell x) j ≡ [])
  left_empty words slots j cell x low there e is =
      let same : set slots cell x ≡ slots = ap (λ (y : Slot T). set slots cell y) is ∙ set_again slots cell None e in
      let ends = values_end words (count_full slots) slots j (some None) (slot_there words slots j low ∙ ap (λ (i : ℕ). get_elem? slots i) (sym there) ∙ e) (λ _. refl) in
      (ends, ap (λ (ss : List (Slot T)). left_along words ss j) same ∙ ends)

  pub left_next : (words : List ℕ) (slots : List (Slot T)) (j : ℕ) (v : T) (x : Slot T) (cell at node : ℕ) → j ≤ length slots → cell ≡ cell_of words j → at ≡ next_at j → node ≡ index_of (slice_index words at) → get_elem? slots cell ≡ some (Some v) → x ≡ None
      → left_along words slots j ≡ v ∷ left_along words (set slots cell x) node
  left_next words slots j v x cell at node low there is_at behind e is =
      values_next words slots j v low (ap (λ (i : ℕ). get_elem? slots i) (sym there) ∙ e)
      ∙ ap (λ (k : ℕ). v ∷ left_along words (set slots (cell_of words j) None) k) (sym (behind ∙ ap (λ (k : ℕ). index_of (slice_index words k)) is_at))
      ∙ ap (λ (i : ℕ). v ∷ left_along words (set slots i None) node) (sym there)
      ∙ ap (λ (y : Slot T). v ∷ left_along words (set slots cell y) node) (sym is)

  -- the values in the cells of the nodes along a chain
  values_along : (words : List ℕ) (js : List ℕ) (vs : List T) (slots : List (Slot T)) (x : ℕ) → length slots < NULL → ((j : ℕ) → 0 < times j js → j ≤ length slots) → ((i : ℕ) → times i (map (cell_of words) js) ≤ 1)
      → Leads (node_behind words) x js NULL → HasValues (λ i. get_elem? slots i) (map (cell_of words) js) vs → left_along words slots x ≡ vs
  values_along words [] [] slots x few low once stands has = values_end words (count_full slots) slots x none (slot_past words slots x (omega (arith, stands))) (λ _. refl)
  values_along words (j ∷ js) (v ∷ vs) slots x few low once stands has =
      let cell : ℕ = cell_of words j in
      let after : List (Slot T) = set slots cell None in
      let long = length_set slots cell None in
      let is : List ℕ = map (cell_of words) js in
      let one : times cell is ≡ 0 = omega (arith, once cell, times_here cell is) in
      let others : HasValues (λ i. get_elem? after i) is vs = values_frame (λ i. get_elem? slots i) (λ i. get_elem? after i) is vs (λ i there. set_else slots cell i None (not_there cell i is one there)) has.1 in
      let rest = values_along words js vs after (node_behind words j) (omega (arith, long)) (λ i there. omega (arith, long, low i (omega (arith, there)))) (λ i. omega (arith, once i)) stands.1 others in
      ap (λ (k : ℕ). left_along words slots k) stands.0
      ∙ values_next words slots j v (low j (omega (arith, times_here j js))) has.0
      ∙ ap (λ (us : List T). v ∷ us) rest
  values_along words [] (v ∷ vs) slots x few low once stands has = absurd has
  values_along words (j ∷ js) [] slots x few low once stands has = absurd has

  was_home : (o : Option (Option (Slot T))) (y : Slot T) → at_home o ≡ some y → o ≡ some (some y)
  was_home none y e = absurd (some-ne-none y (sym e))
  was_home (some x) y e = ap some e

  values_home : (homes : List (Option (Slot T))) (slots : List (Slot T)) → ((k : ℕ) (y : Slot T) → get_elem? homes k ≡ some (some y) → get_elem? slots k ≡ some y) → (is : List ℕ) (vs : List T)
      → HasValues (λ i. at_home (get_elem? homes i)) is vs → HasValues (λ i. get_elem? slots i) is vs
  values_home homes slots same [] [] has = tt
  values_home homes slots same (i ∷ is) (v ∷ vs) has = (same i (Some v) (was_home (get_elem? homes i) (Some v) has.0), values_home homes slots same is vs has.1)
  values_home homes slots same [] (v ∷ vs) has = absurd has
  values_home homes slots same (i ∷ is) [] has = absurd has

  -- what a table that was closed with the root's seat has left
  pub leaves_all : {root : Line T} {ks : Acts (Line T)} (rule : List (Event T) → Type 0) (n limit id : ℕ) (v : View T (Line T)) (r : RootView T) (words : List ℕ) (slots : List (Slot T)) → (final : Final (Seen (Rule (queue_with T n limit rule)) id v) words slots) → v ≡ AtRoot r ks nothing root → IsSound (shape n limit) r → length slots ≡ n
      → (index_of (slice_index words head_at) ≤ n) × Leaves (shape n limit) r (left_along words slots (node_behind words (index_of (slice_index words head_at))))
      × (left_along words slots (node_behind words (index_of (slice_index words head_at))) ≡ (state (shape n limit) final.1.0.history).values)
  leaves_all rule n limit id v r words slots final is sound long =
      let rule = final.1.0 in
      let s = final.0 in
      let k = rule.good in
      let linked = k.good.linked in
      let chain : List ℕ = k.lists.chain in
      let queued : List ℕ = k.lists.queued in
      let values : List T = (state (shape n limit) rule.history).values in
      let rooted : Rooted rule.history r [] = subst (Knows rule.history) is (rule.seated.each id v final.1.1).knows in
      let front : index_of (slice_index words head_at) ≤ n = subst (λ (ws : List ℕ). index_of (slice_index ws head_at) ≤ n) final.2 (let h = head_below linked in omega arith) in
      let stands : Leads (node_behind words) (node_behind words (index_of (slice_index words head_at))) (without_first chain) NULL =
      subst (λ (ws : List ℕ). Leads (node_behind ws) (node_behind ws (index_of (slice_index ws head_at))) (without_first chain) NULL) final.2
      (behind_first (node_behind s.words) (index_of (slice_index s.words head_at)) chain (head_in linked.chained) linked.chained.stands) in
      let cells : queued ≡ map (cell_of words) (without_first chain) = subst (λ (ws : List ℕ). queued ≡ map (cell_of ws) (without_first chain)) final.2 linked.chained.stored in
      let stored : HasValues (λ i. get_elem? slots i) (map (cell_of words) (without_first chain)) values = subst (λ (is : List ℕ). HasValues (λ i. get_elem? slots i) is values) cells (values_home s.homes slots final.4 queued values k.good.filled.stored) in
      let are = values_along words (without_first chain) values slots (node_behind words (index_of (slice_index words head_at))) (omega (arith, long, linked.small))
      (λ j there. let low = node_below j linked (omega (arith, there, times_rest j chain)) in omega (arith, long, low))
      (λ i. subst (λ (is : List ℕ). times i is ≤ 1) cells (at_most_once i n _ _ _ (linked.cells_once i)))
      stands stored in
      (front, subst (λ (vs : List T). Leaves (shape n limit) r vs) (sym are) (leaves (shape n limit) rule.history r [] k.good.told.legal rooted sound), are)
    where
      at_most_once : (j n a b c : ℕ) → a + b + c ≡ cond (ltb j n) 1 0 → b ≤ 1
      at_most_once j n a b c e = cases (λ v. a + b + c ≡ v → b ≤ 1) (ltb j n) 1 0 (λ _ q. omega arith) (λ _ q. omega arith) e

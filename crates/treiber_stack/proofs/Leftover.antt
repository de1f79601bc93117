-- The values along the links of a closed table are the stack's.
use Rattle.std.proofs.Common.{◌≡◌, ℕ, zero, suc, ◌+◌, ◌≤◌, cond, ltb, List, [], ◌∷◌, length, set, refl, sym, ap, ◌∙◌, subst, arith}
use Rattle.std.specs.Prelude.{slice_index, Option as Slot, Some, None}
use mathlib.Core.Option.{Option, none, some, some-injective, some-ne-none}
use lib.ListN.{get_elem?}
use Rattle.atomic_table.specs.Table.{Final, Seen}
use Rattle.atomic_table.proofs.Lists.{set_else, set_again}
use Rattle.bounded_model.specs.Machine.{state}
use Rattle.bounded_model.specs.Laws.{IsSound, Leaves}
use Rattle.machine.specs.Words.{Leads}
use Rattle.machine.specs.Chains.{HasValues}
use Rattle.machine.specs.Seats.{Acts, nothing, Rooted, Knows}
use Rattle.machine.proofs.Tests.{cases}
use Rattle.machine.proofs.Lists.{not_there}
use Rattle.machine.proofs.Chains.{values_frame}
use Rattle.machine.proofs.SeatedEnds.{leaves}
use Rattle.running.specs.Rule.{Rule}
use Rattle.stack_table.specs.Layout.{top_at}
use Rattle.stack_table.specs.Memories.{at_home}
use Rattle.stack_table.proofs.Memories.{at_home_is}
use Rattle.treiber_stack.specs.Prelude.{AtRoot, Event, Line, NULL, RootView, View, index_of, link_at, shape, stack_with, stacked, times, times_here}
use Rattle.treiber_stack.specs.code.Left.{count_full, on_top, values_from, left_along}

-- a plain link is its own index
index_of-plain : (w : ℕ) → w ≤ NULL → index_of w ≡ w
index_of-plain w h = omega arith

pub word_at : (words : List ℕ) (i n : ℕ) → get_elem? words i ≡ some n → slice_index words i ≡ n
word_at [] i n e = absurd (some-ne-none n (sym e))
word_at (w ∷ words) zero n e = some-injective w n e
word_at (w ∷ words) (suc i) n e = word_at words i n e

no_node_past : {A : Type 0} (xs : List A) (i : ℕ) → length xs ≤ i → get_elem? xs i ≡ none
no_node_past [] i h = refl
no_node_past (x ∷ xs) zero h = absurd (omega arith)
no_node_past (x ∷ xs) (suc i) h = no_node_past xs i (omega arith)

module _ {T : Type 0} where
  count_taken : (slots : List (Slot T)) (i : ℕ) (v : T) → get_elem? slots i ≡ some (Some v) → count_full slots ≡ suc (count_full (set slots i None))
  count_taken [] i v e = absurd (some-ne-none (Some v) (sym e))
  count_taken (None ∷ slots) zero v e = let q : None ≡ Some v = some-injective None (Some v) e in absurd cc
  count_taken (None ∷ slots) (suc i) v e = count_taken slots i v e
  count_taken (Some w ∷ slots) zero v e = refl
  count_taken (Some w ∷ slots) (suc i) v e = ap suc (count_taken slots i v e)

  -- no value follows where there is none
  pub values_end : (words : List ℕ) (most : ℕ) (slots : List (Slot T)) (i : ℕ) (o : Option (Slot T)) → get_elem? slots i ≡ o → ((others : List T) → on_top o others ≡ []) → values_from words most slots i ≡ []
  values_end words zero slots i o e ends = refl
  values_end words (suc most) slots i o e ends =
      let others : List T = values_from words most (set slots i None) (index_of (slice_index words (link_at i))) in
      ap (λ (x : Option (Slot T)). on_top x others) e ∙ ends others

  pub values_past : (words : List ℕ) (most : ℕ) (slots : List (Slot T)) (i : ℕ) → length slots ≤ i → values_from words most slots i ≡ []
  values_past words most slots i past = values_end words most slots i none (no_node_past slots i past) (λ _. refl)

  -- a value is followed by those from the next node on
  pub values_next : (words : List ℕ) (slots : List (Slot T)) (i : ℕ) (v : T) → get_elem? slots i ≡ some (Some v)
      → values_from words (count_full slots) slots i ≡ v ∷ values_from words (count_full (set slots i None)) (set slots i None) (index_of (slice_index words (link_at i)))
  values_next words slots i v e =
      let after : List (Slot T) = set slots i None in
      let others : List T = values_from words (count_full after) after (index_of (slice_index words (link_at i))) in
      ap (λ (k : ℕ). values_from words k slots i) (count_taken slots i v e) ∙ ap (λ (x : Option (Slot T)). on_top x others) e

  -- `next` where the slot has nothing, and where it has a value; x is what it leaves in the slot
  pub left_empty : (words : List ℕ) (slots : List (Slot T)) (i : ℕ) (x : Slot T) → get_elem? slots i ≡ some None → x ≡ None → (left_along words slots i ≡ []) × (left_along words (set slots i x) i ≡ [])
  left_empty words slots i x e is =
      let same : set slots i x ≡ slots = ap (λ (y : Slot T). set slots i y) is ∙ set_again slots i None e in
      let ends = values_end words (count_full slots) slots i (some None) e (λ _. refl) in
      (ends, ap (λ (ss : List (Slot T)). left_along words ss i) same ∙ ends)

  pub left_next : (words : List ℕ) (slots : List (Slot T)) (i : ℕ) (v : T) (x : Slot T) (j at : ℕ) → get_elem? slots i ≡ some (Some v) → x ≡ None → at ≡ link_at i → j ≡ index_of (slice_index words at)
      → left_along words slots i ≡ v ∷ left_along words (set slots i x) j
  left_next words slots i v x j at e is there link =
      values_next words slots i v e
      ∙ ap (λ (k : ℕ). v ∷ left_along words (set slots i None) k) (sym (link ∙ ap (λ (k : ℕ). index_of (slice_index words k)) there))
      ∙ ap (λ (y : Slot T). v ∷ left_along words (set slots i y) j) (sym is)

  length_set : (slots : List (Slot T)) (i : ℕ) (x : Slot T) → length (set slots i x) ≡ length slots
  length_set [] i x = refl
  length_set (y ∷ slots) zero x = refl
  length_set (y ∷ slots) (suc i) x = ap suc (length_set slots i x)

  -- the values in the slots of a list of nodes
  values_along : (words : List ℕ) → ((j : ℕ) → slice_index words (link_at j) ≤ NULL) → (is : List ℕ) (vs : List T) (slots : List (Slot T)) (x : ℕ) → length slots ≤ NULL → ((j : ℕ) → times j is ≤ 1)
      → Leads (λ j. slice_index words (link_at j)) x is NULL → HasValues (λ j. get_elem? slots j) is vs → values_from words (count_full slots) slots x ≡ vs
  values_along words plain [] [] slots x few once stands has = values_past words (count_full slots) slots x (omega arith)
  values_along words plain (i ∷ is) (v ∷ vs) slots x few once stands has =
      let after : List (Slot T) = set slots i None in
      let link : ℕ = slice_index words (link_at i) in
      let one : times i is ≡ 0 = omega (arith, once i, times_here i is) in
      let others : HasValues (λ j. get_elem? after j) is vs = values_frame (λ j. get_elem? slots j) (λ j. get_elem? after j) is vs (λ j there. set_else slots i j None (not_there i j is one there)) has.1 in
      let rest = values_along words plain is vs after link (let l = length_set slots i None in omega arith) (λ j. omega (arith, once j)) stands.1 others in
      ap (λ (k : ℕ). values_from words (count_full slots) slots k) stands.0
      ∙ values_next words slots i v has.0
      ∙ ap (λ (k : ℕ). v ∷ values_from words (count_full after) after k) (index_of-plain link (plain i))
      ∙ ap (λ (us : List T). v ∷ us) rest
  values_along words plain [] (v ∷ vs) slots x few once stands has = absurd has
  values_along words plain (i ∷ is) [] slots x few once stands has = absurd has

  values_home : (homes : List (Option (Slot T))) (slots : List (Slot T)) → ((k : ℕ) (y : Slot T) → get_elem? homes k ≡ some (some y) → get_elem? slots k ≡ some y) → (is : List ℕ) (vs : List T)
      → HasValues (λ i. at_home (get_elem? homes i)) is vs → HasValues (λ i. get_elem? slots i) is vs
  values_home homes slots same [] [] has = tt
  values_home homes slots same (i ∷ is) (v ∷ vs) has = (same i (Some v) (at_home_is homes i (Some v) has.0), values_home homes slots same is vs has.1)
  values_home homes slots same [] (v ∷ vs) has = absurd has
  values_home homes slots same (i ∷ is) [] has = absurd has

  -- what a table that was closed with the root's seat has left
  pub leaves_all : {root : Line T} {ks : Acts (Line T)} (client : List (Event T) → Type 0) (n limit id : ℕ) (v : View T (Line T)) (r : RootView T) (words : List ℕ) (slots : List (Slot T)) (index : ℕ) → (final : Final (Seen (Rule {names = _} (stack_with T n limit client)) id v) words slots) → v ≡ AtRoot r ks nothing root → IsSound (shape n limit) r → length slots ≤ NULL
      → index ≡ index_of (slice_index words top_at) → Leaves (shape n limit) r (left_along words slots index) × (left_along words slots index ≡ (state (shape n limit) final.1.0.history).values)
  leaves_all client n limit id v r words slots index final is sound few top =
      let rule = final.1.0 in
      let s = final.0 in
      let g = rule.good.lists in
      let rooted : Rooted rule.history r [] = subst (Knows rule.history) is (rule.seated.each id v final.1.1).knows in
      let plain : (j : ℕ) → slice_index words (link_at j) ≤ NULL = λ j. subst (λ (ws : List ℕ). slice_index ws (link_at j) ≤ NULL) final.2 (rule.sane.plain (stacked.link j)) in
      let stands : Leads (λ j. slice_index words (link_at j)) index g.stack NULL =
      subst (λ (x : ℕ). Leads (λ j. slice_index words (link_at j)) x g.stack NULL) (sym top)
      (subst (λ (ws : List ℕ). Leads (λ j. slice_index ws (link_at j)) (index_of (slice_index ws top_at)) g.stack NULL) final.2 rule.good.good.linked.top_stands) in
      let stored = values_home s.homes slots final.4 g.stack (state (shape n limit) rule.history).values rule.good.good.filled.stored in
      let are = values_along words plain g.stack (state (shape n limit) rule.history).values slots index few (λ j. at_most_once j n _ _ _ (rule.good.good.linked.once j)) stands stored in
      (subst (λ (vs : List T). Leaves (shape n limit) r vs) (sym are) (leaves (shape n limit) rule.history r [] rule.good.good.told.legal rooted sound), are)
    where
      at_most_once : (j n a b c : ℕ) → a + b + c ≡ cond (ltb j n) 1 0 → b ≤ 1
      at_most_once j n a b c e = cases (λ v. a + b + c ≡ v → b ≤ 1) (ltb j n) 1 0 (λ _ q. omega arith) (λ _ q. omega arith) e

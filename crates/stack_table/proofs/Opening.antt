-- The rule holds of a new stack.
use Rattle.std.proofs.Common.{◌≡◌, ℕ, ◌+◌, ◌-◌, ◌<◌, ◌≤◌, inl, ⊎_elim, cond, eqb, ltb, List, [], ◌∷◌, length, replicate, refl, sym, ap, ◌∙◌, subst, arith}
use Rattle.std.proofs.lemmas.Bool.Decides.{nat_tests}
use Rattle.std.proofs.lemmas.List.{get_or_past}
use Rattle.std.specs.Prelude.{slice_index, Option as Slot, None}
use mathlib.Core.Option.{Option, none, some}
use lib.ListN.{get_elem?}
use Rattle.atomic_table.specs.Table.{opening}
use Rattle.tagged_index.specs.Fields.{fields_of}
use Rattle.tagged_index.specs.declared.word.TheConstants.{NULL}
use Rattle.machine.specs.Words.{start_link}
use Rattle.stack_machine.specs.declared.lines.Line.{Line}
use Rattle.stack_machine.specs.declared.lines.Line.TheVariants.{Idle}
use Rattle.stack_machine.specs.Machine.{Memory, start}
use Rattle.stack_machine.specs.Answers.{shape}
use Rattle.stack_machine.specs.Rule.{Kept}
use Rattle.machine.specs.Seats.{first_view}
use Rattle.machine.proofs.Tests.{cases}
use Rattle.machine.proofs.Seating.{seated_first}
use Rattle.stack_machine.proofs.Start.{start_kept}
use Rattle.bounded_model.specs.declared.history.Event.{Event}
use Rattle.running.specs.Rule.{Rule}
use Rattle.running.specs.Ties.{IsTie}
use Rattle.running.proofs.Acts.{led_first}
use Rattle.running.proofs.Newest.{newest_first}
use Rattle.running.proofs.Opening.{empties, home_start, home_past, homes_start, first_who, nobody, below_or_not}
use Rattle.stack_table.specs.Layout.{free_at, top_at, link_at, words_for, start_at}
use Rattle.stack_table.specs.Memories.{memory_of, at_home}
use Rattle.stack_table.specs.Core.{core, stack_with}
use Rattle.stack_table.proofs.Laws.{laws}

start_links : (n i : ℕ) → start_at n (link_at i) ≡ start_link n i
start_links n i = cases (λ v. v ≡ start_link n i) (eqb (48 + i) top_at) NULL (cond (ltb (48 + i) 48) 0 (cond (eqb (48 + i) (47 + n)) NULL (48 + i - 47)))
    (λ b. absurd (grind (arith, nat_tests)))
    (λ _. cases (λ v. v ≡ start_link n i) (ltb (48 + i) 48) 0 (cond (eqb (48 + i) (47 + n)) NULL (48 + i - 47))
    (λ b. absurd (grind (arith, nat_tests)))
    (λ _. cases (λ v. v ≡ start_link n i) (eqb (48 + i) (47 + n)) NULL (48 + i - 47)
    (λ b. cases (λ v. NULL ≡ v) (eqb (i + 1) n) NULL (i + 1) (λ _. refl) (λ c. absurd (grind (arith, nat_tests))))
    (λ b. cases (λ v. 48 + i - 47 ≡ v) (eqb (i + 1) n) NULL (i + 1) (λ c. absurd (grind (arith, nat_tests))) (λ _. omega arith))))

start_small : (n i : ℕ) → i < n → n ≤ NULL → start_link n i ≤ NULL
start_small n i h small = cases (λ v. v ≤ NULL) (eqb (i + 1) n) NULL (i + 1) (λ _. omega arith) (λ _. omega arith)

link_first : (n : ℕ) (ws : List ℕ) → length ws ≡ words_for n → ((k : ℕ) → k < words_for n → slice_index ws k ≡ start_at n k) → (i : ℕ) → cond (ltb i n) (start_link n i) 0 ≡ slice_index ws (link_at i)
link_first n ws long is i = cases (λ (v : ℕ). v ≡ slice_index ws (link_at i)) (ltb i n) (start_link n i) 0
    (λ b. let h : i < n = grind (arith, nat_tests) in sym (is (link_at i) (omega arith) ∙ start_links n i))
    (λ b. let h : n ≤ i = grind (arith, nat_tests) in sym (get_or_past ws (link_at i) 0 (omega (arith, long))))

module _ {T : Type 0} (n limit : ℕ) where
  slot_first : (i : ℕ) → cond (ltb i n) (some None) none ≡ at_home (get_elem? (empties T n) i)
  slot_first i = cases (λ v. v ≡ at_home (get_elem? (empties T n) i)) (ltb i n) (some None) none (λ b. sym (home_start T n i (grind (arith, nat_tests)))) (λ b. sym (home_past T n i (grind (arith, nat_tests))))

  -- a new table shows what a new stack has
  first_is : (ws : List ℕ) → length ws ≡ words_for n → ((k : ℕ) → k < words_for n → slice_index ws k ≡ start_at n k) → start (shape n limit) ≡ memory_of ws (empties T n)
  first_is ws long is = λ t. record {
    free = sym (ap fields_of (is free_at (omega arith))) t;
    top = sym (ap fields_of (is top_at (omega arith))) t;
    link = λ i. link_first n ws long is i t;
    home = λ i. slot_first i t;
  }

  opens_all : (rule : List (Event T) → Type 0) → IsTie rule → (ws items : List ℕ) → ws ≡ items → 0 < n → n ≤ NULL → length items ≡ words_for n → ((k : ℕ) → k < words_for n → slice_index items k ≡ start_at n k) → Rule {names = _} (stack_with T n limit rule) (opening ws (replicate n None) (first_view (Idle None)))
  opens_all rule tie ws items e some_node small long_items items_are =
      let long : length ws ≡ words_for n = ap length e ∙ long_items in
      let is : (k : ℕ) → k < words_for n → slice_index ws k ≡ start_at n k = λ k h. ap (λ (l : List ℕ). slice_index l k) e ∙ items_are k h in
      let homes : List (Option (Slot T)) = empties T n in
      let shown : start (shape n limit) ≡ memory_of ws homes = first_is ws long is in
      record {
        history = [];
        good = (laws n limit).reseats (memory_of ws homes) (record {
          who = some;
          lines = Idle None ∷ [];
          history = [];
          good = subst (λ (m : Memory T). Kept T n limit m some (Idle None ∷ []) []) shown (start_kept n limit 1 some_node small);
          who' = first_who T {L = Line T} (Idle None);
          lines' = Idle None ∷ [];
          shared = inl refl;
          hands = λ q p l _ e. absurd (nobody T (Idle None) q p e);
          alone = λ q r p e _. absurd (nobody T (Idle None) q p e);
        });
        seated = seated_first (shape n limit) (core T n limit).holding (Idle None);
        newest = newest_first T (Idle None);
        sane = record {
          words_are = long;
          homes_are = homes_start T n;
          plain = λ a. ⊎_elim
              (λ low. subst (λ (k : ℕ). k ≤ NULL) (sym (is (link_at a.index) (omega arith) ∙ start_links n a.index)) (start_small n a.index low small))
              (λ high. subst (λ (k : ℕ). k ≤ NULL) (sym (get_or_past ws (link_at a.index) 0 (omega arith))) (omega arith))
              (below_or_not a.index n);
        };
        led = led_first (stack_with T n limit rule) (laws n limit) (memory_of ws homes) shown;
        tied = tie.first;
      }

  pub opens : (rule : List (Event T) → Type 0) → IsTie rule → (ws items : List ℕ) → ws ≡ items → 0 < n → n ≤ NULL → length items ≡ words_for n → ((k : ℕ) → k < words_for n → slice_index items k ≡ start_at n k) → (count : ℕ) → count ≡ n → Rule {names = _} (stack_with T n limit rule) (opening ws (replicate count None) (first_view (Idle None)))
  opens rule tie ws items e some_node small long is count same = subst (λ (k : ℕ). Rule {names = _} (stack_with T n limit rule) (opening ws (replicate k None) (first_view (Idle None)))) (sym same) (opens_all rule tie ws items e some_node small long is)

-- The rule holds of a new queue.
use Rattle.std.proofs.Common.{◌≡◌, ℕ, ◌+◌, ◌-◌, ◌*◌, ◌/◌, ◌%◌, ◌<◌, ◌≤◌, ◌⊎◌, inl, inr, ⊎_elim, cond, eqb, ltb, List, [], ◌∷◌, length, replicate, refl, sym, ap, ◌∙◌, subst, arith}
use Rattle.std.proofs.lemmas.Bool.Decides.{nat_tests}
use Rattle.std.proofs.lemmas.List.{get_or_past}
use Rattle.std.proofs.lemmas.Nat.{div-mul-add, mod-mul-add}
use Rattle.std.specs.Prelude.{slice_index, None}
use mathlib.Core.Option.{none, some}
use lib.ListN.{get_elem?}
use Rattle.atomic_table.specs.Table.{opening}
use Rattle.tagged_index.specs.Fields.{fields_of}
use Rattle.tagged_index.specs.declared.word.TheConstants.{NULL}
use Rattle.machine.specs.Words.{Tagged, start_word, start_link}
use Rattle.machine.specs.Seats.{first_view}
use Rattle.machine.proofs.Tests.{cases}
use Rattle.machine.proofs.Seating.{seated_first}
use Rattle.queue_machine.specs.declared.lines.Line.{Line}
use Rattle.queue_machine.specs.declared.lines.Line.TheVariants.{Idle}
use Rattle.queue_machine.specs.Machine.{Memory, start_nlink, start}
use Rattle.queue_machine.specs.Answers.{shape}
use Rattle.queue_machine.specs.Rule.{Kept}
use Rattle.queue_machine.proofs.Start.{start_kept}
use Rattle.bounded_model.specs.declared.history.Event.{Event}
use Rattle.running.specs.Rule.{Rule}
use Rattle.running.specs.Ties.{IsTie}
use Rattle.running.proofs.Acts.{led_first}
use Rattle.running.proofs.Newest.{newest_first}
use Rattle.running.proofs.Opening.{empties, home_start, home_past, homes_start, first_who, nobody, below_or_not}
use Rattle.queue_table.specs.Layout.{cells_at, nodes_at, head_at, tail_at, clink_at, nlink_at, next_at, cell_at, words_for, start_of, start_at, number_at}
use Rattle.queue_machine.specs.declared.lines.Number.{Number}
use Rattle.queue_machine.specs.declared.lines.Number.TheVariants.{CellLink, NodeLink, Cell}
use Rattle.queue_table.specs.Memories.{memory_of, at_home}
use Rattle.queue_table.specs.Core.{core, queue_with}
use Rattle.queue_table.proofs.Laws.{laws}

-- the word of index i in this part of its four
part_of : (n i r at : ℕ) → at ≡ 80 + 4 * i + r → r < 4 → start_at n at ≡ start_of n r i
part_of n i r at e low = cases (λ v. v ≡ start_of n r i) (ltb at 80) (cond (eqb at nodes_at) 1 0) (start_of n ((at - 80) % 4) ((at - 80) / 4))
    (λ b. absurd (grind (arith, nat_tests)))
    (λ _. let apart : at - 80 ≡ i * 4 + r = omega (arith, e) in
    ap (λ (k : ℕ). start_of n (k % 4) (k / 4)) apart
    ∙ ap (λ (k : ℕ). start_of n k ((i * 4 + r) / 4)) (mod-mul-add i 4 r low)
    ∙ ap (λ (k : ℕ). start_of n r k) (div-mul-add i 4 r low))

link_small : (n i : ℕ) → i + 1 ≤ NULL → start_link n i ≤ NULL
link_small n i small = cases (λ v. v ≤ NULL) (eqb (i + 1) n) NULL (i + 1) (λ _. omega arith) (λ _. omega arith)

module _ (n : ℕ) (ws : List ℕ) (small : n < NULL) (long : length ws ≡ words_for n) (is : (k : ℕ) → k < words_for n → slice_index ws k ≡ start_at n k) where
  -- a word of an index: that of a new queue, and 0 where there is none
  word_of : (i r at : ℕ) → at ≡ 80 + 4 * i + r → r < 4 → ((i < n + 1) × (slice_index ws at ≡ start_of n r i)) ⊎ (slice_index ws at ≡ 0)
  word_of i r at e low = ⊎_elim
      (λ h. inl (h, is at (omega (arith, e)) ∙ part_of n i r at e low))
      (λ h. inr (get_or_past ws at 0 (omega (arith, e, long))))
      (below_or_not i (n + 1))

  -- a number that was read is an index or null
  plain : (i r at : ℕ) → at ≡ 80 + 4 * i + r → r < 4 → (i < n + 1 → start_of n r i ≤ NULL) → slice_index ws at ≤ NULL
  plain i r at e low bound = ⊎_elim
      (λ h. let b = bound h.0 in omega (arith, h.1))
      (λ h. omega (arith, h))
      (word_of i r at e low)

  nlink_small : (j : ℕ) → j < n + 1 → start_nlink n j ≤ NULL
  nlink_small j h = cases (λ v. v ≤ NULL) (eqb j 0) NULL (start_link (n + 1) j) (λ _. omega arith) (λ _. link_small (n + 1) j (omega arith))

  plain_at : (a : Number) → slice_index ws (number_at a) ≤ NULL
  plain_at (CellLink i) = plain i 0 (clink_at i) (omega arith) (omega arith) (λ h. link_small n i (omega arith))
  plain_at (NodeLink j) = plain j 1 (nlink_at j) (omega arith) (omega arith) (λ h. nlink_small j h)
  plain_at (Cell j) = plain j 3 (cell_at j) (omega arith) (omega arith) (λ h. omega arith)

module _ (n : ℕ) (ws : List ℕ) (long : length ws ≡ words_for n) (is : (k : ℕ) → k < words_for n → slice_index ws k ≡ start_at n k) where
  -- the words of each number: those of a new queue, and 0 where there are none
  number_first : (i r at : ℕ) → at ≡ 80 + 4 * i + r → r < 4 → cond (ltb i (n + 1)) (start_of n r i) 0 ≡ slice_index ws at
  number_first i r at e low = cases (λ (v : ℕ). v ≡ slice_index ws at) (ltb i (n + 1)) (start_of n r i) 0
      (λ b. let h : i < n + 1 = grind (arith, nat_tests) in sym (is at (omega (arith, e)) ∙ part_of n i r at e low))
      (λ b. let h : n + 1 ≤ i = grind (arith, nat_tests) in sym (get_or_past ws at 0 (omega (arith, e, long))))

  next_first : (j : ℕ) → cond (ltb j (n + 1)) (start_word NULL) (start_word 0) ≡ fields_of (slice_index ws (next_at j))
  next_first j = cases (λ (w : Tagged). w ≡ fields_of (slice_index ws (next_at j))) (ltb j (n + 1)) (start_word NULL) (start_word 0)
      (λ b. let h : j < n + 1 = grind (arith, nat_tests) in sym (ap fields_of (is (next_at j) (omega arith) ∙ part_of n j 2 (next_at j) (omega arith) (omega arith))))
      (λ b. let h : n + 1 ≤ j = grind (arith, nat_tests) in sym (ap fields_of (get_or_past ws (next_at j) 0 (omega (arith, long)))))

module _ {T : Type 0} (n limit : ℕ) (ws : List ℕ) (some_cell : 0 < n) (small : n < NULL) (some_tag : 0 < limit) (long : length ws ≡ words_for n) (is : (k : ℕ) → k < words_for n → slice_index ws k ≡ start_at n k) where
  slot_first : (i : ℕ) → cond (ltb i n) (some None) none ≡ at_home (get_elem? (empties T n) i)
  slot_first i = cases (λ v. v ≡ at_home (get_elem? (empties T n) i)) (ltb i n) (some None) none (λ b. sym (home_start T n i (grind (arith, nat_tests)))) (λ b. sym (home_past T n i (grind (arith, nat_tests))))

  -- a new table shows what a new queue has
  first_is : start (shape n limit) ≡ memory_of ws (empties T n)
  first_is = λ t. record {
    cells = sym (ap fields_of (is cells_at (omega arith))) t;
    nodes = sym (ap fields_of (is nodes_at (omega arith))) t;
    head = sym (ap fields_of (is head_at (omega arith))) t;
    tail = sym (ap fields_of (is tail_at (omega arith))) t;
    clink = λ i. number_first n ws long is i 0 (clink_at i) (omega arith) (omega arith) t;
    nlink = λ j. number_first n ws long is j 1 (nlink_at j) (omega arith) (omega arith) t;
    next = λ j. next_first n ws long is j t;
    cell = λ j. number_first n ws long is j 3 (cell_at j) (omega arith) (omega arith) t;
    home = λ i. slot_first i t;
  }

  good : Kept T n limit (memory_of ws (empties T n)) (first_who T {L = Line T} (Idle None)) (Idle None ∷ []) []
  good = (laws n limit).reseats (memory_of ws (empties T n)) (record {
    who = some;
    lines = Idle None ∷ [];
    history = [];
    good = subst (λ (m : Memory T). Kept T n limit m some (Idle None ∷ []) []) first_is (start_kept n limit 1 some_cell small some_tag);
    who' = first_who T {L = Line T} (Idle None);
    lines' = Idle None ∷ [];
    shared = inl refl;
    hands = λ q p l _ e. absurd (nobody T (Idle None) q p e);
    alone = λ q r p e _. absurd (nobody T (Idle None) q p e);
  })

  opens_all : (rule : List (Event T) → Type 0) → IsTie rule → Rule {names = _} (queue_with T n limit rule) (opening ws (replicate n None) (first_view (Idle None)))
  opens_all rule tie = record {
    history = [];
    good = good;
    seated = seated_first (shape n limit) (core T n limit).holding (Idle None);
    newest = newest_first T (Idle None);
    sane = record {
      words_are = long;
      homes_are = homes_start T n;
      plain = plain_at n ws small long is;
    };
    led = led_first (queue_with T n limit rule) (laws n limit) (memory_of ws (empties T n)) first_is;
    tied = tie.first;
  }

-- words that are given one after another, and a number of slots
pub opens : (T : Type 0) (n limit : ℕ) (rule : List (Event T) → Type 0) → IsTie rule → (ws items : List ℕ) → ws ≡ items → 0 < n → n < NULL → 0 < limit → length items ≡ words_for n → ((k : ℕ) → k < words_for n → slice_index items k ≡ start_at n k) → (count : ℕ) → count ≡ n
    → Rule {names = _} (queue_with T n limit rule) (opening ws (replicate count None) (first_view (Idle None)))
opens T n limit rule tie ws items e some_cell small some_tag long is count same = subst (λ (k : ℕ). Rule {names = _} (queue_with T n limit rule) (opening ws (replicate k None) (first_view (Idle None)))) (sym same)
    (opens_all n limit ws some_cell small some_tag (ap length e ∙ long) (λ k h. ap (λ (l : List ℕ). slice_index l k) e ∙ is k h) rule tie)

-- The rule holds of a new ring.
use Rattle.std.proofs.Common.{◌≡◌, ℕ, zero, suc, ◌+◌, ◌-◌, ◌*◌, ◌/◌, ◌%◌, ◌<◌, ◌≤◌, Bool, true, false, cond, eqb, ltb, List, [], ◌∷◌, append-nil, length, replicate, refl, sym, ap, ◌∙◌, subst, arith}
use Rattle.std.proofs.lemmas.Bool.Decides.{nat_tests}
use Rattle.std.proofs.lemmas.List.{get_or_past}
use Rattle.std.proofs.lemmas.Nat.{div-mul-add, mod-mul-add}
use Rattle.std.specs.Prelude.{slice_index, None, Option as Slot}
use mathlib.Core.Option.{Option, none, some}
use Rattle.atomic_table.specs.Table.{opening}
use Rattle.tagged_index.specs.Fields.{fields_of, number}
use Rattle.tagged_index.specs.declared.word.TheConstants.{NULL}
use Rattle.tagged_index.proofs.Words.{fields_of-number}
use Rattle.machine.specs.Words.{Tagged, start_word}
use Rattle.machine.specs.Seats.{first_view}
use Rattle.machine.proofs.Tests.{cases}
use Rattle.machine.proofs.Scheduled.{first_lines}
use Rattle.machine.proofs.Seating.{seated_first}
use Rattle.ring_machine.specs.declared.lines.Line.{Line}
use Rattle.ring_machine.specs.Machine.{Memory, resting, ring}
use Rattle.ring_machine.specs.Answers.{shape}
use Rattle.ring_machine.specs.Rule.{Good}
use Rattle.ring_machine.proofs.Start.{IsNew, shown_good}
use Rattle.bounded_model.specs.declared.history.Event.{Event}
use Rattle.running.specs.Rule.{Rule}
use Rattle.running.specs.Ties.{IsTie}
use Rattle.running.proofs.Acts.{led_first}
use Rattle.running.proofs.Newest.{newest_first}
use Rattle.running.proofs.Opening.{empties, home_start, home_past, homes_start}
use Rattle.ring_table.specs.declared.line.SeatLine.TheVariants.{Stock}
use Rattle.ring_table.specs.Layout.{head_at, tail_at, slot_at, spread, words_for, start_slot, start_at}
use Rattle.ring_table.specs.Memories.{memory_of}
use Rattle.ring_table.specs.Seats.{each_resting, passes_of, cells_from}
use Rattle.ring_table.specs.Core.{cells, core, first_memory, ring_with, shape_for}
use Rattle.ring_table.proofs.Memories.{slot_below, slot_beyond, hints_below}
use Rattle.ring_table.proofs.Laws.{laws}

-- the word of slot i
slot_part : (b : Bool) (i : ℕ) → start_slot (cond b 8 1) (48 + cond b 8 1 * i - 48) ≡ i
slot_part true i =
    let apart : 48 + 8 * i - 48 ≡ i * 8 + 0 = omega arith in
    ap (start_slot 8) apart ∙ cases (λ (v : ℕ). v ≡ i) (eqb ((i * 8 + 0) % 8) 0) ((i * 8 + 0) / 8) 0 (λ _. div-mul-add i 8 0 (omega arith)) (λ b. let z : (i * 8 + 0) % 8 ≡ 0 = mod-mul-add i 8 0 (omega arith) in absurd (grind (arith, nat_tests)))
slot_part false i =
    let apart : 48 + 1 * i - 48 ≡ i * 1 + 0 = omega arith in
    ap (start_slot 1) apart ∙ cases (λ (v : ℕ). v ≡ i) (eqb ((i * 1 + 0) % 1) 0) ((i * 1 + 0) / 1) 0 (λ _. div-mul-add i 1 0 (omega arith)) (λ b. let z : (i * 1 + 0) % 1 ≡ 0 = mod-mul-add i 1 0 (omega arith) in absurd (grind (arith, nat_tests)))

slot_start : (n i : ℕ) → start_at n (slot_at n i) ≡ i
slot_start n i = cases (λ (v : ℕ). v ≡ i) (ltb (slot_at n i) 48) 0 (start_slot (spread n) (slot_at n i - 48)) (λ b. absurd (grind (arith, nat_tests))) (λ _. slot_part (ltb n 64) i)

hint_start : (n k : ℕ) → k < 48 → start_at n k ≡ 0
hint_start n k low = cases (λ (v : ℕ). v ≡ 0) (ltb k 48) 0 (start_slot (spread n) (k - 48)) (λ _. refl) (λ b. absurd (grind (arith, nat_tests)))

-- a plain number is a word with no tag and no mark
fields_start : (i : ℕ) → i ≤ NULL → fields_of i ≡ start_word i
fields_start i small = let e : i ≡ number (start_word i) = omega arith in ap fields_of e ∙ fields_of-number (start_word i) small

module _ (T : Type 0) (n laps passes : ℕ) (ws : List ℕ) (some_slot : 0 < n) (small : n + passes ≤ NULL) (long : length ws ≡ words_for n) (is : (k : ℕ) → k < words_for n → slice_index ws k ≡ start_at n k) where
  abbrev homes : List (Option (Slot T))
  homes = empties T (n + passes)

  abbrev m : Memory T
  m = memory_of n (n + passes) ws homes

  hint_is : (k : ℕ) → k < 48 → fields_of (slice_index ws k) ≡ start_word 0
  hint_is k low = ap fields_of (is k (let h = hints_below n in omega arith) ∙ hint_start n k low)

  slot_is : (i : ℕ) → i < n → m.slot i ≡ start_word i
  slot_is i low = ap fields_of (is (slot_at n i) (slot_below n i low) ∙ slot_start n i) ∙ fields_start i (omega arith)

  slot_past : (i : ℕ) → n ≤ i → m.slot i ≡ start_word 0
  slot_past i past = ap fields_of (get_or_past ws (slot_at n i) 0 (let b = slot_beyond n i past in omega (arith, long)))

  new : IsNew T n laps (n + passes) m
  new = record { head = hint_is head_at (omega arith); tail = hint_is tail_at (omega arith); slots = slot_is; home = λ c low. home_start T (n + passes) c low }

  slot_first : (i : ℕ) → cond (ltb i n) (start_word i) (start_word 0) ≡ m.slot i
  slot_first i = cases (λ (w : Tagged). w ≡ m.slot i) (ltb i n) (start_word i) (start_word 0) (λ b. sym (slot_is i (grind (arith, nat_tests)))) (λ b. sym (slot_past i (grind (arith, nat_tests))))

  home_first : (i : ℕ) → cond (ltb i (n + passes)) (some None) none ≡ m.home i
  home_first i = cases (λ v. v ≡ m.home i) (ltb i (n + passes)) (some None) none (λ b. sym (home_start T (n + passes) i (grind (arith, nat_tests)))) (λ b. sym (home_past T (n + passes) i (grind (arith, nat_tests))))

  -- a new table shows what a new ring has
  pub first_is : first_memory T n laps passes ≡ m
  first_is = λ t. record { head = sym (hint_is head_at (omega arith)) t; tail = sym (hint_is tail_at (omega arith)) t; slot = λ i. slot_first i t; home = λ i. home_first i t }

  -- the root has the spare cells of all passes
  rest_lines : (p k : ℕ) → each_resting (cells_from (n + p) k) ≡ first_lines (ring {T = T} (shape n laps)) p k
  rest_lines p zero = refl
  rest_lines p (suc k) = let e : n + p + 1 ≡ n + (p + 1) = omega arith in ap (λ (ls : List (Line T)). resting (n + p) ∷ ls) (ap (λ (c : ℕ). each_resting (cells_from c k)) e ∙ rest_lines (p + 1) k)

  root_lines : passes_of {T = T} (Stock (cells_from n passes) ∷ []) ≡ first_lines (ring {T = T} (shape n laps)) 0 passes
  root_lines = append-nil (each_resting (cells_from n passes)) ∙ (let e : n ≡ n + 0 = omega arith in ap (λ (c : ℕ). each_resting (cells_from c passes)) e) ∙ rest_lines 0 passes

  good : Good T n laps (cells T n laps passes) m (passes_of (Stock (cells_from n passes) ∷ [])) []
  good = subst (λ (ls : List (Line T)). Good T n laps (n + passes) m ls []) (sym root_lines) (shown_good T n laps passes m some_slot new)

  opens_all : (rule : List (Event T) → Type 0) → IsTie rule → Rule {names = _} (ring_with T n laps passes rule) (opening ws (replicate (n + passes) None) (first_view (Stock (cells_from n passes))))
  opens_all rule tie = record {
    history = [];
    good = good;
    seated = seated_first (shape_for T n laps passes) (core T n laps passes).holding (Stock (cells_from n passes));
    newest = newest_first T (Stock (cells_from n passes));
    sane = record { words_are = long; homes_are = homes_start T (n + passes); plain = λ q. absurd q };
    led = led_first (ring_with T n laps passes rule) (laws n laps passes) m first_is;
    tied = tie.first;
  }

-- words that are given one after another, and a number of slots
pub opens : (T : Type 0) (n laps passes : ℕ) (rule : List (Event T) → Type 0) → IsTie rule → (ws items : List ℕ) → ws ≡ items → 0 < n → n + passes ≤ NULL → length items ≡ words_for n → ((k : ℕ) → k < words_for n → slice_index items k ≡ start_at n k) → (count : ℕ) → count ≡ n + passes
    → Rule {names = _} (ring_with T n laps passes rule) (opening ws (replicate count None) (first_view (Stock (cells_from n passes))))
opens T n laps passes rule tie ws items e some_slot small long is count same = subst (λ (k : ℕ). Rule {names = _} (ring_with T n laps passes rule) (opening ws (replicate k None) (first_view (Stock (cells_from n passes))))) (sym same)
    (opens_all T n laps passes ws some_slot small (ap length e ∙ long) (λ k h. ap (λ (l : List ℕ). slice_index l k) e ∙ is k h) rule tie)

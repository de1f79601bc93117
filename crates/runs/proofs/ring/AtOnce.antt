-- No more passes of a ring are in an operation at once than it has spare cells for.
use Rattle.std.proofs.Common.{◌≡◌, ◌≢◌, ◌<◌, ◌≤◌, ℕ, zero, suc, ◌+◌, cond, ltb, List, [], ◌∷◌, ◌++◌, map, length, refl, ap, arith}
use Rattle.std.proofs.lemmas.Bool.Decides.{nat_tests}
use Rattle.std.proofs.lemmas.List.{length-append, length-map}
use Rattle.std.specs.List.{AllByRecursion as Every}
use Rattle.bounded_model.specs.declared.history.Event.{Event}
use Rattle.bounded_model.specs.Laws.{Apart}
use Rattle.bounded_model.proofs.Whole.{few}
use Rattle.machine.specs.Words.{Tagged, times, total}
use Rattle.machine.proofs.Lists.{times_here, times_append}
use Rattle.machine.proofs.Tests.{at_most_one}
use Rattle.ring_machine.specs.declared.lines.Line.{Line}
use Rattle.ring_machine.specs.Machine.{Memory, cell_of, held_cells}
use Rattle.ring_machine.specs.Rule.{Good, cells_in}
use Rattle.ring_table.specs.declared.line.SeatLine.{SeatLine}
use Rattle.ring_table.specs.declared.line.SeatLine.TheVariants.{Stock}
use Rattle.ring_table.specs.Seats.{passes_of}
use Rattle.ring_table.proofs.Seats.{sum_at}
use Rattle.runs.proofs.ring.Free.{sum_seats}

below_one : (c k : ℕ) → 0 < cond (ltb c k) 1 0 → c < k
below_one c k = grind (arith, nat_tests)

abbrev pair : ℕ → ℕ × ℕ
pair c = (c, c)

times_more : (c d : ℕ) (ds : List ℕ) → times c ds ≤ times c (d ∷ ds)
times_more c d ds = omega arith

none_there : (d : ℕ) (ds : List ℕ) → times d ds ≡ 0 → Every (λ b. b.0 ≢ d) (map pair ds)
none_there d [] none = tt
none_there d (e ∷ ds) none = (
  λ same. absurd (omega (arith, none, times_here e ds, ap (λ (c : ℕ). times c (e ∷ ds)) same)),
  none_there d ds (omega (arith, none, times_more d e ds)),
)

all_apart : (ds : List ℕ) → ((c : ℕ) → times c ds ≤ 1) → Apart (map pair ds)
all_apart [] once = tt
all_apart (d ∷ ds) once = (none_there d ds (omega (arith, once d, times_here d ds)), all_apart ds (λ c. omega (arith, once c, times_more c d ds)))

all_below : (k : ℕ) (ds : List ℕ) → ((c : ℕ) → times c ds ≤ cond (ltb c k) 1 0) → Every (λ b. b.0 < k) (map pair ds)
all_below k [] once = tt
all_below k (d ∷ ds) once = (below_one d k (omega (arith, once d, times_here d ds)), all_below k ds (λ c. omega (arith, once c, times_more c d ds)))

-- numbers below k, each of which stands in a list once at most, are k at most
few_numbers : (k : ℕ) (ds : List ℕ) → ((c : ℕ) → times c ds ≤ cond (ltb c k) 1 0) → length ds ≤ k
few_numbers k ds once = omega (arith, length-map ds pair, few k (map pair ds) (all_apart ds (λ c. omega (arith, once c, at_most_one c k))) (all_below k ds once))

many_slots : (k : ℕ) (slot : ℕ → Tagged) → length (cells_in k slot) ≡ k
many_slots zero slot = refl
many_slots (suc k) slot = omega (arith, many_slots k slot)

module _ {T : Type 0} where
  count_cells : (c : ℕ) (ls : List (Line T)) → times c (map cell_of ls) ≡ total (λ (l : Line T). times c (held_cells l)) ls
  count_cells c [] = refl
  count_cells c (l ∷ ls) = omega (arith, count_cells c ls)

  count_each : (ls : List (Line T)) → total (λ (l : Line T). 1) ls ≡ length ls
  count_each [] = refl
  count_each (l ∷ ls) = omega (arith, count_each ls)

  module _ (n laps passes : ℕ) (m : Memory T) (free : List ℕ) (seats : List (SeatLine T)) (h : List (Event T)) (k : Good T n laps (n + passes) m (passes_of (Stock free ∷ seats)) h) where
    abbrev ls : List (Line T)
    ls = passes_of (Stock free ∷ seats)

    abbrev all_cells : List ℕ
    all_cells = cells_in n m.slot ++ map cell_of ls

    once : (c : ℕ) → times c all_cells ≤ cond (ltb c (n + passes)) 1 0
    once c = omega (arith, times_append c (cells_in n m.slot) (map cell_of ls), count_cells c ls, k.once c)

    pub few_seats : total (sum_at (λ (l : Line T). 1)) seats ≤ passes
    few_seats = omega (
      arith,
      few_numbers (n + passes) all_cells once,
      length-append (cells_in n m.slot) (map cell_of ls),
      many_slots n m.slot,
      length-map ls cell_of,
      count_each ls,
      sum_seats (λ (l : Line T). 1) free seats,
    )

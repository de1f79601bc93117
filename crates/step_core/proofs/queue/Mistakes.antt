-- Why those of specs/queue/Mistakes are refused.
use Rattle.std.proofs.Common.{◌≡◌, ⊎_elim, ℕ, ◌+◌, ◌<◌, List, [], ◌∷◌, ◌++◌, map, length, refl, sym, ap, Some, None, Option as Slot, arith}
use Rattle.std.proofs.lemmas.Bool.{false≢true}
use mathlib.Core.Option.{Option, some}
use Rattle.tagged_index.specs.declared.word.TheConstants.{NULL}
use Rattle.bounded_model.specs.declared.history.Event.{Event}
use Rattle.bounded_model.specs.declared.history.Event.TheVariants.{Hold, Put, Take, Free, Close, Shut}
use Rattle.bounded_model.specs.Machine.{Legal}
use Rattle.machine.specs.Words.{times, Stands}
use Rattle.machine.proofs.Lists.{times_here}
use Rattle.queue_machine.specs.declared.lines.Line.TheVariants.{LoadNodes}
use Rattle.queue_machine.specs.declared.lines.Call.TheVariants.{Put as CallPut}
use Rattle.queue_machine.specs.Machine.{with_cell, next_of}
use Rattle.queue_machine.specs.Answers.{shape}
use Rattle.queue_machine.specs.Places.{NothingTwice}
use Rattle.step_core.specs.queue.Law.{Lawful, lines_of}
use Rattle.step_core.specs.queue.Mistakes.{WinsHeld, cell_held, cell_held_twice, node_held, node_held_twice, number_again, linked_late, dummy_free, left_there, overtaken, put_after_close, take_after_shut, wrong_cell, no_node, linked_aside}

-- two hands hold what may be in one place
once : (a b : ℕ) → a + b + 2 ≡ 1 → ⊥
once a b e = absurd (omega arith)

pub cell_held_twice-unlawful : ¬ Lawful ℕ 3 15 cell_held_twice
cell_held_twice-unlawful law = once (times 1 law.lists.cells) (times 1 (map cell_held_twice.memory.cell law.lists.behind)) (law.once.cells 1)

pub cell_held_by_two : ¬ NothingTwice 3 cell_held_twice.memory (lines_of cell_held_twice)
cell_held_by_two apart =
    absurd (omega (arith, apart.cells.one_hand 1 (record { pass = 1; line = _; at = refl; has = omega arith }) (record { pass = 2; line = _; at = refl; has = omega arith })))

pub wins_held_cell : WinsHeld (cell_held 2) (cell_held 3)
wins_held_cell won =
    ⊎_elim (λ had. absurd (omega arith)) (λ was. was.unheld (record { pass = 2; line = _; at = refl; has = omega arith })) (won.cells 1 (omega arith))

pub node_held_twice-unlawful : ¬ Lawful ℕ 3 15 node_held_twice
node_held_twice-unlawful law = once (times 2 law.lists.nodes) (times 2 (node_held_twice.memory.head.index ∷ law.lists.behind)) (law.once.nodes 2)

pub node_held_by_two : ¬ NothingTwice 3 node_held_twice.memory (lines_of node_held_twice)
node_held_by_two apart =
    absurd (omega (arith, apart.nodes.one_hand 2 (record { pass = 1; line = _; at = refl; has = omega arith }) (record { pass = 2; line = _; at = refl; has = omega arith })))

pub wins_held_node : WinsHeld (node_held 5) (node_held 6)
wins_held_node won =
    ⊎_elim (λ had. absurd (omega arith)) (λ was. was.unheld (record { pass = 2; line = _; at = refl; has = omega arith })) (won.nodes 2 (omega arith))

pub number_again-unlawful : ¬ Lawful ℕ 2 15 number_again
number_again-unlawful law =
    let legal : Legal {T = ℕ} (shape 2 15) (Free 0 1 ∷ Take 0 11 0 ∷ Free 0 1 ∷ Take 0 10 0 ∷ Put 0 (11 ∷ []) 1 ∷ Hold 0 ∷ Put 0 (10 ∷ []) 0 ∷ Hold 0 ∷ []) = law.legal in
    absurd (omega (arith, legal.1.0.2))

pub linked_late-unlawful : ¬ Lawful ℕ 2 15 linked_late
linked_late-unlawful law =
    let legal : Legal {T = ℕ} (shape 2 15) (Put 0 (10 ∷ []) 0 ∷ Put 1 (12 ∷ []) 1 ∷ Hold 1 ∷ Free 1 1 ∷ Take 1 11 0 ∷ Put 1 (11 ∷ []) 0 ∷ Hold 1 ∷ Hold 0 ∷ []) = law.legal in
    absurd (omega (arith, legal.0.3))

pub dummy_free-unlawful : ¬ Lawful ℕ 1 15 dummy_free
dummy_free-unlawful law = twice law.lists.nodes law.once.free_nodes (law.once.nodes 1)
  where
    twice : (list : List ℕ) → Stands dummy_free.memory.nlink 1 list → times 1 list + times 1 (1 ∷ law.lists.behind) + 0 ≡ 1 → ⊥
    twice [] s e = absurd (omega (arith, s))
    twice (i ∷ is) s e = absurd (omega (arith, e, ap (λ (k : ℕ). times 1 (k ∷ is)) s.0))

pub left_there-unlawful : ¬ Lawful ℕ 1 15 left_there
left_there-unlawful law = free law.lists.cells law.once.free_cells (law.once.empty 0)
  where
    full : ◌≡◌ {A = Option (Slot ℕ)} (some (Some 10)) (some None) → ⊥
    full e = cc

    free : (list : List ℕ) → Stands left_there.memory.clink 0 list → (0 < times 0 list → left_there.memory.home 0 ≡ some None) → ⊥
    free [] s empty = absurd (omega (arith, s))
    free (i ∷ is) s empty = full (empty (omega (arith, ap (λ (k : ℕ). times 0 (k ∷ is)) s.0, times_here 0 is)))

pub overtaken-unlawful : ¬ Lawful ℕ 2 15 overtaken
overtaken-unlawful law = behind law.lists.behind law.represents.chain (no_null (times NULL law.lists.nodes) (times NULL (1 ∷ law.lists.behind)) (law.once.nodes NULL)) (ap length law.represents.tail) law.counts.tail
  where
    no_null : (a b : ℕ) → a + b + 0 ≡ 0 → b ≡ 0
    no_null a b e = omega arith

    lengths : (before after : List ℕ) → length (before ++ 0 ∷ after) ≡ length before + 1 + length after
    lengths [] after = omega arith
    lengths (i ∷ is) after = let r = lengths is after in omega arith

    behind : (chain : List ℕ) → Stands (next_of overtaken.memory) 1 (1 ∷ chain) → times NULL (1 ∷ chain) ≡ 0 → length (1 ∷ chain) ≡ length (law.lists.before ++ 0 ∷ law.lists.after) → 0 + length law.lists.after ≡ 1 → ⊥
    behind [] s never e tag = absurd (omega (arith, lengths law.lists.before law.lists.after))
    behind (i ∷ is) s never e tag = let q : times NULL (i ∷ is) ≡ times NULL (NULL ∷ is) = ap (λ (k : ℕ). times NULL (k ∷ is)) (sym s.1.0) in absurd (omega (arith, q, times_here NULL is))

pub put_after_close-unlawful : ¬ Lawful ℕ 2 15 put_after_close
put_after_close-unlawful law =
    let legal : Legal {T = ℕ} (shape 2 15) (Put 0 (10 ∷ []) 0 ∷ Close 1 ∷ Hold 0 ∷ []) = law.legal in
    false≢true (sym legal.0.0)

pub take_after_shut-unlawful : ¬ Lawful ℕ 2 15 take_after_shut
take_after_shut-unlawful law =
    let legal : Legal {T = ℕ} (shape 2 15) (Take 0 10 0 ∷ Shut 1 ∷ Put 0 (10 ∷ []) 0 ∷ Hold 0 ∷ []) = law.legal in
    false≢true (sym legal.0.0)

pub wrong_cell-unlawful : ¬ Lawful ℕ 2 15 wrong_cell
wrong_cell-unlawful law = once (times 1 law.lists.cells) (times 1 (map wrong_cell.memory.cell law.lists.behind)) (law.once.cells 1)

pub no_node-unlawful : ¬ Lawful ℕ 1 15 no_node
no_node-unlawful law = (law.once.finds_node 1 (record { line = LoadNodes (with_cell 11 0); call = some (CallPut 11); begun = taken_before; seen = Hold 1 ∷ taken_before }) (with_cell 11 0) refl refl).0 refl
  where
    put_before : List (Event ℕ)
    put_before = Put 1 (10 ∷ []) 0 ∷ Hold 1 ∷ []

    taken_before : List (Event ℕ)
    taken_before = Free 0 1 ∷ Take 0 10 0 ∷ put_before

pub linked_aside-unlawful : ¬ Lawful ℕ 2 15 linked_aside
linked_aside-unlawful law =
    let legal : Legal {T = ℕ} (shape 2 15) (Put 0 (10 ∷ []) 0 ∷ Hold 1 ∷ Free 1 1 ∷ Take 1 11 0 ∷ Put 1 (11 ∷ []) 0 ∷ Hold 1 ∷ Hold 0 ∷ []) = law.legal in
    absurd (omega (arith, legal.0.3))

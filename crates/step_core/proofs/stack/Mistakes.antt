-- Why those of specs/stack/Mistakes are refused.
use Rattle.std.proofs.Common.{◌≡◌, ⊎_elim, ℕ, ◌+◌, List, [], ◌∷◌, refl, sym, ap, ◌∙◌, arith, Some, None, Option as Slot}
use Rattle.std.proofs.lemmas.Bool.{false≢true}
use mathlib.Core.Option.{Option, none, some, some-ne-none}
use Rattle.tagged_index.specs.declared.word.TheConstants.{NULL}
use Rattle.bounded_model.specs.declared.history.Event.TheVariants.{Hold, Put, Take, Free, Close, Shut}
use Rattle.bounded_model.specs.Machine.{Legal}
use Rattle.machine.specs.Words.{times, Stands}
use Rattle.machine.specs.Chains.{HasValues}
use Rattle.stack_machine.specs.Answers.{shape}
use Rattle.machine.proofs.OneList.{none_there}
use Rattle.stack_machine.specs.Places.{NoNodeTwice}
use Rattle.step_core.specs.stack.Law.{Lawful, lines_of}
use Rattle.step_core.specs.stack.Mistakes.{WinsHeld, node_held, node_held_twice, number_again, cut_off, forgotten, left_there, put_after_close, take_after_shut}

pub node_held_twice-unlawful : ¬ Lawful ℕ 3 15 node_held_twice
node_held_twice-unlawful law = once (times 1 law.frees) (times 1 law.stack) (law.once 1)
  where
    once : (a b : ℕ) → a + b + 2 ≡ 1 → ⊥
    once a b e = absurd (omega arith)

pub node_held_by_two : ¬ NoNodeTwice 3 node_held_twice.memory (lines_of node_held_twice)
node_held_by_two apart =
    absurd (omega (arith, apart.nodes.one_hand 1 (record { pass = 1; line = _; at = refl; has = omega arith }) (record { pass = 2; line = _; at = refl; has = omega arith })))

pub wins_held_node : WinsHeld (node_held 2) (node_held 3)
wins_held_node won =
    ⊎_elim (λ had. absurd (omega arith)) (λ was. was.unheld (record { pass = 2; line = _; at = refl; has = omega arith })) (won.nodes 1 (omega arith))

pub number_again-unlawful : ¬ Lawful ℕ 2 15 number_again
number_again-unlawful law =
    let legal : Legal {T = ℕ} (shape 2 15) (Put 0 (11 ∷ []) 1 ∷ Hold 0 ∷ Free 0 1 ∷ Take 0 10 1 ∷ Put 0 (10 ∷ []) 0 ∷ Hold 0 ∷ []) = law.legal in
    absurd (omega (arith, legal.0.3))

no_slot : (v : ℕ) → ◌≡◌ {A = Option (Slot ℕ)} none (some (Some v)) → ⊥
no_slot v e = some-ne-none (Some v) (sym e)

pub cut_off-unlawful : ¬ Lawful ℕ 2 15 cut_off
cut_off-unlawful law = two law.stack law.top_stands law.stored
  where
    two : (list : List ℕ) → Stands cut_off.memory.link cut_off.memory.top.index list → HasValues cut_off.memory.home list (10 ∷ 11 ∷ []) → ⊥
    two [] s v = v
    two (i ∷ []) s v = v.1
    two (i ∷ j ∷ js) s v =
        let below : NULL ≡ j = ap cut_off.memory.link s.0 ∙ s.1.0 in
        no_slot 11 (ap cut_off.memory.home below ∙ v.1.0)

pub forgotten-unlawful : ¬ Lawful ℕ 1 15 forgotten
forgotten-unlawful law =
    let no_null : times NULL law.frees + times NULL law.stack + 0 ≡ 0 = law.once NULL in
    let no_frees : law.frees ≡ [] = none_there forgotten.memory.link NULL law.frees refl (omega arith) law.free_stands in
    let no_stack : law.stack ≡ [] = none_there forgotten.memory.link NULL law.stack refl (omega arith) law.top_stands in
    let somewhere : times 0 law.frees + times 0 law.stack + 0 ≡ 1 = law.once 0 in
    absurd (omega (arith, somewhere, ap (times 0) no_frees, ap (times 0) no_stack))

pub left_there-unlawful : ¬ Lawful ℕ 1 15 left_there
left_there-unlawful law =
    let no_null : times NULL law.frees + times NULL law.stack + 0 ≡ 0 = law.once NULL in
    let no_stack : law.stack ≡ [] = none_there left_there.memory.link NULL law.stack refl (omega arith) law.top_stands in
    let once : times 0 law.frees + times 0 law.stack + 0 ≡ 1 = law.once 0 in
    full (law.empty 0 (omega (arith, once, ap (times 0) no_stack)))
  where
    full : ◌≡◌ {A = Option (Slot ℕ)} (some (Some 10)) (some None) → ⊥
    full e = cc

pub put_after_close-unlawful : ¬ Lawful ℕ 1 15 put_after_close
put_after_close-unlawful law =
    let legal : Legal {T = ℕ} (shape 1 15) (Put 0 (10 ∷ []) 0 ∷ Close 1 ∷ Hold 0 ∷ []) = law.legal in
    false≢true (sym legal.0.0)

pub take_after_shut-unlawful : ¬ Lawful ℕ 1 15 take_after_shut
take_after_shut-unlawful law =
    let legal : Legal {T = ℕ} (shape 1 15) (Take 0 10 1 ∷ Shut 1 ∷ Put 0 (10 ∷ []) 0 ∷ Hold 0 ∷ []) = law.legal in
    false≢true (sym legal.0.0)

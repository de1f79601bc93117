-- The rule holds of a new stack, and what the words say wherever it holds.
use Rattle.std.proofs.Common.{◌≡◌, ℕ, zero, suc, ◌<◌, ◌≤◌, List, [], ◌∷◌, length, replicate, refl, sym, ap, ◌∙◌, subst, arith}
use Rattle.std.specs.Prelude.{None}
use mathlib.Core.Option.{Option, none, some, some-injective}
use lib.ListN.{get_elem?}
use Rattle.tagged_index.specs.declared.word.TheConstants.{NULL}
use Rattle.bounded_model.specs.declared.history.Event.{Event}
use Rattle.machine.specs.Words.{times, Stands, start_link}
use Rattle.machine.specs.Chains.{values_in, HasValues}
use Rattle.machine.proofs.Sums.{total_same, same_at}
use Rattle.machine.proofs.Chains.{first_value}
use Rattle.machine.proofs.Lists.{leads_frame}
use Rattle.machine.proofs.Starts.{from, from_stands, from_all, from_low, from_length}
use Rattle.machine.proofs.Tests.{if_below}
use Rattle.stack_machine.specs.declared.lines.Line.{Line}
use Rattle.stack_machine.specs.declared.lines.Line.TheVariants.{Idle}
use Rattle.stack_machine.specs.Answers.{shape, state}
use Rattle.stack_machine.specs.Machine.{Memory, held, start}
use Rattle.stack_machine.specs.Rule.{Kept, Lists, IsFine, putting, Good}
use Rattle.stack_machine.proofs.Moves.{all_nodes, all_values}
use Rattle.stack_machine.proofs.Answers.{full_now, free_spent_now}
use Rattle.stack_machine.proofs.Doing.{Stocked, Reads}

module _ {T : Type 0} where
  pub start_kept : (n limit passes : ℕ) → 0 < n → n ≤ NULL → Kept T n limit (start (shape n limit)) some (replicate passes (Idle None)) []
  start_kept zero limit passes h small = absurd (omega arith)
  start_kept (suc k) limit passes h small = record {
    lists = record { frees = from 0 (suc k); stack = [] };
    good = record {
      linked = record {
        small = small;
        free_stands = leads_frame (start_link (suc k)) (start {T = T} (shape (suc k) limit)).link (from 0 (suc k)) 0 NULL (λ i there. if_below i (suc k) (start_link (suc k) i) 0 (from_low (suc k) i there)) (from_stands (suc k) k 0 (omega arith));
        top_stands = refl;
        once = λ i. omega (arith, from_all i (suc k), total_same (λ (l : Line T). times i (held l)) (Idle None) passes refl);
        fine = λ p l e. subst (IsFine limit (start (shape (suc k) limit)) (record { frees = from 0 (suc k); stack = [] })) (same_at passes p (Idle None) l e) tt;
      };
      filled = record { empty = λ i there. if_below i (suc k) (some None) none (from_low (suc k) i there); stored = tt };
      told = record {
        legal = tt;
        room = omega (arith, from_length (suc k) 0);
        out = sym (total_same (λ (l : Line T). length (held l)) (Idle None) passes refl);
        listed = refl;
        hands = λ q p l e of. ap (λ (x : Line T). length (held x)) (same_at passes q (Idle None) l e);
        alone = λ q r p e f. some-injective q r (e ∙ sym f);
        closed = refl;
        shut = refl;
        free_tag = refl;
        top_tag = refl;
        free_limit = omega arith;
        top_limit = omega arith;
        spare = omega (arith, total_same (λ (l : Line T). length (putting l)) (Idle None) passes refl);
      };
    };
  }

  -- what the words say, wherever the rule holds
  pub reads_good : (n limit : ℕ) (m : Memory T) (g : Lists) (who : ℕ → Option ℕ) (lines : List (Line T)) (h : List (Event T)) (q : ℕ) (l : Line T) → Good T n limit m g who lines h → get_elem? lines q ≡ some l → Reads (shape n limit) m g h
  reads_good n limit m g who lines h q l x e =
      let nodes = all_nodes q l m.top x e refl in
      record {
        full = λ null. full_now x null;
        spent = λ least. let at = free_spent_now x least in at.0.1.1 ∙ at.0.1.0;
        valued = ap (λ (is : List ℕ). length (values_in m.home is)) nodes ∙ ap length (all_values x) ∙ sym x.told.listed ∙ sym (ap length nodes);
        stocked = λ some_node. top_value g.stack (state n limit h).values some_node x.linked.top_stands x.filled.stored;
      }
    where
      top_value : (is : List ℕ) (vs : List T) → 0 < length is → Stands m.link m.top.index is → HasValues m.home is vs → Stocked m.home m.top.index
      top_value [] vs some_node stands stored = absurd (omega arith)
      top_value (i ∷ is) vs some_node stands stored =
          let first = first_value m.home i is vs stored in
          record { value = first.value; here = ap m.home stands.0 ∙ first.here }

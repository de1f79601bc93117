-- A new queue meets the rule; and where the rule holds, the last link has the mark exactly where the
-- queue is closed.
use Rattle.std.proofs.Common.{◌≡◌, ◌≢◌, ℕ, zero, suc, ◌+◌, ◌<◌, false, cond, ltb, List, [], ◌∷◌, ◌++◌, length, replicate, refl, sym, ap, ◌∙◌, subst, ne_eqb, None, arith}
use Rattle.std.proofs.lemmas.Bool.{false≢true}
use mathlib.Core.Option.{Option, none, some, some-injective}
use Rattle.tagged_index.specs.declared.word.TheConstants.{NULL}
use Rattle.bounded_model.specs.declared.history.Event.{Event}
use Rattle.machine.specs.Words.{Stands, Tagged, start_link, start_word, times, total}
use Rattle.machine.specs.Chains.{last}
use Rattle.machine.proofs.Tests.{cases, at_most_one, if_below}
use Rattle.machine.proofs.Sums.{total_same, same_at}
use Rattle.machine.proofs.Lists.{times_here, not_there, leads_frame, leads_from}
use Rattle.machine.proofs.Starts.{from, from_stands, from_all, from_low, from_length}
use Rattle.queue_machine.specs.declared.lines.Line.{Line}
use Rattle.queue_machine.specs.declared.lines.Line.TheVariants.{Idle}
use Rattle.queue_machine.specs.Machine.{Memory, held_cells, held_nodes, start_nlink, start}
use Rattle.queue_machine.specs.Answers.{shape, state}
use Rattle.queue_machine.specs.Rule.{Lists, IsFine, bare, wanting, putting, Good, Kept}
use Rattle.queue_machine.proofs.Chain.{at_end}
use Rattle.queue_machine.proofs.Linked.{no_null}
use Rattle.queue_machine.proofs.Answers.{same_truth}

-- at the start

abbrev in_range : ℕ → ℕ → ℕ
in_range j n = cond (ltb j n) 1 0

split_from : (j n : ℕ) → times j (from 0 (suc n)) ≡ times j (from 1 n) + times j (0 ∷ [])
unfolding from
split_from j n = omega arith

free_nodes_stand : (k : ℕ) → Stands (start_nlink (suc k)) 1 (from 1 (suc k))
free_nodes_stand k = leads_frame (start_link (suc k + 1)) (start_nlink (suc k)) (from 1 (suc k)) 1 NULL
    (λ j there. let ne : j ≢ 0 = not_there 0 j (from 1 (suc k)) (omega (arith, split_from 0 (suc k), from_all 0 (suc (suc k)), at_most_one 0 (suc (suc k)), times_here 0 [])) there in rw (ne_eqb j 0 ne) refl)
    (from_stands (suc k + 1) k 1 (omega arith))

last_append : (is : List ℕ) (i : ℕ) (js : List ℕ) → last (is ++ i ∷ js) ≡ last (i ∷ js)
last_append [] i js = refl
last_append (x ∷ []) i js = refl
last_append (x ∷ y ∷ is) i js = last_append (y ∷ is) i js

module _ {T : Type 0} where
  -- The words of a new queue: all cells are free, and all nodes but the dummy. Of words that belong to
  -- no index it asks only that no link has a mark, a tag, or the name of something that is no node
  record IsNew (n : ℕ) (m : Memory T) : Type 0 where
    pub cells : m.cells ≡ start_word 0
    pub nodes : m.nodes ≡ start_word 1
    pub head : m.head ≡ start_word 0
    pub tail : m.tail ≡ start_word 0
    pub clink : (i : ℕ) → i < n → m.clink i ≡ start_link n i
    pub nlink : (j : ℕ) → j < n + 1 → m.nlink j ≡ start_nlink n j
    pub dummy : (m.next 0).index ≡ NULL
    pub unmarked : (j : ℕ) → (m.next j).mark ≡ false
    pub untagged : (j : ℕ) → (m.next j).tag ≡ 0
    pub named : (j : ℕ) → (m.next j).index ≢ NULL → (m.next j).index < n + 1
    pub home : (i : ℕ) → i < n → m.home i ≡ some None

  new_kept : (n limit passes : ℕ) (m : Memory T) → 0 < n → n < NULL → 0 < limit → IsNew n m → Kept T n limit m some (replicate passes (Idle None)) []
  new_kept zero limit passes m h small some_tags new = absurd (omega arith)
  new_kept (suc k) limit passes m h small some_tags new =
      let g : Lists = record { cells = from 0 (suc k); nodes = from 1 (suc k); chain = 0 ∷ []; before = []; after = []; queued = [] } in
      let none_held : (f : Line T → ℕ) → f (Idle None) ≡ 0 → total f (replicate passes (Idle None)) ≡ 0 = λ f e. total_same f (Idle None) passes e in
      let index : (x y : Tagged) → x ≡ y → x.index ≡ y.index = λ x y e. ap (λ (w : Tagged). w.index) e in
      let tag : (x y : Tagged) → x ≡ y → x.tag ≡ y.tag = λ x y e. ap (λ (w : Tagged). w.tag) e in
      let head = index m.head (start_word 0) new.head in
      let tail = index m.tail (start_word 0) new.tail in
      let end : (m.next m.tail.index).index ≡ NULL = ap (λ (j : ℕ). (m.next j).index) tail ∙ new.dummy in
      record {
        lists = g;
        good = record {
          linked = record {
            small = small;
            cells_stand = leads_from m.clink 0 m.cells.index (from 0 (suc k)) NULL (sym (index m.cells (start_word 0) new.cells))
                (leads_frame (start_link (suc k)) m.clink (from 0 (suc k)) 0 NULL (λ i there. new.clink i (from_low (suc k) i there)) (from_stands (suc k) k 0 (omega arith)));
            nodes_stand = leads_from m.nlink 1 m.nodes.index (from 1 (suc k)) NULL (sym (index m.nodes (start_word 1) new.nodes))
                (leads_frame (start_nlink (suc k)) m.nlink (from 1 (suc k)) 1 NULL (λ j there. let b = from_low (suc (suc k)) j (omega (arith, split_from j (suc k))) in new.nlink j (omega arith)) (free_nodes_stand k));
            chained = record {
              stands = (head, new.dummy);
              split = ap (λ (j : ℕ). j ∷ []) (sym tail);
              short = omega arith;
              place = omega (arith, tag m.tail (start_word 0) new.tail, tag m.head (start_word 0) new.head);
              stored = refl;
              tidy = λ j e. absurd (false≢true (sym (new.unmarked j) ∙ e));
            };
            named = new.named;
            cells_once = λ i. omega (arith, from_all i (suc k), none_held (λ l. times i (held_cells l)) refl);
            nodes_once = λ j. omega (arith, from_all j (suc (suc k)), split_from j (suc k), none_held (λ l. times j (held_nodes l)) refl, ap (in_range j) (more k));
            fine = λ p l e. subst (IsFine limit m g) (same_at passes p (Idle None) l e) tt;
          };
          filled = record { empty = λ i there. new.home i (from_low (suc k) i there); stored = tt };
          numbered = record {
            cells_limit = omega (arith, tag m.cells (start_word 0) new.cells);
            nodes_tag = omega (arith, none_held wanting refl, tag m.nodes (start_word 1) new.nodes);
            next_limit = λ j. omega (arith, new.untagged j);
            next_small = λ j. omega (arith, new.untagged j);
            fresh = λ e. record { null = end; unmarked = e; below = omega (arith, new.untagged m.tail.index); small = omega (arith, new.untagged m.tail.index) };
          };
          told = record {
            legal = tt;
            room = omega (arith, from_length (suc k) 0);
            spare = omega (arith, from_length (suc k) 0, from_length (suc k) 1, none_held bare refl);
            out = sym (none_held (λ l. length (held_cells l)) refl);
            listed = refl;
            hands = λ q p l e of. ap (λ (x : Line T). length (held_cells x)) (same_at passes q (Idle None) l e);
            alone = λ q r p e f. some-injective q r (e ∙ sym f);
            closed_marked = λ e. absurd (false≢true e);
            marked_closed = λ j e. absurd (false≢true (sym (new.unmarked j) ∙ e));
            shut = ap (λ (w : Tagged). w.second) new.head;
            cells_tag = tag m.cells (start_word 0) new.cells;
            head_tag = tag m.head (start_word 0) new.head;
            balance = refl;
            ahead = omega (arith, none_held putting refl);
          };
        };
      }
    where
      more : (k : ℕ) → suc (suc k) ≡ suc k + 1
      more k = omega arith

  pub start_kept : (n limit passes : ℕ) → 0 < n → n < NULL → 0 < limit → Kept T n limit (start (shape n limit)) some (replicate passes (Idle None)) []
  start_kept n limit passes h small some_tags = new_kept n limit passes (start (shape n limit)) h small some_tags (record {
    cells = refl;
    nodes = refl;
    head = refl;
    tail = refl;
    clink = λ i below. if_below i (n + 1) (start_link n i) 0 (omega arith);
    nlink = λ j below. if_below j (n + 1) (start_nlink n j) 0 below;
    dummy = ap (λ (w : Tagged). w.index) (if_below 0 (n + 1) (start_word NULL) (start_word 0) (omega arith));
    unmarked = λ j. cases (λ (w : Tagged). w.mark ≡ false) (ltb j (n + 1)) (start_word NULL) (start_word 0) (λ b. refl) (λ b. refl);
    untagged = λ j. cases (λ (w : Tagged). w.tag ≡ 0) (ltb j (n + 1)) (start_word NULL) (start_word 0) (λ b. refl) (λ b. refl);
    named = λ j. cases (λ (w : Tagged). w.index ≢ NULL → w.index < n + 1) (ltb j (n + 1)) (start_word NULL) (start_word 0) (λ b node. absurd (node refl)) (λ b node. omega arith);
    home = λ i below. if_below i n (some None) none below;
  })

  -- the last link has the mark exactly where the history is closed
  pub end_marked : {n limit : ℕ} {m : Memory T} {g : Lists} {who : ℕ → Option ℕ} {lines : List (Line T)} {history : List (Event T)} → Good T n limit m g who lines history → (m.next (last g.chain)).mark ≡ (state n limit history).closed
  end_marked {n} {limit} {m} {g} {history = history} x =
      ap (λ (is : List ℕ). (m.next (last is)).mark) x.linked.chained.split ∙ ap (λ (j : ℕ). (m.next j).mark) (last_append g.before m.tail.index g.after) ∙ same_truth (m.next (last (m.tail.index ∷ g.after))).mark (state n limit history).closed
      (x.told.marked_closed (last (m.tail.index ∷ g.after)))
      (λ h.
      let end : g.after ≡ [] = at_end x.linked.chained (omega (arith, no_null x.linked)) (x.linked.chained.tidy m.tail.index (x.told.closed_marked h)) in
      ap (λ (is : List ℕ). (m.next (last (m.tail.index ∷ is))).mark) end ∙ x.told.closed_marked h)

-- What each line of the queue needs for its step to be made on the table, from the rule.
use Rattle.std.proofs.Common.{◌≡◌, ◌≢◌, ℕ, ◌+◌, ◌<◌, ⊎_elim, Bool, true, false, cond, List, [], ◌∷◌, ◌++◌, length, set, refl, sym, ap, subst, lt_of_not-le, arith}
use Rattle.std.specs.Prelude.{slice_index, Option as Slot, Some, None}
use mathlib.Core.Option.{Option, some}
use lib.ListN.{get_elem?}
use Rattle.tagged_index.specs.Fields.{fields_of}
use Rattle.tagged_index.specs.declared.word.TheConstants.{NULL}
use Rattle.tagged_index.proofs.Words.{fields_of-number}
use Rattle.bounded_model.specs.declared.history.Event.{Event}
use Rattle.bounded_model.specs.declared.history.Event.TheVariants.{Put}
use Rattle.machine.specs.Words.{Tagged, raised, same, times}
use Rattle.machine.proofs.Lists.{times_here}
use Rattle.machine.proofs.Sums.{total_one}
use Rattle.machine.proofs.Tests.{not_below}
use Rattle.queue_machine.specs.declared.lines.Seeking.TheVariants.{ToLink}
use Rattle.queue_machine.specs.declared.lines.Line.{Line}
use Rattle.queue_machine.specs.declared.lines.Line.TheVariants.{LoadCells, LoadCellLink, TakeCell, LoadNodes, LoadNodeLink, TakeNode, StoreCell, PrepareNext, LoadTail, LoadTailNext, CheckTail, SwingTail, LinkNext, SwingToLinked, MarkNext, LoadHead, LoadHeadNext, CheckHead, SwingTailToTake, LoadCell, TakeHead, LinkToNodes, GiveNode, LinkToCells, GiveCell, LoadHeadToLook, LoadTailToCount, ShutHead}
use Rattle.queue_machine.specs.Machine.{Memory, table, Outcome, step, goes_on, wins, null_word, ends, with_cell, held_nodes, held_cells, found_back, found_front, after_link}
use Rattle.queue_machine.specs.Answers.{shape}
use Rattle.queue_machine.specs.Rule.{Lists, Ends, IsFine, Good, Kept}
use Rattle.queue_machine.proofs.Linked.{cell_below, node_below, head_below, tail_below, held_below}
use Rattle.queue_machine.proofs.StepKinds.{hold_slot, finds_value}
use Rattle.queue_machine.proofs.Step.{step_kept}
use Rattle.queue_machine.proofs.Raises.{swing_below, ends_below, take_below}
use Rattle.running.specs.Machine.{Does}
use Rattle.running.specs.Tables.{Needs}
use Rattle.running.proofs.Does.{does_all}
use Rattle.running.proofs.Keeps.{there}
use Rattle.running.proofs.Indexes.{stands_in}
use Rattle.queue_table.specs.Layout.{head_at, tail_at, next_at, cell_at}
use Rattle.queue_table.specs.Lines.{next, HasRoom}
use Rattle.queue_table.specs.Memories.{memory_of, Sane}
use Rattle.queue_table.specs.Core.{board, rules, core}
use Rattle.queue_table.proofs.Memories.{lies, plain, at_home_is}
use Rattle.queue_machine.specs.declared.lines.Number.TheVariants.{CellLink, NodeLink, Cell}

alone : (i : ℕ) → 0 < times i (i ∷ [])
alone i = omega (arith, times_here i [])

module _ {T : Type 0} (n limit : ℕ) (words : List ℕ) (homes : List (Option (Slot T))) (sane : Sane n words homes) (p : ℕ) where
  abbrev m : Memory T
  m = memory_of words homes

  abbrev steps : Line T → Outcome T
  steps l = step (shape n limit) m p l

  inside : (i : ℕ) → i < n + 1 → cell_at i < length words
  inside i low = let w = sane.words_are in omega arith

  cond_line : (b : Bool) (won lost : Outcome T) → (cond b won lost).line ≡ cond b won.line lost.line
  cond_line true won lost = refl
  cond_line false won lost = refl

  module _ (of : ℕ → Option ℕ) (lines : List (Line T)) (h : List (Event T)) (q : ℕ) (k : Kept T n limit m of lines h) (is : of q ≡ some p) where
    abbrev g : Lists
    g = k.lists

    -- the line that the step of l leads to is fine afterwards, in a state that meets the rule
    record Arrives (l' : Line T) : Type 0 where
      memory : Memory T
      lists : Lists
      lines' : List (Line T)
      history : List (Event T)
      good : Good T n limit memory lists of lines' history
      fine : IsFine limit memory lists l'

    arrives : (l l' : Line T) → get_elem? lines q ≡ some l → (steps l).line ≡ l' → Arrives l'
    arrives l l' e to =
        let after = step_kept n limit m of lines h q p is k l e in
        record {
          memory = (steps l).memory;
          lists = after.lists;
          lines' = set lines q (steps l).line;
          history = (steps l).events ++ h;
          good = after.good;
          fine = subst (IsFine limit (steps l).memory after.lists) to (after.good.linked.fine q (steps l).line (there lines q l (steps l).line e));
        }

    has_room : (l : Line T) → Arrives l → HasRoom limit l
    has_room (SwingTail s w x) a = swing_below a.good w x a.fine.1
    has_room (LinkNext link w x) a = ends_below a.good w x a.fine.1
    has_room (SwingToLinked v w x) a = swing_below a.good w x a.fine
    has_room (MarkNext w x) a = ends_below a.good w x a.fine
    has_room (SwingTailToTake w x) a = swing_below a.good w x a.fine
    has_room (TakeHead u x c) a = take_below a.good u a.fine.4
    has_room l a = tt

    held_cell : (l : Line T) (i : ℕ) → get_elem? lines q ≡ some l → 0 < times i (held_cells l) → i < length homes
    held_cell l i e mine =
        let low : i < n = lt_of_not-le (λ above. absurd (omega (arith, k.good.linked.cells_once i, total_one (λ u. times i (held_cells u)) lines q l e, not_below i n above))) in
        let w = sane.homes_are in omega arith

    held_node : (l : Line T) (j : ℕ) → get_elem? lines q ≡ some l → 0 < times j (held_nodes l) → j < n + 1
    held_node l j e mine = held_below q j l k.good.linked e mine

    first_cell : m.cells.index ≢ NULL → m.cells.index < n
    first_cell ne = cell_below m.cells.index k.good.linked (let t = stands_in m.clink m.cells.index g.cells k.good.linked.cells_stand ne in omega arith)

    first_node : m.nodes.index ≢ NULL → m.nodes.index < n + 1
    first_node ne = node_below m.nodes.index k.good.linked (let t = stands_in m.nlink m.nodes.index g.nodes k.good.linked.nodes_stand ne in omega arith)

    -- the node whose link is exchanged is the last
    end_node : (w y : Tagged) → Ends m.tail m.next w y → fields_of (slice_index words (next_at w.index)) ≡ y → w.index < n + 1
    end_node w y ends hit = let t = tail_below k.good.linked in let e = (ends.last (ap (λ (u : Tagged). u.tag) (sym hit))).1 in omega arith

    needs : (l : Line T) → get_elem? lines q ≡ some l → Needs (board T n limit) words homes l (table limit l)
    needs (LoadCells v) e = first_cell
    needs (LoadCellLink v w) e = sane.plain (CellLink w.index)
    needs (TakeCell v w c) e =
        let f = k.good.linked.fine q (TakeCell v w c) e in
        (λ hit. (omega arith, record { slots = (w.index, None) ∷ []; apart = (λ z. z, tt); home = (at_home_is homes w.index None (hold_slot q (TakeCell v w c) (LoadNodes (with_cell v w.index)) k.good e w hit f.0), tt); fits = refl; are = refl; to = _; replies = refl }), tt)
    needs (LoadNodes put) e = first_node
    needs (LoadNodeLink put w) e = sane.plain (NodeLink w.index)
    needs (TakeNode put w j) e = (λ hit. (omega arith, tt), tt)
    needs (StoreCell link) e = (inside link.node (held_node (StoreCell link) link.node e (alone link.node)), tt)
    needs (PrepareNext link y) e =
        let low = inside link.node (held_node (PrepareNext link y) link.node e (alone link.node)) in
        (omega arith, fields_of-number (null_word (y.tag + 1)) (omega arith), tt)
    needs (LoadTail s) e = tail_below k.good.linked
    needs (LoadTailNext s w) e = k.good.linked.named w.index
    needs (CheckTail s w y) e =
        let l : Line T = CheckTail s w y in
        let y' : Line T = next limit l (slice_index words tail_at) [] in
        has_room y' (arrives l y' e (cond_line (same m.tail w) (goes_on m (found_back s w y)) (goes_on m (LoadTail s))))
    needs (SwingTail s w y) e = (λ hit. omega arith, tt)
    needs (LinkNext link w y) e =
        let l : Line T = LinkNext link w y in
        let f = k.good.linked.fine q l e in
        let go : Outcome T = wins (after_link m w y link) (SwingToLinked link.value w (raised y link.node)) (Put p (link.value ∷ []) w.tag) in
        let y' : Line T = next limit l (slice_index words (next_at w.index)) [] in (
          λ hit. (let b = inside w.index (end_node w y f.1 hit) in omega arith, record { apart = (λ z. z, tt); low = λ i there. ⊎_elim (λ e'. subst (λ (c : ℕ). c < length homes) (sym e') (held_cell l link.cell e (alone link.cell))) (λ z. absurd z) there }),
          has_room y' (arrives l y' e (cond_line (same (m.next w.index) y) go (goes_on m (LoadTail (ToLink link))))),
        )
    needs (SwingToLinked v w y) e = (λ hit. omega arith, tt)
    needs (MarkNext w y) e = (λ hit. (let b = inside w.index (end_node w y (k.good.linked.fine q (MarkNext w y) e) hit) in omega arith, tt), tt)
    needs LoadHead e = head_below k.good.linked
    needs (LoadHeadNext u w) e = k.good.linked.named u.index
    needs (CheckHead u w y) e =
        let l : Line T = CheckHead u w y in
        let y' : Line T = next limit l (slice_index words head_at) [] in
        has_room y' (arrives l y' e (cond_line (same m.head u) (goes_on m (found_front u w y)) (goes_on m LoadHead)))
    needs (SwingTailToTake w y) e = (λ hit. omega arith, tt)
    needs (LoadCell u y) e = (sane.plain (Cell y.index), has_room (TakeHead u y (m.cell y.index)) (arrives (LoadCell u y) (TakeHead u y (m.cell y.index)) e refl))
    needs (TakeHead u y c) e =
        let f = k.good.linked.fine q (TakeHead u y c) e in
        let finds : m.head ≡ u → _ = λ hit. finds_value k.good u y c hit f.2 f.3 f.4 f.5 in (
          λ hit. let v = finds hit in
              (omega arith, record { slots = (c, Some v.value) ∷ []; apart = (λ z. z, tt); home = (at_home_is homes c (Some v.value) v.here, tt); fits = (v.value, refl); are = refl; to = _; replies = refl }),
          λ hit. (finds hit).below,
        )
    needs (LinkToNodes give w) e = (let b = inside give.node (held_node (LinkToNodes give w) give.node e (alone give.node)) in omega arith, tt)
    needs (GiveNode give w) e = (λ hit. (omega arith, tt), tt)
    needs (LinkToCells give w) e =
        let held = held_cell (LinkToCells give w) give.cell e (alone give.cell) in
        let low : give.cell < n + 1 = let z = sane.homes_are in omega arith in
        (let b = inside give.cell low in omega arith, tt)
    needs (GiveCell give w) e = (λ hit. (omega arith, record { apart = (λ z. z, tt); low = λ i there. ⊎_elim (λ e'. subst (λ (c : ℕ). c < length homes) (sym e') (held_cell (GiveCell give w) give.cell e (alone give.cell))) (λ z. absurd z) there }), tt)
    needs LoadHeadToLook e = head_below k.good.linked
    needs (LoadTailToCount u) e = tail_below k.good.linked
    needs (ShutHead u) e = (λ hit. (omega arith, tt), tt)
    needs l e = tt

    pub does : (l : Line T) → get_elem? lines q ≡ some l → Does (core T n limit) words homes p l ((core T n limit).access l)
    does l e = does_all (board T n limit) (rules T n limit) (lies T n) plain words homes sane p l (needs l e)

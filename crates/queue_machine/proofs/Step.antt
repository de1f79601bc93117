-- A step of any pass of the queue keeps what holds between any two steps, from any state where it holds.
use Rattle.std.proofs.Common.{◌≡◌, ◌≢◌, ℕ, ◌+◌, ◌*◌, ◌<◌, ◌≤◌, true, false, cond, eqb, leb, List, [], ◌∷◌, ◌++◌, set, refl, sym, ap, ◌∙◌, subst, eqb-true, Option as Slot, Some, None, Ok, Err, arith}
use Rattle.std.proofs.lemmas.Bool.Decides.{nat_tests}
use mathlib.Core.Option.{Option, some}
use lib.ListN.{get_elem?}
use Rattle.tagged_index.specs.declared.word.TheConstants.{NULL}
use Rattle.bounded_model.specs.declared.answers.Word.TheVariants.{Cells as CellsWord, Nodes as NodesWord, Next as NextWord}
use Rattle.bounded_model.specs.declared.answers.PutRefused.TheVariants.{Spent as PutSpent}
use Rattle.bounded_model.specs.declared.answers.TakeRefused.TheVariants.{Empty as TakeEmpty, Closed as TakeClosed, Shut as TakeShut}
use Rattle.bounded_model.specs.declared.history.Event.{Event}
use Rattle.bounded_model.specs.declared.history.Event.TheVariants.{Put}
use Rattle.machine.specs.Words.{Tagged, raised}
use Rattle.machine.proofs.Tests.{cases}
use Rattle.machine.proofs.Program.{Cases, by_cases}
use Rattle.machine.proofs.Lists.{times_here, store_here}
use Rattle.machine.proofs.OneList.{read_top}
use Rattle.queue_machine.specs.declared.lines.Placing.{Placing}
use Rattle.queue_machine.specs.declared.lines.Linking.{Linking}
use Rattle.queue_machine.specs.declared.lines.Seeking.{Seeking}
use Rattle.queue_machine.specs.declared.lines.Seeking.TheVariants.{ToLink, ToRefuse, ToClose, ToGauge}
use Rattle.queue_machine.specs.declared.lines.Answer.TheVariants.{Put as AnswerPut, Take as AnswerTake, Close as AnswerClose, Shut as AnswerShut, Look as AnswerLook, Len as AnswerLen, Gauge as AnswerGauge}
use Rattle.queue_machine.specs.declared.lines.Line.{Line}
use Rattle.queue_machine.specs.declared.lines.Line.TheVariants.{Idle, LoadCells, LoadCellLink, TakeCell, LoadNodes, LoadNodeLink, TakeNode, StoreCell, LoadNext, PrepareNext, LoadTail, LoadTailNext, CheckTail, SwingTail, LinkNext, SwingToLinked, MarkNext, LoadHead, LoadTailToTake, LoadHeadNext, CheckHead, SwingTailToTake, LoadCell, TakeHead, LoadNodesToGive, LinkToNodes, GiveNode, LoadCellsToGive, LinkToCells, GiveCell, LoadHeadToLook, LoadNextToLook, CheckHeadToLook, LoadHeadToCount, LoadTailToCount, LoadNextToCount, CheckHeadToCount, CheckNextToGauge, LoadHeadToShut, ShutHead}
use Rattle.queue_machine.specs.Machine.{Memory, memories, Outcome, table, null_word, goes_on, wins, wins_value, step, ends, gives, frees, with_cell, with_node, found_cells, found_nodes, back_closed, back_null, found_back, found_front, counted, after_next, after_link, after_swing}
use Rattle.queue_machine.specs.Answers.{shape}
use Rattle.queue_machine.specs.Rule.{Lists, Lags, Ends, IsFresh, Seeks, IsFine, Kept}
use Rattle.queue_machine.proofs.Chain.{word_here, past_refl, was_refl, at_front, never_behind, tail_in}
use Rattle.queue_machine.proofs.Linked.{seeks_later, held_node}
use Rattle.queue_machine.proofs.StepKinds.{Alike, steady, good_goes, good_clink, good_nlink, good_cell, good_next, good_hold, good_free, good_node_take, good_node_give, good_link, good_close, good_swing, good_shut, good_take}

-- a number that is not less and not the same is greater
greater : (a b : ℕ) → b ≤ a → (a ≡ b → ⊥) → b < a
greater a b le ne = grind (arith, ne)

module _ {T : Type 0} (n limit : ℕ) (m : Memory T) (who : ℕ → Option ℕ) (lines : List (Line T)) (history : List (Event T)) where
  -- the state after a pass's step
  abbrev pub After : ℕ → Outcome T → Type 0
  After q o = Kept T n limit o.memory who (set lines q o.line) (o.events ++ history)

  -- each line in turn
  module _ (q p : ℕ) (of : who q ≡ some p) (x : Kept T n limit m who lines history) where
    -- a step that changes no word
    to : (l' : Line T) {l : Line T} → get_elem? lines q ≡ some l → Alike l l' → IsFine limit m x.lists l' → After q (goes_on m l')
    to l' {l} e a f = record { lists = x.lists; good = good_goes q l l' x.good e a f }

    load_cells : (v : T) → get_elem? lines q ≡ some (LoadCells v) → After q (goes_on m (found_cells limit v m.cells))
    load_cells v e =
        let spent : Line T = ends (AnswerPut (Err (PutSpent v CellsWord m.cells.tag))) in
        cases (λ l. After q (goes_on m l)) (eqb m.cells.index NULL) (LoadTail (ToRefuse v)) (cond (leb limit m.cells.tag) spent (LoadCellLink v m.cells))
        (λ h. to (LoadTail (ToRefuse v)) e (steady refl) tt)
        (λ h. cases (λ l. After q (goes_on m l)) (leb limit m.cells.tag) spent (LoadCellLink v m.cells)
        (λ h'. to spent e (steady refl) tt)
        (λ h'. to (LoadCellLink v m.cells) e (steady refl)
        (read_top limit m.cells m.clink x.lists.cells x.good.linked.cells_stand (λ z. grind (arith, nat_tests)) (grind (arith, nat_tests)))))

    load_nodes : (put : Placing T) → get_elem? lines q ≡ some (LoadNodes put) → After q (goes_on m (found_nodes limit put m.nodes))
    load_nodes put e =
        let spent : Line T = frees put.cell (AnswerPut (Err (PutSpent put.value NodesWord m.nodes.tag))) in
        let refused = to spent e (record { cells = refl; nodes = refl; bare_same = refl; wanting_less = omega arith; putting_less = omega arith }) tt in
        cases (λ l. After q (goes_on m l)) (eqb m.nodes.index NULL) spent (cond (leb limit m.nodes.tag) spent (LoadNodeLink put m.nodes))
        (λ h. refused)
        (λ h. cases (λ l. After q (goes_on m l)) (leb limit m.nodes.tag) spent (LoadNodeLink put m.nodes)
        (λ h'. refused)
        (λ h'. to (LoadNodeLink put m.nodes) e (steady refl)
        (read_top limit m.nodes m.nlink x.lists.nodes x.good.linked.nodes_stand (λ z. grind (arith, nat_tests)) (grind (arith, nat_tests)))))

    prepare : (link : Linking T) (w : Tagged) → get_elem? lines q ≡ some (PrepareNext link w) → After q (goes_on (after_next m link.node (null_word (w.tag + 1))) (LoadTail (ToLink link)))
    prepare link w e =
        let f : IsFine limit m x.lists (PrepareNext link w) = x.good.linked.fine q (PrepareNext link w) e in
        let t : (m.next link.node).tag ≡ w.tag = ap (λ (y : Tagged). y.tag) f.2 in
        let below : w.tag + 2 ≤ limit = f.3 in
        let room : (m.next link.node).tag + 1 ≤ 2 * m.nodes.tag = f.0 in
        let fresh : IsFresh limit m.nodes.tag (null_word (w.tag + 1)) = record { null = refl; unmarked = refl; below = omega arith; small = omega arith } in
        record {
          lists = x.lists;
          good = good_next q (PrepareNext link w) (LoadTail (ToLink link)) x.good e link.node (w.tag + 1) (omega (arith, times_here link.node [])) (omega arith) (omega arith) (omega arith)
              (steady refl)
              (record { fresh = subst (IsFresh limit m.nodes.tag) (sym (word_here m.next link.node (null_word (w.tag + 1)))) fresh; cell = f.1 });
        }

    closed : (s : Seeking T) (w y : Tagged) → get_elem? lines q ≡ some (CheckTail s w y) → After q (goes_on m (back_closed s w))
    closed (ToLink link) w y e = to (back_closed (ToLink link) w) e (record { cells = refl; nodes = refl; bare_same = refl; wanting_less = omega arith; putting_less = omega arith }) tt
    closed (ToRefuse v) w y e = to (back_closed (ToRefuse v) w) e (steady refl) tt
    closed ToClose w y e = to (back_closed ToClose w) e (steady refl) tt
    closed ToGauge w y e = to (back_closed ToGauge w) e (steady refl) tt

    ended : (s : Seeking T) (w y : Tagged) → get_elem? lines q ≡ some (CheckTail s w y) → Seeks limit m x.lists s → Ends m.tail m.next w y → After q (goes_on m (back_null s w y))
    ended (ToLink link) w y e f ends_here = to (LinkNext link w y) e (steady refl) (f, ends_here)
    ended (ToRefuse v) w y e f ends_here = to (back_null (ToRefuse v) w y) e (steady refl) tt
    ended ToClose w y e f ends_here = to (MarkNext w y) e (steady refl) ends_here
    ended ToGauge w y e f ends_here = to (CheckNextToGauge w y) e (steady refl) ends_here

    check_tail : (s : Seeking T) (w y : Tagged) → get_elem? lines q ≡ some (CheckTail s w y) → m.tail ≡ w → After q (goes_on m (found_back s w y))
    check_tail s w y e won =
        let f : IsFine limit m x.lists (CheckTail s w y) = x.good.linked.fine q (CheckTail s w y) e in
        cases (λ l. After q (goes_on m l)) y.mark (back_closed s w) (cond (eqb y.index NULL) (back_null s w y) (SwingTail s w y))
        (λ b. closed s w y e)
        (λ b. cases (λ l. After q (goes_on m l)) (eqb y.index NULL) (back_null s w y) (SwingTail s w y)
        (λ b'. ended s w y e f.0 (record { null = eqb-true y.index NULL b'; unmarked = b; was = f.2; last = λ z. (ap (λ (u : Tagged). u.tag) (sym won), ap (λ (u : Tagged). u.index) (sym won)) }))
        (λ b'. let node : y.index ≢ NULL = λ z. grind (arith, nat_tests) in to (SwingTail s w y) e (steady refl) (f.0, record { node = node; past = f.1; follows = λ z. f.3 z node })))

    -- the lists after a swing of the tail
    abbrev swung : Lists
    swung = record x.lists { before = x.lists.before ++ (m.tail.index ∷ []); after = [] }

    swing : {l : Line T} (l' : Line T) (w y : Tagged) → get_elem? lines q ≡ some l → Alike l l' → Lags m.tail m.next w y → IsFine limit (after_swing m w y.index) swung l' → m.tail ≡ w → After q (goes_on (after_swing m w y.index) l')
    swing {l} l' w y e a lags fine won = record { lists = swung; good = good_swing q l l' x.good e w y lags won a fine }

    link_next : (link : Linking T) (w y : Tagged) → get_elem? lines q ≡ some (LinkNext link w y) → m.next w.index ≡ y
        → After q (wins (after_link m w y link) (SwingToLinked link.value w (raised y link.node)) (Put p (link.value ∷ []) w.tag))
    link_next link w y e won =
        let f : IsFine limit m x.lists (LinkNext link w y) = x.good.linked.fine q (LinkNext link w y) e in
        let g = x.lists in
        let at = f.1.last (ap (λ (u : Tagged). u.tag) (sym won)) in
        record {
          lists = record g { chain = g.chain ++ (link.node ∷ []); after = link.node ∷ []; queued = g.queued ++ (link.cell ∷ []) };
          good = good_link q (LinkNext link w y) (SwingToLinked link.value w (raised y link.node)) x.good e p w y link.node link.cell link.value of f.1 won f.0.fresh f.0.cell refl refl refl refl refl (omega arith) refl refl
              (record {
                node = held_node q link.node (LinkNext link w y) x.good.linked e (omega (arith, times_here link.node []));
                past = record { tag = omega (arith, at.0); index = λ z. at.1 };
                follows = λ z. word_here m.next w.index (raised y link.node);
              });
        }

    -- while the head is where it was, the tail is at the dummy or past it
    load_tail_to_take : (h : Tagged) → get_elem? lines q ≡ some (LoadTailToTake h) → After q (goes_on m (LoadHeadNext h m.tail))
    load_tail_to_take h e =
        let f : IsFine limit m x.lists (LoadTailToTake h) = x.good.linked.fine q (LoadTailToTake h) e in
        let ch = x.good.linked.chained in
        to (LoadHeadNext h m.tail) e (steady refl)
        (f.0, f.1, past_refl m.tail, λ t ne. greater m.tail.tag h.tag (omega (arith, t, never_behind ch)) (λ z. ne (at_front ch (z ∙ t) ∙ sym (f.0.index t))))

    check_head : (h w y : Tagged) → get_elem? lines q ≡ some (CheckHead h w y) → m.head ≡ h → After q (goes_on m (found_front h w y))
    check_head h w y e won =
        let f : IsFine limit m x.lists (CheckHead h w y) = x.good.linked.fine q (CheckHead h w y) e in
        let is_closed : Line T = ends (AnswerTake (Err TakeClosed)) in
        let empty : Line T = ends (AnswerTake (Err TakeEmpty)) in
        let t : h.tag ≡ m.head.tag = ap (λ (u : Tagged). u.tag) (sym won) in
        cases (λ l. After q (goes_on m l)) y.mark is_closed (cond (eqb y.index NULL) empty (cond (eqb w.index h.index) (SwingTailToTake w y) (LoadCell h y)))
        (λ b. to is_closed e (steady refl) tt)
        (λ b. cases (λ l. After q (goes_on m l)) (eqb y.index NULL) empty (cond (eqb w.index h.index) (SwingTailToTake w y) (LoadCell h y))
        (λ b'. to empty e (steady refl) tt)
        (λ b'. let node : y.index ≢ NULL = λ z. grind (arith, nat_tests) in
        cases (λ l. After q (goes_on m l)) (eqb w.index h.index) (SwingTailToTake w y) (LoadCell h y)
        (λ b''. to (SwingTailToTake w y) e (steady refl) (record { node = node; past = f.2; follows = λ z. ap m.next (eqb-true w.index h.index b'') ∙ f.4 t node }))
        (λ b''. let past : h.tag < w.tag = f.3 t (λ z. grind (arith, nat_tests)) in to (LoadCell h y) e (steady refl) (f.0, f.1, node, f.4, omega (arith, past, f.2.tag)))))

    take_head : (h y : Tagged) (k : ℕ) → get_elem? lines q ≡ some (TakeHead h y k) → m.head ≡ h → After q (wins_value m p h y k (m.home k))
    take_head h y k e won =
        let f : IsFine limit m x.lists (TakeHead h y k) = x.good.linked.fine q (TakeHead h y k) e in
        let given : T → Line T = λ v. LoadNodesToGive (record { cell = k; node = h.index; answer = AnswerTake (Ok (v, h.tag)) }) in
        let t = good_take q p (TakeHead h y k) given x.good h y k e of won f.1 f.2 f.3 f.4 f.5 refl refl (λ v. refl) (λ v. refl) (λ v. refl) (λ v. omega arith) (λ v. omega arith) (λ v g'. tt) in
        let after : After q (wins_value m p h y k (some (Some t.value))) = record { lists = t.lists; good = t.good } in
        subst (λ (o : Option (Slot T)). After q (wins_value m p h y k o)) (sym t.here) after

    kept : (l : Line T) → get_elem? lines q ≡ some l → Cases memories (Idle None) m p (After q) l (table limit l)
    kept (Idle a) e = to (Idle a) e (steady refl) tt
    kept (LoadCells v) e = load_cells v e
    kept (LoadCellLink v w) e = to (TakeCell v w (m.clink w.index)) e (steady refl) (x.good.linked.fine q (LoadCellLink v w) e, λ t. refl)
    kept (TakeCell v w k) e =
        let f : IsFine limit m x.lists (TakeCell v w k) = x.good.linked.fine q (TakeCell v w k) e in (
          λ won. let r = good_hold q (TakeCell v w k) (LoadNodes (with_cell v w.index)) x.good e p w k of won f.0 f.1 refl refl refl (omega arith) (omega arith) (λ rest. tt) in record { lists = r.lists; good = r.good },
          to (LoadCells v) e (steady refl) tt,
        )
    kept (LoadNodes put) e = load_nodes put e
    kept (LoadNodeLink put w) e = to (TakeNode put w (m.nlink w.index)) e (steady refl) (x.good.linked.fine q (LoadNodeLink put w) e, λ t. refl)
    kept (TakeNode put w k) e =
        let f : IsFine limit m x.lists (TakeNode put w k) = x.good.linked.fine q (TakeNode put w k) e in (
          λ won. let t : m.nodes.tag ≡ w.tag = ap (λ (y : Tagged). y.tag) won in
              let r = good_node_take q (TakeNode put w k) (StoreCell (with_node put w.index)) x.good e w k won f.0 f.1 refl refl refl (omega arith) (omega arith) (λ rest. omega (arith, x.good.numbered.next_small w.index)) in
              record { lists = r.lists; good = r.good },
          to (LoadNodes put) e (steady refl) tt,
        )
    kept (StoreCell link) e = record {
      lists = x.lists;
      good = good_cell q (StoreCell link) (LoadNext link) x.good e link.node link.cell (omega (arith, times_here link.node [])) (steady refl) (x.good.linked.fine q (StoreCell link) e, store_here m.cell link.node link.cell);
    }
    kept (LoadNext link) e =
        let f : IsFine limit m x.lists (LoadNext link) = x.good.linked.fine q (LoadNext link) e in
        let w = m.next link.node in
        let spent : Line T = gives link (AnswerPut (Err (PutSpent link.value (NextWord link.node) w.tag))) in
        cases (λ l. After q (goes_on m l)) (leb limit (w.tag + 1)) spent (PrepareNext link w)
        (λ h. to spent e (record { cells = refl; nodes = refl; bare_same = refl; wanting_less = omega arith; putting_less = omega arith }) tt)
        (λ h. to (PrepareNext link w) e (steady refl) (f.0, f.1, refl, grind (arith, nat_tests)))
    kept (PrepareNext link w) e = prepare link w e
    kept (LoadTail s) e = to (LoadTailNext s m.tail) e (steady refl) (x.good.linked.fine q (LoadTail s) e, past_refl m.tail)
    kept (LoadTailNext s w) e =
        let f : IsFine limit m x.lists (LoadTailNext s w) = x.good.linked.fine q (LoadTailNext s w) e in
        to (CheckTail s w (m.next w.index)) e (steady refl) (f.0, f.1, was_refl (m.next w.index), λ t node. refl)
    kept (CheckTail s w y) e =
        let f : IsFine limit m x.lists (CheckTail s w y) = x.good.linked.fine q (CheckTail s w y) e in
        (λ won. check_tail s w y e won, to (LoadTail s) e (steady refl) f.0)
    kept (SwingTail s w y) e =
        let f : IsFine limit m x.lists (SwingTail s w y) = x.good.linked.fine q (SwingTail s w y) e in
        (swing (LoadTail s) w y e (steady refl) f.1 (seeks_later limit m (after_swing m w y.index) (omega arith) x.lists swung s (λ j there. refl) (λ j there. refl) f.0), to (LoadTail s) e (steady refl) f.0)
    kept (LinkNext link w y) e =
        let f : IsFine limit m x.lists (LinkNext link w y) = x.good.linked.fine q (LinkNext link w y) e in
        (λ won. link_next link w y e won, to (LoadTail (ToLink link)) e (steady refl) f.0)
    kept (SwingToLinked v w y) e =
        let done : Line T = ends (AnswerPut (Ok w.tag)) in
        (swing done w y e (steady refl) (x.good.linked.fine q (SwingToLinked v w y) e) tt, to done e (steady refl) tt)
    kept (MarkNext w y) e = (
      λ won. record { lists = x.lists; good = good_close q (MarkNext w y) (ends (AnswerClose true)) x.good e p w y of (x.good.linked.fine q (MarkNext w y) e) won (steady refl) tt },
      to (LoadTail ToClose) e (steady refl) tt,
    )
    kept LoadHead e =
        let refused : Line T = ends (AnswerTake (Err TakeShut)) in
        cases (λ l. After q (goes_on m l)) m.head.second refused (LoadTailToTake m.head) (λ h. to refused e (steady refl) tt) (λ h. to (LoadTailToTake m.head) e (steady refl) (past_refl m.head, h))
    kept (LoadTailToTake h) e = load_tail_to_take h e
    kept (LoadHeadNext h w) e =
        let f : IsFine limit m x.lists (LoadHeadNext h w) = x.good.linked.fine q (LoadHeadNext h w) e in
        to (CheckHead h w (m.next h.index)) e (steady refl) (f.0, f.1, f.2, f.3, λ t node. refl)
    kept (CheckHead h w y) e = (λ won. check_head h w y e won, to LoadHead e (steady refl) tt)
    kept (SwingTailToTake w y) e = (swing LoadHead w y e (steady refl) (x.good.linked.fine q (SwingTailToTake w y) e) tt, to LoadHead e (steady refl) tt)
    kept (LoadCell h y) e =
        let f : IsFine limit m x.lists (LoadCell h y) = x.good.linked.fine q (LoadCell h y) e in
        to (TakeHead h y (m.cell y.index)) e (steady refl) (f.0, f.1, f.2, f.3, f.4, λ t. refl)
    kept (TakeHead h y k) e = (λ won. take_head h y k e won, to LoadHead e (steady refl) tt)
    kept (LoadNodesToGive give) e = to (LinkToNodes give m.nodes) e (steady refl) tt
    kept (LinkToNodes give w) e = record {
      lists = x.lists;
      good = good_nlink q (LinkToNodes give w) (GiveNode give w) x.good e give.node w.index (omega (arith, times_here give.node [])) (steady refl) (store_here m.nlink give.node w.index);
    }
    kept (GiveNode give w) e =
        let f : IsFine limit m x.lists (GiveNode give w) = x.good.linked.fine q (GiveNode give w) e in (
          λ won. record {
            lists = record x.lists { nodes = give.node ∷ x.lists.nodes };
            good = good_node_give q (GiveNode give w) (frees give.cell give.answer) x.good e w give.node won f refl refl refl refl (omega arith) (omega arith) tt;
          },
          to (LoadNodesToGive give) e (steady refl) tt,
        )
    kept (LoadCellsToGive give) e = to (LinkToCells give m.cells) e (steady refl) tt
    kept (LinkToCells give w) e = record {
      lists = x.lists;
      good = good_clink q (LinkToCells give w) (GiveCell give w) x.good e give.cell w.index (omega (arith, times_here give.cell [])) (steady refl) (store_here m.clink give.cell w.index);
    }
    kept (GiveCell give w) e =
        let f : IsFine limit m x.lists (GiveCell give w) = x.good.linked.fine q (GiveCell give w) e in (
          λ won. record {
            lists = record x.lists { cells = give.cell ∷ x.lists.cells };
            good = good_free q (GiveCell give w) (ends give.answer) x.good e p w give.cell of won f refl refl refl refl (omega arith) (omega arith) tt;
          },
          to (LoadCellsToGive give) e (steady refl) tt,
        )
    kept LoadHeadToLook e = to (LoadNextToLook m.head) e (steady refl) (past_refl m.head)
    kept (LoadNextToLook h) e = to (CheckHeadToLook h (m.next h.index)) e (steady refl) tt
    kept (CheckHeadToLook h y) e = (λ won. to (ends (AnswerLook (eqb y.index NULL))) e (steady refl) tt, to LoadHeadToLook e (steady refl) tt)
    kept LoadHeadToCount e = to (LoadTailToCount m.head) e (steady refl) (omega arith)
    kept (LoadTailToCount h) e =
        let f : IsFine limit m x.lists (LoadTailToCount h) = x.good.linked.fine q (LoadTailToCount h) e in
        to (LoadNextToCount h m.tail) e (steady refl) (f, record { past = past_refl m.tail; there = λ t. tail_in x.good.linked.chained; last = λ t null. refl })
    kept (LoadNextToCount h w) e = to (CheckHeadToCount h w (m.next w.index)) e (steady refl) tt
    kept (CheckHeadToCount h w y) e = (λ won. to (ends (AnswerLen (counted h w y))) e (steady refl) tt, to LoadHeadToCount e (steady refl) tt)
    kept (CheckNextToGauge w y) e = (λ won. to (ends (AnswerGauge false w.tag)) e (steady refl) tt, to (LoadTail ToGauge) e (steady refl) tt)
    kept LoadHeadToShut e =
        let refused : Line T = ends (AnswerShut false) in
        cases (λ l. After q (goes_on m l)) m.head.second refused (ShutHead m.head) (λ h. to refused e (steady refl) tt) (λ h. to (ShutHead m.head) e (steady refl) h)
    kept (ShutHead h) e = (
      λ won. record { lists = x.lists; good = good_shut q (ShutHead h) (ends (AnswerShut true)) x.good e p h of won (x.good.linked.fine q (ShutHead h) e) (steady refl) tt },
      to LoadHeadToShut e (steady refl) tt,
    )

    -- a step of any pass, from any state where the rule holds
    pub step_kept : (l : Line T) → get_elem? lines q ≡ some l → After q (step (shape n limit) m p l)
    step_kept l e = by_cases memories (Idle None) m p (After q) l (table limit l) (kept l e)

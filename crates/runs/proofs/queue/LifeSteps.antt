-- No tag of a queue's links runs ahead of the number of cells reserved: each step of any pass keeps this.
use Rattle.std.proofs.Common.{◌≡◌, ℕ, ◌+◌, ◌≤◌, true, false, cond, eqb, leb, List, [], ◌∷◌, ◌++◌, set, refl, ap, eqb-true, Option as Slot, Some, None, Ok, Err, arith}
use Rattle.std.proofs.lemmas.Bool.Decides.{nat_tests}
use mathlib.Core.Option.{Option, none, some}
use lib.ListN.{get_elem?}
use Rattle.tagged_index.specs.declared.word.TheConstants.{NULL}
use Rattle.bounded_model.specs.declared.answers.Word.TheVariants.{Cells as CellsWord, Nodes as NodesWord, Next as NextWord}
use Rattle.bounded_model.specs.declared.answers.PutRefused.TheVariants.{Spent as PutSpent}
use Rattle.bounded_model.specs.declared.answers.TakeRefused.TheVariants.{Empty as TakeEmpty, Closed as TakeClosed, Shut as TakeShut}
use Rattle.bounded_model.specs.declared.history.Event.{Event}
use Rattle.bounded_model.specs.declared.history.Event.TheVariants.{Hold, Take, Free, Shut}
use Rattle.machine.specs.Words.{Tagged, raised}
use Rattle.machine.proofs.Lists.{times_here}
use Rattle.machine.proofs.Program.{Cases, by_cases}
use Rattle.machine.proofs.Tests.{cases}
use Rattle.queue_machine.specs.declared.lines.Linking.{Linking}
use Rattle.queue_machine.specs.declared.lines.Placing.{Placing}
use Rattle.queue_machine.specs.declared.lines.Seeking.{Seeking}
use Rattle.queue_machine.specs.declared.lines.Seeking.TheVariants.{ToLink, ToRefuse, ToClose, ToGauge}
use Rattle.queue_machine.specs.declared.lines.Answer.TheVariants.{Put as AnswerPut, Take as AnswerTake, Close as AnswerClose, Shut as AnswerShut, Look as AnswerLook, Len as AnswerLen, Gauge as AnswerGauge}
use Rattle.queue_machine.specs.declared.lines.Line.{Line}
use Rattle.queue_machine.specs.declared.lines.Line.TheVariants.{Idle, LoadCells, LoadCellLink, TakeCell, LoadNodes, LoadNodeLink, TakeNode, StoreCell, LoadNext, PrepareNext, LoadTail, LoadTailNext, CheckTail, SwingTail, LinkNext, SwingToLinked, MarkNext, LoadHead, LoadTailToTake, LoadHeadNext, CheckHead, SwingTailToTake, LoadCell, TakeHead, LoadNodesToGive, LinkToNodes, GiveNode, LoadCellsToGive, LinkToCells, GiveCell, LoadHeadToLook, LoadNextToLook, CheckHeadToLook, LoadHeadToCount, LoadTailToCount, LoadNextToCount, CheckHeadToCount, CheckNextToGauge, LoadHeadToShut, ShutHead}
use Rattle.queue_machine.specs.Machine.{Memory, memories, Outcome, table, goes_on, wins, wins_value, step, ends, gives, frees, with_cell, with_node, found_cells, found_nodes, found_next, back_closed, back_null, found_back, found_front, counted, after_hold, after_free, after_node_take, after_node_give, after_clink, after_nlink, after_cell, after_swing, after_take, after_shut}
use Rattle.queue_machine.specs.Answers.{shape, state}
use Rattle.queue_machine.specs.Rule.{Lags, IsFine, Kept}
use Rattle.queue_machine.proofs.Answers.{node_there, node_below}
use Rattle.runs.proofs.queue.LifeKinds.{weight, Said, Knows, Aged, grows_alike, said_later, goes, holds_one, refuses_closed, refuses_spent, prepares, links_one, closes, swings}

module _ {T : Type 0} (n limit : ℕ) (m : Memory T) (who : ℕ → Option ℕ) (lines : List (Line T)) (h : List (Event T)) where
  -- after a pass's step
  abbrev pub After : ℕ → Outcome T → Type 0
  After q o = Aged n limit o.memory (set lines q o.line) (o.events ++ h)

  -- each line in turn
  module _ (q p : ℕ) (x : Kept T n limit m who lines h) (a : Aged n limit m lines h) where
    -- a step that changes no word
    to : (l' : Line T) {l : Line T} → get_elem? lines q ≡ some l → weight l' ≡ weight l → Knows n limit h l' → After q (goes_on m l')
    to l' {l} e same new = goes n limit q l l' e a m h refl a.marked refl same new

    load_cells : (v : T) → get_elem? lines q ≡ some (LoadCells v) → After q (goes_on m (found_cells limit v m.cells))
    load_cells v e =
        let spent : Line T = ends (AnswerPut (Err (PutSpent v CellsWord m.cells.tag))) in
        cases (λ l. After q (goes_on m l)) (eqb m.cells.index NULL) (LoadTail (ToRefuse v)) (cond (leb limit m.cells.tag) spent (LoadCellLink v m.cells))
        (λ b. to (LoadTail (ToRefuse v)) e refl tt)
        (λ b. cases (λ l. After q (goes_on m l)) (leb limit m.cells.tag) spent (LoadCellLink v m.cells)
        (λ b'. let at_limit : limit ≤ m.cells.tag = grind (arith, nat_tests) in to spent e refl (omega (arith, at_limit, x.good.told.cells_tag)))
        (λ b'. to (LoadCellLink v m.cells) e refl tt))

    take_cell : (v : T) (w : Tagged) (k : ℕ) → get_elem? lines q ≡ some (TakeCell v w k) → m.cells ≡ w → After q (wins (after_hold m w k) (LoadNodes (with_cell v w.index)) (Hold p))
    take_cell v w k e won =
        let f : IsFine limit m x.lists (TakeCell v w k) = x.good.linked.fine q (TakeCell v w k) e in
        holds_one n limit q (TakeCell v w k) (LoadNodes (with_cell v w.index)) e a x.good p w k (omega (arith, f.0.below, x.good.told.cells_tag, ap (λ (y : Tagged). y.tag) won)) refl refl tt

    load_nodes : (put : Placing T) → get_elem? lines q ≡ some (LoadNodes put) → After q (goes_on m (found_nodes limit put m.nodes))
    load_nodes put e =
        let spent : Line T = frees put.cell (AnswerPut (Err (PutSpent put.value NodesWord m.nodes.tag))) in
        cases (λ l. After q (goes_on m l)) (eqb m.nodes.index NULL) spent (cond (leb limit m.nodes.tag) spent (LoadNodeLink put m.nodes))
        (λ b. absurd (node_there x.good q put e (eqb-true m.nodes.index NULL b)))
        (λ b. cases (λ l. After q (goes_on m l)) (leb limit m.nodes.tag) spent (LoadNodeLink put m.nodes)
        (λ b'. let low = node_below x.good q put e in absurd (grind (arith, nat_tests)))
        (λ b'. to (LoadNodeLink put m.nodes) e refl tt))

    load_next : (link : Linking T) → get_elem? lines q ≡ some (LoadNext link) → After q (goes_on m (found_next limit link (m.next link.node)))
    load_next link e =
        let w = m.next link.node in
        let spent : Line T = gives link (AnswerPut (Err (PutSpent link.value (NextWord link.node) w.tag))) in
        cases (λ l. After q (goes_on m l)) (leb limit (w.tag + 1)) spent (PrepareNext link w)
        (λ b. let at_limit : limit ≤ w.tag + 1 = grind (arith, nat_tests) in
        refuses_spent n limit q (LoadNext link) spent e a x.good link.node (times_here link.node []) refl refl refl refl at_limit (λ all. all))
        (λ b. to (PrepareNext link w) e refl tt)

    closed : (s : Seeking T) (w y : Tagged) → get_elem? lines q ≡ some (CheckTail s w y) → (state n limit h).closed ≡ true → After q (goes_on m (back_closed s w))
    closed (ToLink link) w y e is_closed = refuses_closed n limit q (CheckTail (ToLink link) w y) (back_closed (ToLink link) w) e a x.good is_closed (omega arith) (λ j. grind arith) tt
    closed (ToRefuse v) w y e is_closed = to (back_closed (ToRefuse v) w) e refl tt
    closed ToClose w y e is_closed = to (back_closed ToClose w) e refl tt
    closed ToGauge w y e is_closed = to (back_closed ToGauge w) e refl tt

    ended : (s : Seeking T) (w y : Tagged) → get_elem? lines q ≡ some (CheckTail s w y) → After q (goes_on m (back_null s w y))
    ended (ToLink link) w y e = to (LinkNext link w y) e refl tt
    ended (ToRefuse v) w y e = to (back_null (ToRefuse v) w y) e refl tt
    ended ToClose w y e = to (MarkNext w y) e refl tt
    ended ToGauge w y e = to (CheckNextToGauge w y) e refl tt

    check_tail : (s : Seeking T) (w y : Tagged) → get_elem? lines q ≡ some (CheckTail s w y) → After q (goes_on m (found_back s w y))
    check_tail s w y e =
        let known : Knows n limit h (CheckTail s w y) = a.knows q (CheckTail s w y) e in
        cases (λ l. After q (goes_on m l)) y.mark (back_closed s w) (cond (eqb y.index NULL) (back_null s w y) (SwingTail s w y))
        (λ b. closed s w y e (known b))
        (λ b. cases (λ l. After q (goes_on m l)) (eqb y.index NULL) (back_null s w y) (SwingTail s w y) (λ b'. ended s w y e) (λ b'. to (SwingTail s w y) e refl tt))

    swing : {l : Line T} (l' : Line T) (w y : Tagged) → get_elem? lines q ≡ some l → weight l' ≡ weight l → Knows n limit h l' → Lags m.tail m.next w y → m.tail ≡ w → After q (goes_on (after_swing m w y.index) l')
    swing {l} l' w y e same new lags won = swings n limit q l l' e a x.good w y lags won same new

    check_head : (h' w y : Tagged) → get_elem? lines q ≡ some (CheckHead h' w y) → After q (goes_on m (found_front h' w y))
    check_head h' w y e =
        let is_closed : Line T = ends (AnswerTake (Err TakeClosed)) in
        let empty : Line T = ends (AnswerTake (Err TakeEmpty)) in
        cases (λ l. After q (goes_on m l)) y.mark is_closed (cond (eqb y.index NULL) empty (cond (eqb w.index h'.index) (SwingTailToTake w y) (LoadCell h' y)))
        (λ b. to is_closed e refl tt)
        (λ b. cases (λ l. After q (goes_on m l)) (eqb y.index NULL) empty (cond (eqb w.index h'.index) (SwingTailToTake w y) (LoadCell h' y))
        (λ b'. to empty e refl tt)
        (λ b'. cases (λ l. After q (goes_on m l)) (eqb w.index h'.index) (SwingTailToTake w y) (LoadCell h' y) (λ b''. to (SwingTailToTake w y) e refl tt) (λ b''. to (LoadCell h' y) e refl tt)))

    take_head : (h' y : Tagged) (k : ℕ) → get_elem? lines q ≡ some (TakeHead h' y k) → (was : Option (Slot T)) → After q (wins_value m p h' y k was)
    take_head h' y k e (some (Some v)) =
        goes n limit q (TakeHead h' y k) (LoadNodesToGive (record { cell = k; node = h'.index; answer = AnswerTake (Ok (v, h'.tag)) })) e a (after_take m h' y k) (Take p v h'.tag ∷ h) refl a.marked refl refl tt
    take_head h' y k e (some None) = to (Idle None) e refl tt
    take_head h' y k e none = to (Idle None) e refl tt

    kept : (l : Line T) → get_elem? lines q ≡ some l → Cases memories (Idle None) m p (After q) l (table limit l)
    kept (Idle s) e = to (Idle s) e refl (a.knows q (Idle s) e)
    kept (LoadCells v) e = load_cells v e
    kept (LoadCellLink v w) e = to (TakeCell v w (m.clink w.index)) e refl tt
    kept (TakeCell v w k) e = (λ won. take_cell v w k e won, to (LoadCells v) e refl tt)
    kept (LoadNodes put) e = load_nodes put e
    kept (LoadNodeLink put w) e = to (TakeNode put w (m.nlink w.index)) e refl tt
    kept (TakeNode put w k) e = (λ won. goes n limit q (TakeNode put w k) (StoreCell (with_node put w.index)) e a (after_node_take m w k) h refl a.marked refl refl tt, to (LoadNodes put) e refl tt)
    kept (StoreCell link) e = goes n limit q (StoreCell link) (LoadNext link) e a (after_cell m link.node link.cell) h refl a.marked refl refl tt
    kept (LoadNext link) e = load_next link e
    kept (PrepareNext link w) e =
        let f : IsFine limit m x.lists (PrepareNext link w) = x.good.linked.fine q (PrepareNext link w) e in
        prepares n limit q (PrepareNext link w) (LoadTail (ToLink link)) e a x.good link.node w f.2 (times_here link.node []) refl refl refl tt
    kept (LoadTail s) e = to (LoadTailNext s m.tail) e refl tt
    kept (LoadTailNext s w) e = to (CheckTail s w (m.next w.index)) e refl (x.good.told.marked_closed w.index)
    kept (CheckTail s w y) e = (λ won. check_tail s w y e, to (LoadTail s) e refl tt)
    kept (SwingTail s w y) e =
        let f : IsFine limit m x.lists (SwingTail s w y) = x.good.linked.fine q (SwingTail s w y) e in
        (λ won. swing (LoadTail s) w y e refl tt f.1 won, to (LoadTail s) e refl tt)
    kept (LinkNext link w y) e =
        let f : IsFine limit m x.lists (LinkNext link w y) = x.good.linked.fine q (LinkNext link w y) e in
        (λ won. links_one n limit q (LinkNext link w y) (SwingToLinked link.value w (raised y link.node)) e a x.good p w y link f.1 won refl refl refl refl tt, to (LoadTail (ToLink link)) e refl tt)
    kept (SwingToLinked v w y) e =
        let done : Line T = ends (AnswerPut (Ok w.tag)) in
        (λ won. swing done w y e refl tt (x.good.linked.fine q (SwingToLinked v w y) e) won, to done e refl tt)
    kept (MarkNext w y) e = (
      λ won. closes n limit q (MarkNext w y) (ends (AnswerClose true)) e a x.good p w y (x.good.linked.fine q (MarkNext w y) e) won refl tt,
      to (LoadTail ToClose) e refl tt,
    )
    kept LoadHead e =
        let refused : Line T = ends (AnswerTake (Err TakeShut)) in
        cases (λ l. After q (goes_on m l)) m.head.second refused (LoadTailToTake m.head) (λ b. to refused e refl tt) (λ b. to (LoadTailToTake m.head) e refl tt)
    kept (LoadTailToTake h') e = to (LoadHeadNext h' m.tail) e refl tt
    kept (LoadHeadNext h' w) e = to (CheckHead h' w (m.next h'.index)) e refl tt
    kept (CheckHead h' w y) e = (λ won. check_head h' w y e, to LoadHead e refl tt)
    kept (SwingTailToTake w y) e = (λ won. swing LoadHead w y e refl tt (x.good.linked.fine q (SwingTailToTake w y) e) won, to LoadHead e refl tt)
    kept (LoadCell h' y) e = to (TakeHead h' y (m.cell y.index)) e refl tt
    kept (TakeHead h' y k) e = (λ won. take_head h' y k e (m.home k), to LoadHead e refl tt)
    kept (LoadNodesToGive give) e = to (LinkToNodes give m.nodes) e refl (a.knows q (LoadNodesToGive give) e)
    kept (LinkToNodes give w) e = goes n limit q (LinkToNodes give w) (GiveNode give w) e a (after_nlink m give.node w.index) h refl a.marked refl refl (a.knows q (LinkToNodes give w) e)
    kept (GiveNode give w) e =
        let known : Said n limit h give.answer = a.knows q (GiveNode give w) e in (
          λ won. goes n limit q (GiveNode give w) (frees give.cell give.answer) e a (after_node_give m w give.node) h refl a.marked refl refl known,
          to (LoadNodesToGive give) e refl known,
        )
    kept (LoadCellsToGive give) e = to (LinkToCells give m.cells) e refl (a.knows q (LoadCellsToGive give) e)
    kept (LinkToCells give w) e = goes n limit q (LinkToCells give w) (GiveCell give w) e a (after_clink m give.cell w.index) h refl a.marked refl refl (a.knows q (LinkToCells give w) e)
    kept (GiveCell give w) e =
        let known : Said n limit h give.answer = a.knows q (GiveCell give w) e in (
          λ won. goes n limit q (GiveCell give w) (ends give.answer) e a (after_free m w give.cell) (Free p 1 ∷ h) refl a.marked refl refl (said_later n limit h (Free p 1 ∷ h) (grows_alike n limit h (Free p 1 ∷ h) refl) give.answer known),
          to (LoadCellsToGive give) e refl known,
        )
    kept LoadHeadToLook e = to (LoadNextToLook m.head) e refl tt
    kept (LoadNextToLook h') e = to (CheckHeadToLook h' (m.next h'.index)) e refl tt
    kept (CheckHeadToLook h' y) e = (λ won. to (ends (AnswerLook (eqb y.index NULL))) e refl tt, to LoadHeadToLook e refl tt)
    kept LoadHeadToCount e = to (LoadTailToCount m.head) e refl tt
    kept (LoadTailToCount h') e = to (LoadNextToCount h' m.tail) e refl tt
    kept (LoadNextToCount h' w) e = to (CheckHeadToCount h' w (m.next w.index)) e refl tt
    kept (CheckHeadToCount h' w y) e = (λ won. to (ends (AnswerLen (counted h' w y))) e refl tt, to LoadHeadToCount e refl tt)
    kept (CheckNextToGauge w y) e = (λ won. to (ends (AnswerGauge false w.tag)) e refl tt, to (LoadTail ToGauge) e refl tt)
    kept LoadHeadToShut e =
        let refused : Line T = ends (AnswerShut false) in
        cases (λ l. After q (goes_on m l)) m.head.second refused (ShutHead m.head) (λ b. to refused e refl tt) (λ b. to (ShutHead m.head) e refl tt)
    kept (ShutHead h') e = (λ won. goes n limit q (ShutHead h') (ends (AnswerShut true)) e a (after_shut m h') (Shut p ∷ h) refl a.marked refl refl tt, to LoadHeadToShut e refl tt)

    -- a step of any pass
    pub step_aged : (l : Line T) → get_elem? lines q ≡ some l → After q (step (shape n limit) m p l)
    step_aged l e = by_cases memories (Idle None) m p (After q) l (table limit l) (kept l e)

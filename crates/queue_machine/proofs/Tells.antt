-- A step of the queue keeps what its line tells of the history, and adds only events of its own pass.
use Rattle.std.proofs.Common.{◌≡◌, ◌≢◌, ℕ, ◌+◌, ◌-◌, ◌≤◌, Bool, true, false, cond, eqb, leb, List, ◌∷◌, [], ◌++◌, length, refl, sym, ap, ◌∙◌, eqb-true, Option as Slot, Some, None, Ok, Err, arith}
use Rattle.std.proofs.lemmas.Bool.{false≢true}
use Rattle.std.proofs.lemmas.Bool.Decides.{nat_tests}
use mathlib.Core.Option.{Option, none, some}
use lib.ListN.{get_elem?}
use Rattle.tagged_index.specs.declared.word.TheConstants.{NULL}
use Rattle.bounded_model.specs.declared.answers.Word.TheVariants.{Cells as CellsWord, Nodes as NodesWord, Next as NextWord}
use Rattle.bounded_model.specs.declared.answers.PutRefused.TheVariants.{Full as PutFull, Spent as PutSpent}
use Rattle.bounded_model.specs.declared.answers.TakeRefused.TheVariants.{Empty as TakeEmpty, Closed as TakeClosed, Shut as TakeShut}
use Rattle.bounded_model.specs.declared.history.Event.{Event}
use Rattle.bounded_model.specs.declared.history.Event.TheVariants.{Hold, Put, Take, Free, Close, Shut}
use Rattle.bounded_model.specs.Machine.{Shape}
use Rattle.bounded_model.specs.Histories.{Later, own, pass_of}
use Rattle.bounded_model.specs.Justified.{Sometime, Justifies, IsOpen, Looked}
use Rattle.bounded_model.proofs.Histories.{Later-refl, Later-cons, Later-trans, own-other}
use Rattle.bounded_model.proofs.Adding.{Sometime-now, Sometime-wider}
use Rattle.bounded_model.proofs.Staying.{open_before, unshut_before, closed_stays}
use Rattle.machine.specs.Words.{Tagged}
use Rattle.machine.proofs.Tests.{cases, is_false}
use Rattle.machine.proofs.Program.{Cases, by_cases, Apart, adds_own}
use Rattle.queue_machine.specs.declared.lines.Placing.{Placing}
use Rattle.queue_machine.specs.declared.lines.Linking.{Linking}
use Rattle.queue_machine.specs.declared.lines.Seeking.{Seeking}
use Rattle.queue_machine.specs.declared.lines.Seeking.TheVariants.{ToLink, ToRefuse, ToClose, ToGauge}
use Rattle.queue_machine.specs.declared.lines.Answer.{Answer}
use Rattle.queue_machine.specs.declared.lines.Answer.TheVariants.{Put as AnswerPut, Take as AnswerTake, Close as AnswerClose, Shut as AnswerShut}
use Rattle.queue_machine.specs.declared.lines.Line.{Line}
use Rattle.queue_machine.specs.declared.lines.Line.TheVariants.{Idle, LoadCells, LoadCellLink, TakeCell, LoadNodes, LoadNodeLink, TakeNode, LoadNext, PrepareNext, LoadTail, LoadTailNext, CheckTail, SwingTail, LinkNext, SwingToLinked, MarkNext, LoadHead, LoadTailToTake, LoadHeadNext, CheckHead, SwingTailToTake, LoadCell, TakeHead, LoadNodesToGive, LinkToNodes, GiveNode, LoadCellsToGive, LinkToCells, GiveCell, LoadHeadToLook, LoadNextToLook, CheckHeadToLook, LoadHeadToCount, LoadTailToCount, LoadNextToCount, CheckHeadToCount, CheckNextToGauge, LoadHeadToShut, ShutHead}
use Rattle.queue_machine.specs.Machine.{Memory, memories, Outcome, table, wins_value, step, ends, gives, frees, back_closed, back_null, found_cells, found_nodes, found_next, found_back, found_front}
use Rattle.queue_machine.specs.Answers.{shape, state, IsRight}
use Rattle.queue_machine.specs.Rule.{Lists, IsFine, Spans, SeeksFor, EndTells, FrontTells, Tells, Good}
use Rattle.queue_machine.proofs.Answers.{takes_grow, puts_stay, balanced, some_moment, puts_near, puts_to_end, puts_past, full_now, cells_spent_now, next_spent_now, node_there, node_below, shut_now, unshut_now, closed_gauged, open_gauged, closed_tail, end_tells, front_tells}

module _ {T : Type 0} where
  -- an answer that was right stays so when its pass has seen more
  pub right_wider : (n limit : ℕ) (begun seen newer : List (Event T)) (a : Answer T) → Later seen newer → IsRight n limit begun seen a → IsRight n limit begun newer a
  right_wider n limit begun seen newer (AnswerPut (Err (PutFull v))) l r = Sometime-wider (Later-refl begun) l r
  right_wider n limit begun seen newer (AnswerPut (Ok done)) l r = tt
  right_wider n limit begun seen newer (AnswerTake (Ok done)) l r = tt
  right_wider n limit begun seen newer (AnswerClose true) l r = tt
  right_wider n limit begun seen newer (AnswerShut true) l r = tt
  right_wider n limit begun seen newer a l r = Sometime-wider (Later-refl begun) l r

  pub seeks_wider : (n limit : ℕ) (begun seen newer : List (Event T)) (s : Seeking T) → Later seen newer → SeeksFor n limit begun seen s → SeeksFor n limit begun newer s
  seeks_wider n limit begun seen newer (ToLink link) l t = tt
  seeks_wider n limit begun seen newer (ToRefuse v) l t = Sometime-wider (Later-refl begun) l t
  seeks_wider n limit begun seen newer ToClose l t = tt
  seeks_wider n limit begun seen newer ToGauge l t = tt

  module _ {n limit : ℕ} {m : Memory T} {g : Lists} {who : ℕ → Option ℕ} {lines : List (Line T)} {history : List (Event T)} (x : Good T n limit m g who lines history) (q p : ℕ)
      (begun seen : List (Event T)) (before : Later begun seen) (now : Later seen history) where
    since : Later begun history
    since = Later-trans before now

    -- the history that was seen at the last step justifies an answer
    then_right : {P : List (Event T) → Type 0} → P seen → Sometime begun history P
    then_right h = record { at = seen; since = before; until = now; holds = h }

    load_cells_tells : (v : T) → Tells n limit begun history (found_cells limit v m.cells)
    load_cells_tells v =
        let spent : Line T = ends (AnswerPut (Err (PutSpent v CellsWord m.cells.tag))) in
        cases (Tells n limit begun history) (eqb m.cells.index NULL) (LoadTail (ToRefuse v)) (cond (leb limit m.cells.tag) spent (LoadCellLink v m.cells))
        (λ h. Sometime-now since (full_now x (eqb-true m.cells.index NULL h)))
        (λ h. cases (Tells n limit begun history) (leb limit m.cells.tag) spent (LoadCellLink v m.cells)
        (λ h'. Sometime-now since (cells_spent_now x (grind (arith, nat_tests))))
        (λ h'. tt))

    -- a pass that wants a node is never refused one
    load_nodes_tells : (put : Placing T) → get_elem? lines q ≡ some (LoadNodes put) → Tells n limit begun history (found_nodes limit put m.nodes)
    load_nodes_tells put e =
        let spent : Line T = frees put.cell (AnswerPut (Err (PutSpent put.value NodesWord m.nodes.tag))) in
        cases (Tells n limit begun history) (eqb m.nodes.index NULL) spent (cond (leb limit m.nodes.tag) spent (LoadNodeLink put m.nodes))
        (λ h. absurd (node_there x q put e (eqb-true m.nodes.index NULL h)))
        (λ h. cases (Tells n limit begun history) (leb limit m.nodes.tag) spent (LoadNodeLink put m.nodes)
        (λ h'. let below = node_below x q put e in absurd (grind (arith, nat_tests)))
        (λ h'. tt))

    load_next_tells : (link : Linking T) → get_elem? lines q ≡ some (LoadNext link) → Tells n limit begun history (found_next limit link (m.next link.node))
    load_next_tells link e =
        let f : IsFine limit m g (LoadNext link) = x.linked.fine q (LoadNext link) e in
        let w = m.next link.node in
        let spent : Line T = gives link (AnswerPut (Err (PutSpent link.value (NextWord link.node) w.tag))) in
        cases (Tells n limit begun history) (leb limit (w.tag + 1)) spent (PrepareNext link w)
        (λ h. Sometime-now since (next_spent_now x link.node f.0 (grind (arith, nat_tests))))
        (λ h. tt)

    -- the end of the chain had the mark
    closed_tells : (s : Seeking T) (w y : Tagged) → m.tail ≡ w → EndTells n limit seen w y → y.mark ≡ true → Tells n limit begun history (back_closed s w)
    closed_tells (ToLink link) w y won t b = then_right (t.marked b)
    closed_tells (ToRefuse v) w y won t b = then_right (t.marked b)
    closed_tells ToClose w y won t b = then_right (t.marked b)
    closed_tells ToGauge w y won t b = Sometime-now since (closed_gauged x w won (closed_stays (shape n limit) now (t.marked b)))

    -- the end of the chain was null while the tail was what it is now, so the history was open then
    open_then : (w y : Tagged) → m.tail ≡ w → EndTells n limit seen w y → y.mark ≡ false → y.index ≡ NULL → IsOpen (shape n limit) seen
    open_then w y won t b null = is_false (state n limit seen).closed (λ h. false≢true (sym b ∙ t.null h (
        ap (λ (u : Tagged). u.tag) (sym won) ∙ closed_tail x (closed_stays (shape n limit) now h) ∙ puts_stay (shape n limit) now x.told.legal h) null))

    end_tells_kept : (s : Seeking T) (w y : Tagged) → m.tail ≡ w → SeeksFor n limit begun seen s → EndTells n limit seen w y → y.mark ≡ false → y.index ≡ NULL → Tells n limit begun history (back_null s w y)
    end_tells_kept (ToLink link) w y won f t b null = tt
    end_tells_kept (ToRefuse v) w y won f t b null =
        record { at = f.at; since = f.since; until = Later-trans f.until now; holds = (f.holds, open_before (shape n limit) f.until (open_then w y won t b null)) }
    end_tells_kept ToClose w y won f t b null = tt
    end_tells_kept ToGauge w y won f t b null = tt

    check_tail_tells : (s : Seeking T) (w y : Tagged) → m.tail ≡ w → Tells n limit begun seen (CheckTail s w y) → Tells n limit begun history (found_back s w y)
    check_tail_tells s w y won t =
        cases (Tells n limit begun history) y.mark (back_closed s w) (cond (eqb y.index NULL) (back_null s w y) (SwingTail s w y))
        (λ b. closed_tells s w y won t.1 b)
        (λ b. cases (Tells n limit begun history) (eqb y.index NULL) (back_null s w y) (SwingTail s w y)
        (λ b'. end_tells_kept s w y won t.0 t.1 b (eqb-true y.index NULL b'))
        (λ b'. seeks_wider n limit begun seen history s now t.0))

    -- as many were taken then as now, where the head is what it was
    takes_then : (h : Tagged) → m.head ≡ h → h.tag ≤ (state n limit seen).takes → (state n limit seen).takes ≡ h.tag
    takes_then h won since' = omega (arith, ap (λ (u : Tagged). u.tag) won, x.told.head_tag, since', takes_grow (shape n limit) now)

    check_head_tells : (h w y : Tagged) → m.head ≡ h → h.second ≡ false → FrontTells n limit seen h y → Tells n limit begun history (found_front h w y)
    check_head_tells h w y won unshut t =
        let closed : Line T = ends (AnswerTake (Err TakeClosed)) in
        let empty : Line T = ends (AnswerTake (Err TakeEmpty)) in
        let number = takes_then h won t.since in
        let unshut_then = unshut_before (shape n limit) now (unshut_now x (ap (λ (u : Tagged). u.second) won ∙ unshut)) in
        cases (Tells n limit begun history) y.mark closed (cond (eqb y.index NULL) empty (cond (eqb w.index h.index) (SwingTailToTake w y) (LoadCell h y)))
        (λ b. let there = t.null number (t.tidy b) in then_right (there.0, sym there.1 ∙ b, unshut_then))
        (λ b. cases (Tells n limit begun history) (eqb y.index NULL) empty (cond (eqb w.index h.index) (SwingTailToTake w y) (LoadCell h y))
        (λ b'. let there = t.null number (eqb-true y.index NULL b') in then_right (there.0, sym there.1 ∙ b, unshut_then))
        (λ b'. cases (Tells n limit begun history) (eqb w.index h.index) (SwingTailToTake w y) (LoadCell h y) (λ b''. tt) (λ b''. tt)))

    look_tells : (h y : Tagged) (b : Bool) → m.head ≡ h → FrontTells n limit seen h y → eqb y.index NULL ≡ b → Sometime begun history (λ k. Justifies (shape n limit) k (Looked b))
    look_tells h y true won t e = then_right (t.null (takes_then h won t.since) (eqb-true y.index NULL e)).0
    look_tells h y false won t e = then_right (t.node (takes_then h won t.since) (λ z. grind (arith, nat_tests)))

    -- the values behind the head h, at a moment since the tail was w
    count_right : (h w : Tagged) (b : Bool) → Spans m.head m.tail m.next g.chain h w → eqb (m.next w.index).index NULL ≡ b → (state n limit history).takes ≡ h.tag → h.tag ≤ (state n limit seen).takes → (state n limit seen).puts ≤ w.tag + 1
        → Sometime begun history (λ k. length (state n limit k).values ≡ cond b w.tag (w.tag + 1) - h.tag)
    count_right h w true s e number low few =
        let puts = puts_to_end x s (omega (arith, number, x.told.head_tag)) (eqb-true (m.next w.index).index NULL e) in
        Sometime-now since (omega (arith, puts, number, x.told.balance))
    count_right h w false s e number low few =
        let r = some_moment (shape n limit) (w.tag + 1) now x.told.legal few (puts_past x s (λ z. grind (arith, nat_tests))) in
        let at = balanced n limit r.at r.holds.0 in
        record {
          at = r.at;
          since = Later-trans before r.since;
          until = r.until;
          holds = omega (arith, at, r.holds.1, number, low, takes_grow (shape n limit) r.since, takes_grow (shape n limit) r.until);
        }

    value_tells : (h y : Tagged) (k : ℕ) (o : Option (Slot T)) → let out = wins_value m p h y k o in Tells n limit begun (out.events ++ history) out.line
    value_tells h y k none = tt
    value_tells h y k (some None) = tt
    value_tells h y k (some (Some v)) = tt

    -- what an outcome tells of the history with its events
    abbrev Told : Outcome T → Type 0
    Told o = Tells n limit begun (o.events ++ history) o.line

    told : (l : Line T) → get_elem? lines q ≡ some l → Tells n limit begun seen l → Cases memories (Idle None) m p Told l (table limit l)
    told (Idle (Some a)) e t = right_wider n limit begun seen history a now t
    told (LoadCells v) e t = load_cells_tells v
    told (TakeCell v w k) e t = (λ won. tt, tt)
    told (LoadNodes put) e t = load_nodes_tells put e
    told (TakeNode put w k) e t = (λ won. tt, tt)
    told (LoadNext link) e t = load_next_tells link e
    told (LoadTail s) e t = seeks_wider n limit begun seen history s now t
    told (LoadTailNext s w) e t = let f : IsFine limit m g (LoadTailNext s w) = x.linked.fine q (LoadTailNext s w) e in (seeks_wider n limit begun seen history s now t, end_tells x w f.1)
    told (CheckTail s w y) e t = (λ won. check_tail_tells s w y won t, seeks_wider n limit begun seen history s now t.0)
    told (SwingTail s w y) e t = let r = seeks_wider n limit begun seen history s now t in (λ won. r, r)
    told (LinkNext link w y) e t = (λ won. tt, tt)
    told (SwingToLinked v w y) e t = (λ won. tt, tt)
    told (MarkNext w y) e t = (λ won. tt, tt)
    told LoadHead e t =
        cases (Tells n limit begun history) m.head.second (ends (AnswerTake (Err TakeShut))) (LoadTailToTake m.head)
        (λ h. Sometime-now since (shut_now x h))
        (λ h. omega (arith, x.told.head_tag))
    told (LoadTailToTake h) e t = omega (arith, t, takes_grow (shape n limit) now)
    told (LoadHeadNext h w) e t = let f : IsFine limit m g (LoadHeadNext h w) = x.linked.fine q (LoadHeadNext h w) e in front_tells x h f.0
    told (CheckHead h w y) e t = let f : IsFine limit m g (CheckHead h w y) = x.linked.fine q (CheckHead h w y) e in (λ won. check_head_tells h w y won f.1 t, tt)
    told (SwingTailToTake w y) e t = (λ won. tt, tt)
    told (TakeHead h y k) e t = (λ won. value_tells h y k (m.home k), tt)
    told (LoadNodesToGive give) e t = right_wider n limit begun seen history give.answer now t
    told (LinkToNodes give w) e t = right_wider n limit begun seen history give.answer now t
    told (GiveNode give w) e t = let r = right_wider n limit begun seen history give.answer now t in (λ won. r, r)
    told (LoadCellsToGive give) e t = right_wider n limit begun seen history give.answer now t
    told (LinkToCells give w) e t = right_wider n limit begun seen history give.answer now t
    told (GiveCell give w) e t = (
      λ won. right_wider n limit begun seen (Free p 1 ∷ history) give.answer (Later-trans now (Later-cons (Free p 1) history)) t,
      right_wider n limit begun seen history give.answer now t,
    )
    told LoadHeadToLook e t = omega (arith, x.told.head_tag)
    told (LoadNextToLook h) e t = front_tells x h (x.linked.fine q (LoadNextToLook h) e)
    told (CheckHeadToLook h y) e t = (λ won. look_tells h y (eqb y.index NULL) won t refl, tt)
    told LoadHeadToCount e t = omega (arith, x.told.head_tag)
    told (LoadTailToCount h) e t = (omega (arith, t, takes_grow (shape n limit) now), (puts_near x).1)
    told (LoadNextToCount h w) e t =
        let f : IsFine limit m g (LoadNextToCount h w) = x.linked.fine q (LoadNextToCount h w) e in
        record {
          since = omega (arith, t.0, takes_grow (shape n limit) now);
          held = λ number. count_right h w (eqb (m.next w.index).index NULL) f.1 refl number t.0 t.1;
        }
    told (CheckHeadToCount h w y) e t = (λ won. Sometime-wider (Later-refl begun) now (t.held (takes_then h won t.since)), tt)
    told (CheckNextToGauge w y) e t = let f : IsFine limit m g (CheckNextToGauge w y) = x.linked.fine q (CheckNextToGauge w y) e in (λ won. Sometime-now since (open_gauged x w y f won), tt)
    told LoadHeadToShut e t = cases (Tells n limit begun history) m.head.second (ends (AnswerShut false)) (ShutHead m.head) (λ h. Sometime-now since (shut_now x h)) (λ h. tt)
    told (ShutHead h) e t = (λ won. tt, tt)
    told l e t = tt

    pub tells_kept : (l : Line T) → get_elem? lines q ≡ some l → Tells n limit begun seen l → let o = step (shape n limit) m p l in Tells n limit begun (o.events ++ history) o.line
    tells_kept l e t = by_cases memories (Idle None) m p Told l (table limit l) (told l e t)

-- each event of a step is of the pass that makes it
module _ {T : Type 0} (c : Shape) (m : Memory T) (p q : ℕ) (other : q ≢ p) (history : List (Event T)) where
  another : (e : Event T) → pass_of e ≡ p → own q (e ∷ history) ≡ own q history
  another e mine = own-other q e history (λ z. other (sym z ∙ mine))

  took_apart : (h y : Tagged) (k : ℕ) (o : Option (Slot T)) → own q ((wins_value m p h y k o).events ++ history) ≡ own q history
  took_apart h y k none = refl
  took_apart h y k (some None) = refl
  took_apart h y k (some (Some v)) = another (Take p v h.tag) refl

  apart : (l : Line T) → Apart memories (Idle None) m p q history (table c.limit l)
  apart (TakeCell v w k) = another (Hold p) refl
  apart (TakeNode put w k) = refl
  apart (LinkNext link w y) = another (Put p (link.value ∷ []) w.tag) refl
  apart (MarkNext w y) = another (Close p) refl
  apart (TakeHead h y k) = took_apart h y k (m.home k)
  apart (GiveNode give w) = refl
  apart (GiveCell give w) = another (Free p 1) refl
  apart (ShutHead h) = another (Shut p) refl
  apart l = tt

  pub step_apart : (l : Line T) → own q ((step c m p l).events ++ history) ≡ own q history
  step_apart l = adds_own memories (Idle None) m p q history l (table c.limit l) (apart l)

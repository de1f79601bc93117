-- Each step of the queue is paid for: it lowers the weight of its line, an exchange that wins is paid out of
-- the line's harm, and no other line weighs more by more than its price.
use Rattle.std.proofs.Common.{◌≡◌, ◌≢◌, ℕ, suc, ◌+◌, ◌<◌, ◌≤◌, ◌&&◌, ◌||◌, not, Bool, true, false, cond, eqb, leb, List, [], refl, sym, ap, ◌∙◌, subst, eqb-true, eq-eqb, ne_eqb, Option as Slot, Some, Ok, Err, arith}
use Rattle.std.proofs.lemmas.Bool.{false≢true}
use Rattle.std.proofs.lemmas.Bool.Decides.{nat_tests}
use mathlib.Core.Option.{Option, some}
use lib.ListN.{get_elem?}
use Rattle.tagged_index.specs.declared.word.TheConstants.{NULL}
use Rattle.bounded_model.specs.declared.answers.Word.TheVariants.{Cells as CellsWord, Nodes as NodesWord, Next as NextWord}
use Rattle.bounded_model.specs.declared.answers.PutRefused.TheVariants.{Spent as PutSpent}
use Rattle.bounded_model.specs.declared.answers.TakeRefused.TheVariants.{Empty as TakeEmpty, Closed as TakeClosed, Shut as TakeShut}
use Rattle.bounded_model.specs.declared.history.Event.{Event}
use Rattle.machine.specs.Words.{Tagged, same, kept, raised, with_second, times}
use Rattle.machine.proofs.Tests.{cases, same-is, same-self, fresh, lost, lost_small, lost_none, lost_all, lost_more, lost_two, lost_first, lost_both, lost_second, same_second}
use Rattle.machine.proofs.Lists.{times_here}
use Rattle.queue_machine.specs.declared.lines.Linking.{Linking}
use Rattle.queue_machine.specs.declared.lines.Seeking.{Seeking}
use Rattle.queue_machine.specs.declared.lines.Seeking.TheVariants.{ToLink, ToRefuse, ToClose, ToGauge}
use Rattle.queue_machine.specs.declared.lines.Answer.TheVariants.{Put as AnswerPut, Take as AnswerTake, Shut as AnswerShut, Look as AnswerLook, Len as AnswerLen, Gauge as AnswerGauge}
use Rattle.queue_machine.specs.declared.lines.Line.{Line}
use Rattle.queue_machine.specs.declared.lines.Line.TheVariants.{Idle, LoadCells, LoadCellLink, TakeCell, LoadNodes, LoadNodeLink, TakeNode, LoadNext, PrepareNext, LoadTail, LoadTailNext, CheckTail, SwingTail, LinkNext, SwingToLinked, MarkNext, LoadHead, LoadTailToTake, CheckHead, SwingTailToTake, LoadCell, TakeHead, LoadNodesToGive, GiveNode, LoadCellsToGive, GiveCell, LoadHeadToLook, CheckHeadToLook, LoadHeadToCount, CheckHeadToCount, CheckNextToGauge, LoadHeadToShut, ShutHead}
use Rattle.queue_machine.specs.Machine.{Memory, null_word, goes_on, wins_value, wins_exchange, step, is_idle, ends, gives, frees, back_closed, back_null, found_back, counted, after_next, after_link, after_swing, after_close, next_of}
use Rattle.queue_machine.specs.Answers.{shape}
use Rattle.queue_machine.specs.Rule.{Lists, Lags, Ends, IsFine, Good}
use Rattle.queue_machine.proofs.Chain.{word_else, tail_in, behind_null}
use Rattle.queue_machine.proofs.StepKinds.{outside}
use Rattle.step_core.proofs.Falls.{raised_by, Lower, Low, either, swaps}
use Rattle.step_core.proofs.queue.Weight.{turn, seeking_harm, passed, is_end, lag, late, lag_small, late_small, weight_of, weight, price, harm, cells_raise, nodes_raise, head_raise, next_raise, swing_raise}

module _ {T : Type 0} where
  -- what the next step of a line costs each other one
  abbrev pub spends : Memory T → Line T → ℕ
  spends m l = cond (wins_exchange m l) (price l) 0

  -- where the tail lags, and where it does not

  lagging : (m : Memory T) → next_of m m.tail.index ≢ NULL → lag m ≡ 4
  lagging m node = rw (ne_eqb (next_of m m.tail.index) NULL node) refl

  being_late : (m : Memory T) → next_of m m.tail.index ≢ NULL → late m ≡ 5
  being_late m node = rw (ne_eqb (next_of m m.tail.index) NULL node) refl

  closed_lag : (m : Memory T) → (m.next m.tail.index).mark ≡ true → 4 ≤ lag m
  closed_lag m e = rw e (by_test (eqb (next_of m m.tail.index) NULL))
    where
      by_test : (b : Bool) → 4 ≤ cond (b && false) 0 4
      by_test true = omega arith
      by_test false = omega arith

  module _ {n limit : ℕ} {m : Memory T} {g : Lists} {who : ℕ → Option ℕ} {lines : List (Line T)} {history : List (Event T)} (x : Good T n limit m g who lines history) where
    -- before a swing the tail lags, after it a node can be linked behind the tail
    record Swings (y : Tagged) : Type 0 where
      before_lag : lag m ≡ 4
      before_late : late m ≡ 5
      after_lag : lag (after_swing m m.tail y.index) ≡ 0
      after_late : late (after_swing m m.tail y.index) ≡ 0

    swings : (w y : Tagged) → Lags m.tail m.next w y → m.tail ≡ w → Swings y
    swings w y lags won =
        let link : m.next m.tail.index ≡ y = ap (λ (u : Tagged). m.next u.index) won ∙ lags.follows (ap (λ (u : Tagged). u.tag) (sym won)) in
        let is : next_of m m.tail.index ≡ y.index = ap (λ (u : Tagged). u.index) link in
        let node : next_of m m.tail.index ≢ NULL = λ z. lags.node (sym is ∙ z) in
        let null : next_of m y.index ≡ NULL = ap (next_of m) (sym is) ∙ behind_null x.linked.chained node in
        record {
          before_lag = lagging m node;
          before_late = being_late m node;
          after_lag = rw (eq-eqb (next_of m y.index) NULL null, unmarked (m.next y.index).mark refl node) refl;
          after_late = rw (eq-eqb (next_of m y.index) NULL null) refl;
        }
      where
        unmarked : (b : Bool) → (m.next y.index).mark ≡ b → next_of m m.tail.index ≢ NULL → (m.next y.index).mark ≡ false
        unmarked true e node = absurd (node (x.linked.chained.tidy m.tail.index (x.told.closed_marked (x.told.marked_closed y.index e))))
        unmarked false e node = e

    -- What a step costs the others

    swing_raises : (w y : Tagged) → Lags m.tail m.next w y → m.tail ≡ w → (u : Line T) → weight (after_swing m w y.index) u ≤ weight m u + 0
    swing_raises w y lags won u =
        let f = swings w y lags won in
        let t = raised w y.index in
        let after : weight (after_swing m w y.index) u ≡ weight_of m.cells m.nodes m.head t m.next 0 0 u = λ i. weight_of m.cells m.nodes m.head t m.next (f.after_lag i) (f.after_late i) u in
        let before : weight m u ≡ weight_of m.cells m.nodes m.head m.tail m.next 4 5 u = λ i. weight_of m.cells m.nodes m.head m.tail m.next (f.before_lag i) (f.before_late i) u in
        omega (arith, after, before, swing_raise m.cells m.nodes m.head m.tail t m.next u)

    -- a link was prepared, of a node that is not in the chain
    module _ (q : ℕ) (link : Linking T) (y : Tagged) (at : get_elem? lines q ≡ some (PrepareNext link y)) where
      abbrev prepared : Memory T
      prepared = after_next m link.node (null_word (y.tag + 1))

      still : (j : ℕ) → 0 < times j g.chain → prepared.next j ≡ m.next j
      still j there = word_else m.next link.node (null_word (y.tag + 1)) j (λ z. outside q (PrepareNext link y) (LoadTail (ToLink link)) x at link.node j (omega (arith, times_here link.node [])) there (sym z))

      at_tail : prepared.next m.tail.index ≡ m.next m.tail.index
      at_tail = still m.tail.index (tail_in x.linked.chained)

      -- a link that was read at the end of the chain is still there, if it was
      end_weight : (w z : Tagged) (d : ℕ) → Ends m.tail m.next w z → lost (same (prepared.next w.index) z) d ≤ lost (same (m.next w.index) z) d
      end_weight w z d last = by_test (same (m.next w.index) z) refl
        where
          by_test : (b : Bool) → same (m.next w.index) z ≡ b → lost (same (prepared.next w.index) z) d ≤ lost (same (m.next w.index) z) d
          by_test true e =
              let at = last.last (ap (λ (u : Tagged). u.tag) (sym (same-is (m.next w.index) z e))) in
              let there : prepared.next w.index ≡ m.next w.index = still w.index (subst (λ (i : ℕ). 0 < times i g.chain) (sym at.1) (tail_in x.linked.chained)) in
              omega (arith, lost_none (same (prepared.next w.index) z) d (ap (λ (u : Tagged). same u z) there ∙ e))
          by_test false e = omega (arith, lost_small (same (prepared.next w.index) z) d, lost_all (same (m.next w.index) z) d e)

      next_weight : (p : ℕ) (u : Line T) → get_elem? lines p ≡ some u → weight_of m.cells m.nodes m.head m.tail prepared.next (lag m) (late m) u ≤ weight m u
      next_weight p (CheckTail s w z) at' =
          omega (
            arith,
            same_second (same m.tail w) (same (m.next w.index) z) (same (prepared.next w.index) z) 3
                (λ e. ap (λ (u : Tagged). same u z) (still w.index (subst (λ (u : Tagged). 0 < times u.index g.chain) (same-is m.tail w e) (tail_in x.linked.chained)))),
          )
      next_weight p (LinkNext link' w z) at' = let f : IsFine limit m g (LinkNext link' w z) = x.linked.fine p (LinkNext link' w z) at' in omega (arith, end_weight w z (4 + lag m) f.1)
      next_weight p (MarkNext w z) at' = omega (arith, end_weight w z (4 + lag m) (x.linked.fine p (MarkNext w z) at'))
      next_weight p (CheckNextToGauge w z) at' = omega (arith, end_weight w z (4 + lag m) (x.linked.fine p (CheckNextToGauge w z) at'))
      next_weight p u at' = omega arith

      prepare_lag : lag prepared ≡ lag m
      prepare_lag = ap (λ (u : Tagged). cond (is_end u) 0 4) at_tail

      prepare_raises : (p : ℕ) (u : Line T) → get_elem? lines p ≡ some u → weight prepared u ≤ weight m u + 0
      prepare_raises p u at' =
          let after : weight prepared u ≡ weight_of m.cells m.nodes m.head m.tail prepared.next (lag m) (late m) u = λ i. weight_of m.cells m.nodes m.head m.tail prepared.next (prepare_lag i) (cond (eqb (at_tail i).index NULL) 0 5) u in
          omega (arith, after, next_weight p u at')

    -- a load that is compared
    compared : (u l l' : Line T) (b : Bool) → weight (cond b (goes_on m l) (goes_on m l')).memory u ≤ weight m u + 0
    compared u l l' true = omega arith
    compared u l l' false = omega arith

    link_raises : (next' : ℕ → Tagged) (home : ℕ → Option (Slot T)) (u : Line T) → weight (record m { next = next'; home = home }) u ≤ weight m u + 8
    link_raises next' home u =
        let m' : Memory T = record m { next = next'; home = home } in
        next_raise m.cells m.nodes m.head m.tail m.next next' (lag m) (late m) (lag m') (late m') u (lag_small m') (late_small m')

    pub step_raises : (q p r : ℕ) (l u : Line T) → get_elem? lines q ≡ some l → get_elem? lines r ≡ some u → weight (step (shape n limit) m p l).memory u ≤ weight m u + spends m l
    step_raises q p r (TakeCell v w k) u at at' = raised_by weight m u (LoadCells v) (same m.cells w) _ 3 (λ b. cells_raise m.cells m.nodes m.head m.tail (raised w k) m.next (lag m) (late m) u)
    step_raises q p r (TakeNode put w k) u at at' = raised_by weight m u (LoadNodes put) (same m.nodes w) _ 3 (λ b. nodes_raise m.cells m.nodes m.head m.tail (raised w k) m.next (lag m) (late m) u)
    step_raises q p r (PrepareNext link y) u at at' = prepare_raises q link y at r u at'
    step_raises q p r (CheckTail s w y) u at at' = compared u (found_back s w y) (LoadTail s) (same m.tail w)
    step_raises q p r (SwingTail s w y) u at at' =
        let f : IsFine limit m g (SwingTail s w y) = x.linked.fine q (SwingTail s w y) at in
        raised_by weight m u (LoadTail s) (same m.tail w) _ 0 (λ b. swing_raises w y f.1 (same-is m.tail w b) u)
    step_raises q p r (LinkNext link w y) u at at' = raised_by weight m u (LoadTail (ToLink link)) (same (m.next w.index) y) _ 8 (λ b. link_raises (after_link m w y link).next (after_link m w y link).home u)
    step_raises q p r (SwingToLinked v w y) u at at' = raised_by weight m u _ (same m.tail w) _ 0 (λ b. swing_raises w y (x.linked.fine q (SwingToLinked v w y) at) (same-is m.tail w b) u)
    step_raises q p r (MarkNext w y) u at at' = raised_by weight m u (LoadTail ToClose) (same (m.next w.index) y) _ 8 (λ b. link_raises (after_close m w y).next m.home u)
    step_raises q p r (CheckHead h w y) u at at' = compared u _ LoadHead (same m.head h)
    step_raises q p r (SwingTailToTake w y) u at at' = raised_by weight m u LoadHead (same m.tail w) _ 0 (λ b. swing_raises w y (x.linked.fine q (SwingTailToTake w y) at) (same-is m.tail w b) u)
    step_raises q p r (TakeHead h y k) u at at' = raised_by weight m u LoadHead (same m.head h) _ 6 (λ b. by_value (m.home k))
      where
        by_value : (o : Option (Slot T)) → weight (wins_value m p h y k o).memory u ≤ weight m u + 6
        by_value (some (Some v)) = head_raise m.cells m.nodes m.head m.tail (raised h y.index) m.next (lag m) (late m) u
        by_value o = omega arith
    step_raises q p r (GiveNode give w) u at at' = raised_by weight m u (LoadNodesToGive give) (same m.nodes w) _ 3 (λ b. nodes_raise m.cells m.nodes m.head m.tail (kept w give.node) m.next (lag m) (late m) u)
    step_raises q p r (GiveCell give w) u at at' = raised_by weight m u (LoadCellsToGive give) (same m.cells w) _ 3 (λ b. cells_raise m.cells m.nodes m.head m.tail (kept w give.cell) m.next (lag m) (late m) u)
    step_raises q p r (CheckHeadToLook h y) u at at' = compared u _ LoadHeadToLook (same m.head h)
    step_raises q p r (CheckHeadToCount h w y) u at at' = compared u _ LoadHeadToCount (same m.head h)
    step_raises q p r (CheckNextToGauge w y) u at at' = compared u _ (LoadTail ToGauge) (same (m.next w.index) y)
    step_raises q p r (ShutHead h) u at at' = raised_by weight m u LoadHeadToShut (same m.head h) _ 6 (λ b. head_raise m.cells m.nodes m.head m.tail (with_second h) m.next (lag m) (late m) u)
    step_raises q p r l u at at' = omega arith

    -- What a step leaves

    -- a load that is compared, with another word that has been read since
    looks : (b c : Bool) (l l' : Line T) (r d h : ℕ) → (b ≡ true → Lower weight harm m 0 (r + lost c (suc d)) h l) → Lower weight harm m 0 (r + d) h l' → Low weight harm (cond b (goes_on m l) (goes_on m l')) 0 (r + lost_two b c d) h
    looks true c l l' r d h f f' = let t = f refl in (omega (arith, t, lost_first c d), omega (arith, t))
    looks false c l l' r d h f f' = (omega (arith, f', lost_both c d), omega (arith, f'))

    module _ (q p : ℕ) where
      -- what a pass does that has seen the end of the chain
      end_low : (s : Seeking T) (w y : Tagged) → Lower weight harm m 0 (turn s + lag m + lost (same (m.next w.index) y) 4) (seeking_harm s) (back_null s w y)
      end_low (ToLink link) w y = (omega (arith, lost_more (same (m.next w.index) y) 4 (lag m)), omega arith)
      end_low (ToRefuse v) w y = (omega arith, omega arith)
      end_low ToClose w y = (omega (arith, lost_more (same (m.next w.index) y) 4 (lag m)), omega arith)
      end_low ToGauge w y = (omega (arith, lost_more (same (m.next w.index) y) 4 (lag m)), omega arith)

      closed_low : (s : Seeking T) (w y : Tagged) → m.tail ≡ w → y.mark ≡ true → Lower weight harm m 0 (turn s + lag m + lost (same (m.next w.index) y) 4) (seeking_harm s) (back_closed s w)
      closed_low (ToLink link) w y won marked = (omega (arith, four (same (m.next w.index) y) refl), omega arith)
        where
          four : (b : Bool) → same (m.next w.index) y ≡ b → 4 ≤ lag m + lost (same (m.next w.index) y) 4
          four true e =
              let link : m.next m.tail.index ≡ y = ap (λ (u : Tagged). m.next u.index) won ∙ same-is (m.next w.index) y e in
              omega (arith, closed_lag m (ap (λ (u : Tagged). u.mark) link ∙ marked))
          four false e = omega (arith, lost_all (same (m.next w.index) y) 4 e)
      closed_low (ToRefuse v) w y won marked = (omega arith, omega arith)
      closed_low ToClose w y won marked = (omega arith, omega arith)
      closed_low ToGauge w y won marked = (omega arith, omega arith)

      check_tail_low : (s : Seeking T) (w y : Tagged) → get_elem? lines q ≡ some (CheckTail s w y) → m.tail ≡ w → Lower weight harm m 0 (turn s + lag m + lost (same (m.next w.index) y) 4) (seeking_harm s) (found_back s w y)
      check_tail_low s w y at won =
          let f : IsFine limit m g (CheckTail s w y) = x.linked.fine q (CheckTail s w y) at in
          let low : Line T → Type 0 = Lower weight harm m 0 (turn s + lag m + lost (same (m.next w.index) y) 4) (seeking_harm s) in
          cases low y.mark (back_closed s w) (cond (eqb y.index NULL) (back_null s w y) (SwingTail s w y))
          (λ b. closed_low s w y won b)
          (λ b. cases low (eqb y.index NULL) (back_null s w y) (SwingTail s w y)
          (λ b'. end_low s w y)
          (λ b'. let node : y.index ≢ NULL = λ z. grind (arith, nat_tests) in
          let is : m.next w.index ≡ y = f.3 (ap (λ (u : Tagged). u.tag) (sym won)) node in
          let lags : lag m ≡ 4 = lagging m (λ z. node (sym (ap (λ (u : Tagged). u.index) is) ∙ ap (λ (u : Tagged). next_of m u.index) (sym won) ∙ z)) in
          (omega (arith, lags, lost_none (same m.tail w) (lag m) (ap (same m.tail) (sym won) ∙ same-self m.tail)), omega arith)))

      -- the take's second look at the head
      check_head_low : (h w y : Tagged) → get_elem? lines q ≡ some (CheckHead h w y) → m.head ≡ h
          → Lower weight harm m 0 (9 + late m + lost (passed m.tail h w) 5) 12 (cond y.mark (ends (AnswerTake (Err TakeClosed))) (cond (eqb y.index NULL) (ends (AnswerTake (Err TakeEmpty))) (cond (eqb w.index h.index) (SwingTailToTake w y) (LoadCell h y))))
      check_head_low h w y at won =
          let f : IsFine limit m g (CheckHead h w y) = x.linked.fine q (CheckHead h w y) at in
          let r : ℕ = 9 + late m + lost (passed m.tail h w) 5 in
          either weight harm m r 12 y.mark (ends (AnswerTake (Err TakeClosed))) (cond (eqb y.index NULL) (ends (AnswerTake (Err TakeEmpty))) (cond (eqb w.index h.index) (SwingTailToTake w y) (LoadCell h y)))
          (omega arith, omega arith)
          (cases (Lower weight harm m 0 r 12) (eqb y.index NULL) (ends (AnswerTake (Err TakeEmpty))) (cond (eqb w.index h.index) (SwingTailToTake w y) (LoadCell h y))
          (λ b. (omega arith, omega arith))
          (λ b. let node : y.index ≢ NULL = λ z. grind (arith, nat_tests) in
          let is : m.next h.index ≡ y = f.4 (ap (λ (u : Tagged). u.tag) (sym won)) node in
          cases (Lower weight harm m 0 r 12) (eqb w.index h.index) (SwingTailToTake w y) (LoadCell h y)
          (λ b'. (at_dummy (same m.tail w) refl (eqb-true w.index h.index b') is node, omega arith))
          (λ b'. (omega (arith, lost_none (same m.head h) 6 (ap (same m.head) (sym won) ∙ same-self m.head)), omega arith))))
        where
          at_dummy : (b : Bool) → same m.tail w ≡ b → w.index ≡ h.index → m.next h.index ≡ y → y.index ≢ NULL → 13 + lost (same m.tail w) (late m) < 9 + late m + lost (passed m.tail h w) 5
          at_dummy true b at is node =
              let tail : m.tail ≡ w = same-is m.tail w b in
              let late5 : late m ≡ 5 = being_late m (λ z. node (sym (ap (λ (u : Tagged). u.index) is) ∙ ap (next_of m) (sym (ap (λ (u : Tagged). u.index) tail ∙ at)) ∙ z)) in
              omega (arith, late5, lost_none (same m.tail w) (late m) b)
          at_dummy false b at is node =
              let behind : passed m.tail h w ≡ false = rw (b, eq-eqb w.index h.index at) refl in
              omega (arith, lost_small (same m.tail w) (late m), lost_all (passed m.tail h w) 5 behind)

      -- each step of a call lowers its weight, and pays what it spends
      pub step_falls : (l : Line T) → get_elem? lines q ≡ some l → is_idle l ≡ false → Low weight harm (step (shape n limit) m p l) (spends m l) (weight m l) (harm l)
      step_falls (Idle a) at busy = absurd (false≢true (sym busy))
      step_falls (LoadCells v) at busy =
          let spent : Line T = ends (AnswerPut (Err (PutSpent v CellsWord m.cells.tag))) in
          either weight harm m (14 + lag m) 14 (eqb m.cells.index NULL) (LoadTail (ToRefuse v)) (cond (leb limit m.cells.tag) spent (LoadCellLink v m.cells))
          (omega arith, omega arith)
          (either weight harm m (14 + lag m) 14 (leb limit m.cells.tag) spent (LoadCellLink v m.cells) (omega arith, omega arith) (omega (arith, fresh m.cells 3), omega arith))
      step_falls (TakeCell v w k) at busy = swaps weight harm m (same m.cells w) _ _ 3 (12 + lag m) 3 14 (λ b. (omega arith, omega arith)) (omega arith, omega arith)
      step_falls (LoadNodes put) at busy =
          let spent : Line T = frees put.cell (AnswerPut (Err (PutSpent put.value NodesWord m.nodes.tag))) in
          either weight harm m (11 + lag m) 11 (eqb m.nodes.index NULL) spent (cond (leb limit m.nodes.tag) spent (LoadNodeLink put m.nodes))
          (omega arith, omega arith)
          (either weight harm m (11 + lag m) 11 (leb limit m.nodes.tag) spent (LoadNodeLink put m.nodes) (omega arith, omega arith) (omega (arith, fresh m.nodes 3), omega arith))
      step_falls (TakeNode put w k) at busy = swaps weight harm m (same m.nodes w) _ _ 3 (9 + lag m) 3 11 (λ b. (omega arith, omega arith)) (omega arith, omega arith)
      step_falls (LoadNext link) at busy =
          let y = m.next link.node in
          either weight harm m (7 + lag m) 8 (leb limit (y.tag + 1)) (gives link (AnswerPut (Err (PutSpent link.value (NextWord link.node) y.tag)))) (PrepareNext link y) (omega arith, omega arith) (omega arith, omega arith)
      step_falls (PrepareNext link y) at busy = (omega (arith, prepare_lag q link y at), omega arith)
      step_falls (LoadTailNext s w) at busy = (omega (arith, lost_second (same m.tail w) (same (m.next w.index) (m.next w.index)) 3 (same-self (m.next w.index))), omega arith)
      step_falls (CheckTail s w y) at busy =
          looks (same m.tail w) (same (m.next w.index) y) (found_back s w y) (LoadTail s) (turn s + lag m) 3 (seeking_harm s) (λ b. check_tail_low s w y at (same-is m.tail w b)) (omega arith, omega arith)
      step_falls (SwingTail s w y) at busy =
          let f : IsFine limit m g (SwingTail s w y) = x.linked.fine q (SwingTail s w y) at in
          swaps weight harm m (same m.tail w) (goes_on (after_swing m w y.index) (LoadTail s)) (LoadTail s) 0 (turn s + 3) (lag m) (seeking_harm s)
          (λ b. let f' : lag (after_swing m w y.index) ≡ 0 = (swings w y f.1 (same-is m.tail w b)).after_lag in (omega (arith, f'), omega arith))
          (omega arith, omega arith)
      step_falls (LinkNext link w y) at busy = swaps weight harm m (same (m.next w.index) y) _ _ 8 2 (4 + lag m) 8 (λ b. (omega arith, omega arith)) (omega arith, omega arith)
      step_falls (SwingToLinked v w y) at busy = ended (same m.tail w)
        where
          ended : (b : Bool) → Low weight harm (cond b (goes_on (after_swing m w y.index) (ends (AnswerPut (Ok w.tag)))) (goes_on m (ends (AnswerPut (Ok w.tag))))) (cond b 0 0) 1 0
          ended true = (omega arith, omega arith)
          ended false = (omega arith, omega arith)
      step_falls (MarkNext w y) at busy = swaps weight harm m (same (m.next w.index) y) _ _ 8 1 (4 + lag m) 8 (λ b. (omega arith, omega arith)) (omega arith, omega arith)
      step_falls LoadHead at busy =
          either weight harm m (12 + late m) 12 m.head.second (ends (AnswerTake (Err TakeShut))) (LoadTailToTake m.head) (omega arith, omega arith) (omega (arith, fresh m.head 4), omega arith)
      step_falls (LoadTailToTake h) at busy =
          (omega (arith, lost_second (same m.head h) (passed m.tail h m.tail) 4 (ap (λ (b : Bool). not (eqb m.tail.index h.index) || b) (same-self m.tail) ∙ or_true (not (eqb m.tail.index h.index)))), omega arith)
        where
          or_true : (b : Bool) → (b || true) ≡ true
          or_true true = refl
          or_true false = refl
      step_falls (CheckHead h w y) at busy =
          looks (same m.head h) (passed m.tail h w) _ LoadHead (9 + late m) 4 12 (λ b. check_head_low h w y at (same-is m.head h b)) (omega arith, omega arith)
      step_falls (SwingTailToTake w y) at busy =
          let f : Lags m.tail m.next w y = x.linked.fine q (SwingTailToTake w y) at in
          swaps weight harm m (same m.tail w) (goes_on (after_swing m w y.index) LoadHead) LoadHead 0 13 (late m) 12
          (λ b. let f' : late (after_swing m w y.index) ≡ 0 = (swings w y f (same-is m.tail w b)).after_late in (omega (arith, f'), omega arith))
          (omega arith, omega arith)
      step_falls (TakeHead h y k) at busy = swaps weight harm m (same m.head h) (wins_value m p h y k (m.home k)) LoadHead 6 (7 + late m) 6 12 (λ b. by_value (m.home k)) (omega arith, omega arith)
        where
          by_value : (o : Option (Slot T)) → Low weight harm (wins_value m p h y k o) 6 (7 + late m) 12
          by_value (some (Some v)) = (omega arith, omega arith)
          by_value o = (omega arith, omega arith)
      step_falls (GiveNode give w) at busy = swaps weight harm m (same m.nodes w) _ _ 3 4 3 6 (λ b. (omega arith, omega arith)) (omega arith, omega arith)
      step_falls (GiveCell give w) at busy = swaps weight harm m (same m.cells w) _ _ 3 1 3 3 (λ b. (omega arith, omega arith)) (omega arith, omega arith)
      step_falls (CheckHeadToLook h y) at busy = seen (same m.head h)
        where
          seen : (b : Bool) → Low weight harm (cond b (goes_on m (ends (AnswerLook (eqb y.index NULL)))) (goes_on m LoadHeadToLook)) 0 (1 + lost b 3) 0
          seen true = (omega arith, omega arith)
          seen false = (omega (arith, lost_all false 3 refl), omega arith)
      step_falls (CheckHeadToCount h w y) at busy = seen (same m.head h)
        where
          seen : (b : Bool) → Low weight harm (cond b (goes_on m (ends (AnswerLen (counted h w y)))) (goes_on m LoadHeadToCount)) 0 (1 + lost b 4) 0
          seen true = (omega arith, omega arith)
          seen false = (omega (arith, lost_all false 4 refl), omega arith)
      step_falls (CheckNextToGauge w y) at busy = seen (same (m.next w.index) y)
        where
          seen : (b : Bool) → Low weight harm (cond b (goes_on m (ends (AnswerGauge false w.tag))) (goes_on m (LoadTail ToGauge))) 0 (1 + lost b (4 + lag m)) 0
          seen true = (omega arith, omega arith)
          seen false = (omega (arith, lost_all false (4 + lag m) refl), omega arith)
      step_falls LoadHeadToShut at busy =
          either weight harm m 2 6 m.head.second (ends (AnswerShut false)) (ShutHead m.head) (omega arith, omega arith) (omega (arith, fresh m.head 2), omega arith)
      step_falls (ShutHead h) at busy = swaps weight harm m (same m.head h) _ _ 6 1 2 6 (λ b. (omega arith, omega arith)) (omega arith, omega arith)
      step_falls l at busy = (omega (arith, fresh), omega arith)

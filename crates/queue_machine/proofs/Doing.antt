-- Each step of a pass of the queue carries on what it has done.
use Rattle.std.proofs.Common.{◌≡◌, ℕ, ◌+◌, true, false, cond, eqb, leb, List, [], ◌∷◌, ◌++◌, refl, sym, ap, ◌∙◌, subst, eqb-true, arith, inl, inr, append_assoc, Option as Slot, Some, None, Ok, Err}
use Rattle.std.proofs.lemmas.Bool.Decides.{nat_tests}
use mathlib.Core.Option.{Option, some}
use lib.ListN.{get_elem?}
use Rattle.tagged_index.specs.declared.word.TheConstants.{NULL}
use Rattle.bounded_model.specs.declared.answers.Word.TheVariants.{Cells as CellsWord, Nodes as NodesWord, Next as NextWord}
use Rattle.bounded_model.specs.declared.answers.PutRefused.TheVariants.{Full as PutFull, Closed as PutClosed, Spent as PutSpent}
use Rattle.bounded_model.specs.declared.answers.TakeRefused.TheVariants.{Empty as TakeEmpty, Closed as TakeClosed, Shut as TakeShut}
use Rattle.bounded_model.specs.declared.history.Event.{Event}
use Rattle.bounded_model.specs.declared.history.Event.TheVariants.{Hold, Put, Take, Free, Close, Shut}
use Rattle.bounded_model.specs.Histories.{own, pass_of}
use Rattle.bounded_model.proofs.Histories.{own-append, own-mine}
use Rattle.machine.specs.Words.{Tagged}
use Rattle.machine.proofs.Ahead.{Ahead}
use Rattle.machine.proofs.Tests.{cases}
use Rattle.machine.proofs.Program.{Cases, by_cases}
use Rattle.queue_machine.specs.declared.lines.Seeking.{Seeking}
use Rattle.queue_machine.specs.declared.lines.Seeking.TheVariants.{ToLink, ToRefuse, ToClose, ToGauge}
use Rattle.queue_machine.specs.declared.lines.Call.{Call}
use Rattle.queue_machine.specs.declared.lines.Call.TheVariants.{Put as CallPut, Take as CallTake, Close as CallClose, Shut as CallShut, Look as CallLook, Len as CallLen, Gauge as CallGauge}
use Rattle.queue_machine.specs.declared.lines.Answer.{Answer}
use Rattle.queue_machine.specs.declared.lines.Answer.TheVariants.{Put as AnswerPut, Take as AnswerTake, Close as AnswerClose, Shut as AnswerShut, Look as AnswerLook, Len as AnswerLen, Gauge as AnswerGauge}
use Rattle.queue_machine.specs.declared.lines.Line.{Line}
use Rattle.queue_machine.specs.declared.lines.Line.TheVariants.{Idle, LoadCells, LoadCellLink, TakeCell, LoadNodes, LoadNodeLink, TakeNode, LoadNext, PrepareNext, LoadTail, CheckTail, SwingTail, LinkNext, SwingToLinked, MarkNext, LoadHead, LoadTailToTake, CheckHead, SwingTailToTake, LoadCell, TakeHead, GiveNode, GiveCell, CheckHeadToLook, CheckHeadToCount, CheckNextToGauge, LoadHeadToShut, ShutHead}
use Rattle.queue_machine.specs.Machine.{Memory, memories, Outcome, table, wins_value, step, starts, ends, gives, frees, back_closed, back_null, found_back, found_front, counted}
use Rattle.queue_machine.specs.Answers.{shape}
use Rattle.queue_machine.specs.Rule.{Lists, IsFine, Good}
use Rattle.queue_machine.specs.Deeds.{Makes, HasMade, Deeds}
use Rattle.queue_machine.proofs.Answers.{node_there, node_below}
use Rattle.queue_machine.proofs.StepKinds.{finds_value}

module _ {T : Type 0} where
  -- the story goes on to a later history, to which others alone have added
  pub meanwhile : (p : ℕ) (call : Call T) (begun seen h : List (Event T)) (l : Line T) → Ahead p seen h → Deeds p call l begun seen → Deeds p call l begun h
  meanwhile p call begun seen h l a s = record {
    between = a.rest ++ s.between;
    is = a.is ∙ ap (λ (x : List (Event T)). a.rest ++ x) s.is ∙ sym (append_assoc a.rest s.between begun);
    made = subst (HasMade p call l) (sym (own-append p a.rest s.between ∙ ap (λ (x : List (Event T)). x ++ own p s.between) a.none_own)) s.made;
  }

  -- an operation that has just been begun has done nothing
  pub begins : (p : ℕ) (h : List (Event T)) (call : Call T) → Deeds p call (starts call) h h
  begins p h (CallPut v) = record { between = []; is = refl; made = (refl, refl) }
  begins p h call = record { between = []; is = refl; made = (refl, refl) }

module _ {T : Type 0} {n limit : ℕ} {m : Memory T} {g : Lists} {who : ℕ → Option ℕ} {lines : List (Line T)} {h : List (Event T)} (x : Good T n limit m g who lines h) (q p : ℕ) (call : Call T) (begun : List (Event T)) where
  abbrev At : Line T → Type 0
  At l = Deeds p call l begun h

  abbrev Does : Outcome T → Type 0
  Does o = Deeds p call o.line begun (o.events ++ h)

  -- a step without an event
  stays : {l l' : Line T} (s : At l) → HasMade p call l' (own p s.between) → At l'
  stays s made = record { between = s.between; is = s.is; made = made }

  -- a step with an event
  adds : {l l' : Line T} (e : Event T) (s : At l) → pass_of e ≡ p → HasMade p call l' (e ∷ own p s.between) → Deeds p call l' begun (e ∷ h)
  adds {l' = l'} e s mine made = record {
    between = e ∷ s.between;
    is = ap (λ (y : List (Event T)). e ∷ y) s.is;
    made = subst (HasMade p call l') (sym (own-mine p e s.between mine)) made;
  }

  -- an event more on top of others
  on_top : (e : Event T) (events events' : List (Event T)) → events ≡ events' → e ∷ events ≡ e ∷ events'
  on_top e events events' is = ap (λ (y : List (Event T)). e ∷ y) is

  -- what the call says of the answer, whichever of its names it goes by
  of : (call' : Call T) (a : Answer T) (events : List (Event T)) → call ≡ call' → Makes p call' a events → Makes p call a events
  of call' a events is made = subst (λ (k : Call T). Makes p k a events) (sym is) made

  -- the cell is given back after it was taken
  freed : (events : List (Event T)) → events ≡ Hold p ∷ [] → Free p 1 ∷ events ≡ Free p 1 ∷ Hold p ∷ []
  freed events is = on_top (Free p 1) events (Hold p ∷ []) is

  closed_does : (s : Seeking T) (w y : Tagged) → At (CheckTail s w y) → At (back_closed s w)
  closed_does (ToLink link) w y d = stays d (of (CallPut link.value) (AnswerPut (Err (PutClosed link.value))) (Free p 1 ∷ own p d.between) d.made.0 (refl, inr (freed (own p d.between) d.made.1)))
  closed_does (ToRefuse v) w y d = stays d (of (CallPut v) (AnswerPut (Err (PutClosed v))) (own p d.between) d.made.0 (refl, inl d.made.1))
  closed_does ToClose w y d = stays d (of CallClose (AnswerClose false) (own p d.between) d.made.0 d.made.1)
  closed_does ToGauge w y d = stays d (of CallGauge (AnswerGauge true w.tag) (own p d.between) d.made.0 d.made.1)

  end_does : (s : Seeking T) (w y : Tagged) → At (CheckTail s w y) → At (back_null s w y)
  end_does (ToLink link) w y d = stays d d.made
  end_does (ToRefuse v) w y d = stays d (of (CallPut v) (AnswerPut (Err (PutFull v))) (own p d.between) d.made.0 (refl, d.made.1))
  end_does ToClose w y d = stays d d.made
  end_does ToGauge w y d = stays d d.made

  check_tail_does : (s : Seeking T) (w y : Tagged) → At (CheckTail s w y) → At (found_back s w y)
  check_tail_does s w y d = cases At y.mark (back_closed s w) (cond (eqb y.index NULL) (back_null s w y) (SwingTail s w y))
      (λ b. closed_does s w y d)
      (λ b. cases At (eqb y.index NULL) (back_null s w y) (SwingTail s w y) (λ b'. end_does s w y d) (λ b'. stays d d.made))

  check_head_does : (u w y : Tagged) → At (CheckHead u w y) → At (found_front u w y)
  check_head_does u w y d =
      let closed : Line T = ends (AnswerTake (Err TakeClosed)) in
      let empty : Line T = ends (AnswerTake (Err TakeEmpty)) in
      cases At y.mark closed (cond (eqb y.index NULL) empty (cond (eqb w.index u.index) (SwingTailToTake w y) (LoadCell u y)))
      (λ b. stays d (of CallTake (AnswerTake (Err TakeClosed)) (own p d.between) d.made.0 d.made.1))
      (λ b. cases At (eqb y.index NULL) empty (cond (eqb w.index u.index) (SwingTailToTake w y) (LoadCell u y))
      (λ b'. stays d (of CallTake (AnswerTake (Err TakeEmpty)) (own p d.between) d.made.0 d.made.1))
      (λ b'. cases At (eqb w.index u.index) (SwingTailToTake w y) (LoadCell u y) (λ b''. stays d d.made) (λ b''. stays d d.made)))

  value_does : (u y : Tagged) (k : ℕ) (v : T) → At (TakeHead u y k) → Does (wins_value m p u y k (some (Some v)))
  value_does u y k v d =
      let took : Event T = Take p v u.tag in
      let answer : Answer T = AnswerTake (Ok (v, u.tag)) in
      adds took d refl (of CallTake answer (Free p 1 ∷ took ∷ own p d.between) d.made.0 (on_top (Free p 1) (took ∷ own p d.between) (took ∷ []) (on_top took (own p d.between) [] d.made.1)))

  -- the winner of a take finds a value
  take_head_does : (u y : Tagged) (k : ℕ) → get_elem? lines q ≡ some (TakeHead u y k) → m.head ≡ u → At (TakeHead u y k) → Does (wins_value m p u y k (m.home k))
  take_head_does u y k at won d =
      let f : IsFine limit m g (TakeHead u y k) = x.linked.fine q (TakeHead u y k) at in
      let found = finds_value x u y k won f.2 f.3 f.4 f.5 in
      subst (λ (o : Option (Slot T)). Does (wins_value m p u y k o)) (sym found.here) (value_does u y k found.value d)

  does : (l : Line T) → get_elem? lines q ≡ some l → At l → Cases memories (Idle None) m p Does l (table limit l)
  does (Idle a) at d = d
  does (LoadCells v) at d =
      let spent : Line T = ends (AnswerPut (Err (PutSpent v CellsWord m.cells.tag))) in
      cases At (eqb m.cells.index NULL) (LoadTail (ToRefuse v)) (cond (leb limit m.cells.tag) spent (LoadCellLink v m.cells))
      (λ b. stays d d.made)
      (λ b. cases At (leb limit m.cells.tag) spent (LoadCellLink v m.cells)
      (λ b'. stays d (of (CallPut v) (AnswerPut (Err (PutSpent v CellsWord m.cells.tag))) (own p d.between) d.made.0 (refl, d.made.1)))
      (λ b'. stays d d.made))
  does (TakeCell v w k) at d = (λ won. adds (Hold p) d refl (d.made.0, on_top (Hold p) (own p d.between) [] d.made.1), stays d d.made)
  does (LoadNodes put) at d =
      let spent : Line T = frees put.cell (AnswerPut (Err (PutSpent put.value NodesWord m.nodes.tag))) in
      cases At (eqb m.nodes.index NULL) spent (cond (leb limit m.nodes.tag) spent (LoadNodeLink put m.nodes))
      (λ b. absurd (node_there x q put at (eqb-true m.nodes.index NULL b)))
      (λ b. cases At (leb limit m.nodes.tag) spent (LoadNodeLink put m.nodes) (λ b'. let low = node_below x q put at in absurd (grind (arith, nat_tests))) (λ b'. stays d d.made))
  does (TakeNode put w k) at d = (λ won. stays d d.made, stays d d.made)
  does (LoadNext link) at d =
      let y = m.next link.node in
      let spent : Line T = gives link (AnswerPut (Err (PutSpent link.value (NextWord link.node) y.tag))) in
      cases At (leb limit (y.tag + 1)) spent (PrepareNext link y)
      (λ b. stays d (of (CallPut link.value) (AnswerPut (Err (PutSpent link.value (NextWord link.node) y.tag))) (Free p 1 ∷ own p d.between) d.made.0 (refl, freed (own p d.between) d.made.1)))
      (λ b. stays d d.made)
  does (CheckTail s w y) at d = (λ won. check_tail_does s w y d, stays d d.made)
  does (SwingTail s w y) at d = (λ won. stays d d.made, stays d d.made)
  does (LinkNext link w y) at d =
      let put_now : Event T = Put p (link.value ∷ []) w.tag in
      (λ won. adds put_now d refl (d.made.0, on_top put_now (own p d.between) (Hold p ∷ []) d.made.1), stays d d.made)
  does (SwingToLinked v w y) at d =
      let made : Makes p call (AnswerPut (Ok w.tag)) (own p d.between) = of (CallPut v) (AnswerPut (Ok w.tag)) (own p d.between) d.made.0 d.made.1 in
      (λ won. stays d made, stays d made)
  does (MarkNext w y) at d =
      (λ won. adds (Close p) d refl (of CallClose (AnswerClose true) (Close p ∷ own p d.between) d.made.0 (on_top (Close p) (own p d.between) [] d.made.1)), stays d d.made)
  does LoadHead at d = cases At m.head.second (ends (AnswerTake (Err TakeShut))) (LoadTailToTake m.head)
      (λ b. stays d (of CallTake (AnswerTake (Err TakeShut)) (own p d.between) d.made.0 d.made.1))
      (λ b. stays d d.made)
  does (CheckHead u w y) at d = (λ won. check_head_does u w y d, stays d d.made)
  does (SwingTailToTake w y) at d = (λ won. stays d d.made, stays d d.made)
  does (TakeHead u y k) at d = (λ won. take_head_does u y k at won d, stays d d.made)
  does (GiveNode give w) at d = (λ won. stays d d.made, stays d d.made)
  does (GiveCell give w) at d = (λ won. adds (Free p 1) d refl d.made, stays d d.made)
  does (CheckHeadToLook u y) at d = (λ won. stays d (of CallLook (AnswerLook (eqb y.index NULL)) (own p d.between) d.made.0 d.made.1), stays d d.made)
  does (CheckHeadToCount u w y) at d = (λ won. stays d (of CallLen (AnswerLen (counted u w y)) (own p d.between) d.made.0 d.made.1), stays d d.made)
  does (CheckNextToGauge w y) at d = (λ won. stays d (of CallGauge (AnswerGauge false w.tag) (own p d.between) d.made.0 d.made.1), stays d d.made)
  does LoadHeadToShut at d = cases At m.head.second (ends (AnswerShut false)) (ShutHead m.head)
      (λ b. stays d (of CallShut (AnswerShut false) (own p d.between) d.made.0 d.made.1))
      (λ b. stays d d.made)
  does (ShutHead u) at d =
      (λ won. adds (Shut p) d refl (of CallShut (AnswerShut true) (Shut p ∷ own p d.between) d.made.0 (on_top (Shut p) (own p d.between) [] d.made.1)), stays d d.made)
  does l at d = stays d d.made

  -- each step of a pass carries on what it has done
  pub step_does : (l : Line T) → get_elem? lines q ≡ some l → At l → Does (step (shape n limit) m p l)
  step_does l at d = by_cases memories (Idle None) m p Does l (table limit l) (does l at d)

-- Where the rule holds, each cell and each node is in one place, and a step wins only what no pass had.
use Rattle.std.proofs.Common.{◌≡◌, ◌⊎◌, inl, inr, ℕ, ◌+◌, ◌<◌, Bool, true, false, cond, eqb, leb, List, [], ◌∷◌, map, refl, sym, ap, ◌∙◌, subst, eqb-true, arith}
use Rattle.std.specs.Prelude.{Option as Slot, Some, None}
use mathlib.Core.Option.{Option, none, some}
use lib.ListN.{get_elem?}
use Rattle.tagged_index.specs.declared.word.TheConstants.{NULL}
use Rattle.bounded_model.specs.declared.history.Event.{Event}
use Rattle.bounded_model.specs.Machine.{without_first}
use Rattle.machine.specs.Words.{Tagged, times}
use Rattle.machine.specs.Places.{Has, InOnePlace}
use Rattle.machine.proofs.Tests.{cases}
use Rattle.machine.proofs.Program.{Cases, by_cases}
use Rattle.machine.proofs.Lists.{times_here}
use Rattle.machine.proofs.OneList.{ready, front, front_of}
use Rattle.machine.proofs.Places.{in_one_place, is_free, is_inside}
use Rattle.queue_machine.specs.declared.lines.Seeking.{Seeking}
use Rattle.queue_machine.specs.declared.lines.Seeking.TheVariants.{ToLink, ToRefuse, ToClose, ToGauge}
use Rattle.queue_machine.specs.declared.lines.Line.{Line}
use Rattle.queue_machine.specs.declared.lines.Line.TheVariants.{Idle, LoadCells, TakeCell, LoadNodes, TakeNode, LoadNext, CheckTail, SwingTail, LinkNext, SwingToLinked, MarkNext, LoadHead, CheckHead, SwingTailToTake, TakeHead, GiveNode, GiveCell, CheckHeadToLook, CheckHeadToCount, CheckNextToGauge, LoadHeadToShut, ShutHead}
use Rattle.queue_machine.specs.Machine.{Memory, memories, Outcome, table, next_of, held_cells, held_nodes, step, wins_value, back_closed, back_null}
use Rattle.queue_machine.specs.Answers.{shape}
use Rattle.queue_machine.specs.Rule.{Lists, IsFine, Good}
use Rattle.queue_machine.specs.Places.{Listed, NothingTwice, CellWas, NodeWas, WinsUnheld, chained_cells, chained_nodes}
use Rattle.queue_machine.proofs.Chain.{head_in}

-- what is in a list of one is that one
one_only : (c i : ℕ) → Has (i ∷ []) c → c ≡ i
one_only c i h = cases (λ x. 0 < x + 0 → c ≡ i) (eqb c i) 1 0 (λ b there. eqb-true c i b) (λ b there. absurd (omega arith)) h

module _ {T : Type 0} {n limit : ℕ} {m : Memory T} {g : Lists} {who : ℕ → Option ℕ} {lines : List (Line T)} {history : List (Event T)} (x : Good T n limit m g who lines history) where
  abbrev listed : Listed m
  listed =
      let f = front (next_of m) m.head.index g.chain NULL (head_in x.linked.chained) x.linked.chained.stands in
      record { cells = g.cells; nodes = g.nodes; behind = f.rest; free_cells = x.linked.cells_stand; free_nodes = x.linked.nodes_stand; chain = (refl, f.leads) }

  is_chain : g.chain ≡ m.head.index ∷ listed.behind
  is_chain = (front (next_of m) m.head.index g.chain NULL (head_in x.linked.chained) x.linked.chained.stands).is

  queued : g.queued ≡ map m.cell listed.behind
  queued = x.linked.chained.stored ∙ ap (λ (is : List ℕ). map m.cell (without_first is)) is_chain

  cells_placed : InOnePlace held_cells n listed.cells (chained_cells m listed) lines
  cells_placed = in_one_place held_cells n listed.cells (chained_cells m listed) lines (λ i. omega (arith, x.linked.cells_once i, ap (times i) queued))

  nodes_placed : InOnePlace held_nodes (n + 1) listed.nodes (chained_nodes m listed) lines
  nodes_placed = in_one_place held_nodes (n + 1) listed.nodes (chained_nodes m listed) lines (λ j. omega (arith, x.linked.nodes_once j, ap (times j) is_chain))

  pub nothing_twice : NothingTwice n m lines
  nothing_twice = record { lists = listed; cells = cells_placed; nodes = nodes_placed }

  -- where what a step brings was
  record Brings (l l' : Line T) : Type 0 where
    cells : (c : ℕ) → Has (held_cells l') c → Has (held_cells l) c ⊎ CellWas m listed lines l c
    nodes : (j : ℕ) → Has (held_nodes l') j → Has (held_nodes l) j ⊎ NodeWas m listed lines l j

  -- it brings nothing: the hands are as before, or empty
  same : {l l' : Line T} → held_cells l' ≡ held_cells l → held_nodes l' ≡ held_nodes l → Brings l l'
  same cells nodes = record { cells = λ c h. inl (omega (arith, ap (times c) cells)); nodes = λ j h. inl (omega (arith, ap (times j) nodes)) }

  empty : {l l' : Line T} → held_cells l' ≡ [] → held_nodes l' ≡ [] → Brings l l'
  empty no_cell no_node = record { cells = λ c h. absurd (omega (arith, ap (times c) no_cell)); nodes = λ j h. absurd (omega (arith, ap (times j) no_node)) }

  of : (l : Line T) (b : Bool) (y z : Line T) → Brings l y → Brings l z → Brings l (cond b y z)
  of l true y z h h' = h
  of l false y z h h' = h'

  -- a cell or a node in hand stays there, or goes
  closed : (s : Seeking T) (w y : Tagged) → Brings (CheckTail s w y) (back_closed s w)
  closed (ToLink link) w y = same refl refl
  closed (ToRefuse v) w y = same refl refl
  closed ToClose w y = same refl refl
  closed ToGauge w y = same refl refl

  ended : (s : Seeking T) (w y : Tagged) → Brings (CheckTail s w y) (back_null s w y)
  ended (ToLink link) w y = same refl refl
  ended (ToRefuse v) w y = same refl refl
  ended ToClose w y = same refl refl
  ended ToGauge w y = same refl refl

  module _ (q p : ℕ) where
    abbrev After : Line T → Outcome T → Type 0
    After l o = Brings l o.line

    -- the take brings the dummy, and the cell of the node behind it
    take_value : (h y : Tagged) (k : ℕ) → Has (chained_cells m listed) k → Has (chained_nodes m listed) h.index → (o : Option (Slot T)) → After (TakeHead h y k) (wins_value m p h y k o)
    take_value h y k cell node none = empty refl refl
    take_value h y k cell node (some None) = empty refl refl
    take_value h y k cell node (some (Some v)) = record {
      cells = λ c b. inr (is_inside held_cells cells_placed c (subst (Has (chained_cells m listed)) (sym (one_only c k b)) cell));
      nodes = λ j b. inr (is_inside held_nodes nodes_placed j (subst (Has (chained_nodes m listed)) (sym (one_only j h.index b)) node));
    }

    take_head : (h y : Tagged) (k : ℕ) → get_elem? lines q ≡ some (TakeHead h y k) → m.head ≡ h → After (TakeHead h y k) (wins_value m p h y k (m.home k))
    take_head h y k e won =
        let f : IsFine limit m g (TakeHead h y k) = x.linked.fine q (TakeHead h y k) e in
        let t : h.tag ≡ m.head.tag = ap (λ (u : Tagged). u.tag) (sym won) in
        let at : h.index ≡ m.head.index = ap (λ (u : Tagged). u.index) (sym won) in
        let follows : next_of m m.head.index ≡ y.index = ap (next_of m) (sym at) ∙ ap (λ (u : Tagged). u.index) (f.3 t f.2) in
        let r = front_of (next_of m) (next_of m m.head.index) listed.behind NULL (λ z. f.2 (sym follows ∙ z)) listed.chain.1 in
        let cell : m.cell (next_of m m.head.index) ≡ k = ap m.cell follows ∙ f.5 t in
        take_value h y k
        (omega (arith, ap (λ (is : List ℕ). times k (map m.cell is)) r.is, ap (λ (c : ℕ). times k (c ∷ map m.cell r.rest)) cell, times_here k (map m.cell r.rest)))
        (omega (arith, ap (λ (j : ℕ). times h.index (j ∷ listed.behind)) (sym at), times_here h.index listed.behind))
        (m.home k)

    brings : (l : Line T) → get_elem? lines q ≡ some l → Cases memories (Idle None) m p (After l) l (table limit l)
    brings (LoadCells v) e = let l : Line T = LoadCells v in of l (eqb m.cells.index NULL) _ _ (empty refl refl) (of l (leb limit m.cells.tag) _ _ (empty refl refl) (empty refl refl))
    brings (TakeCell v w k) e =
        let f : IsFine limit m g (TakeCell v w k) = x.linked.fine q (TakeCell v w k) e in (
          λ won. let r = ready limit m.cells m.clink g.cells w k x.linked.cells_stand won f.0 f.1 in
              record {
                cells = λ c h. inr (is_free held_cells cells_placed c (omega (arith, ap (times c) r.is, h)));
                nodes = λ j h. inl h;
              },
          empty refl refl,
        )
    brings (LoadNodes put) e = let l : Line T = LoadNodes put in of l (eqb m.nodes.index NULL) _ _ (same refl refl) (of l (leb limit m.nodes.tag) _ _ (same refl refl) (same refl refl))
    brings (TakeNode put w k) e =
        let f : IsFine limit m g (TakeNode put w k) = x.linked.fine q (TakeNode put w k) e in (
          λ won. let r = ready limit m.nodes m.nlink g.nodes w k x.linked.nodes_stand won f.0 f.1 in
              record {
                cells = λ c h. inl h;
                nodes = λ j h. inr (is_free held_nodes nodes_placed j (omega (arith, ap (times j) r.is, h)));
              },
          same refl refl,
        )
    brings (LoadNext link) e = of (LoadNext link) (leb limit ((m.next link.node).tag + 1)) _ _ (same refl refl) (same refl refl)
    brings (CheckTail s w y) e = let l : Line T = CheckTail s w y in (λ won. of l y.mark _ _ (closed s w y) (of l (eqb y.index NULL) _ _ (ended s w y) (same refl refl)), same refl refl)
    brings (SwingTail s w y) e = (λ won. same refl refl, same refl refl)
    brings (LinkNext link w y) e = (λ won. empty refl refl, same refl refl)
    brings (SwingToLinked v w y) e = (λ won. empty refl refl, empty refl refl)
    brings (MarkNext w y) e = (λ won. empty refl refl, empty refl refl)
    brings LoadHead e = of LoadHead m.head.second _ _ (empty refl refl) (empty refl refl)
    brings (CheckHead h w y) e =
        let l : Line T = CheckHead h w y in
        (λ won. of l y.mark _ _ (empty refl refl) (of l (eqb y.index NULL) _ _ (empty refl refl) (of l (eqb w.index h.index) _ _ (empty refl refl) (empty refl refl))), empty refl refl)
    brings (SwingTailToTake w y) e = (λ won. empty refl refl, empty refl refl)
    brings (TakeHead h y k) e = (λ won. take_head h y k e won, empty refl refl)
    brings (GiveNode give w) e = (λ won. record { cells = λ c h. inl h; nodes = λ j h. absurd (omega arith) }, same refl refl)
    brings (GiveCell give w) e = (λ won. empty refl refl, same refl refl)
    brings (CheckHeadToLook h y) e = (λ won. empty refl refl, empty refl refl)
    brings (CheckHeadToCount h w y) e = (λ won. empty refl refl, empty refl refl)
    brings (CheckNextToGauge w y) e = (λ won. empty refl refl, empty refl refl)
    brings LoadHeadToShut e = of LoadHeadToShut m.head.second _ _ (empty refl refl) (empty refl refl)
    brings (ShutHead h) e = (λ won. empty refl refl, empty refl refl)
    brings l e = same refl refl

    pub wins_unheld : (l : Line T) → get_elem? lines q ≡ some l → WinsUnheld m lines l (step (shape n limit) m p l).line
    wins_unheld l e =
        let b = by_cases memories (Idle None) m p (After l) l (table limit l) (brings l e) in
        record { lists = listed; cells = b.cells; nodes = b.nodes }

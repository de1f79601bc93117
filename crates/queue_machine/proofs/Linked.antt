-- Each kind of step of the queue keeps both free lists, the chain, the hands, and what passes have read.
use Rattle.std.proofs.Common.{◌≡◌, ◌≢◌, ℕ, ◌+◌, ◌<◌, ◌≤◌, List, [], ◌∷◌, set, sym, ap, ◌∙◌, subst, ⊎_elim, lt_of_not-le, arith}
use mathlib.Core.Option.{some}
use lib.ListN.{get_elem?}
use Rattle.tagged_index.specs.declared.word.TheConstants.{NULL}
use Rattle.machine.specs.Words.{Tagged, times, Stands}
use Rattle.machine.specs.OneList.{Later}
use Rattle.machine.proofs.Tests.{at_most_one, not_below}
use Rattle.machine.proofs.Sums.{total_set, total_one, total_two, at_set}
use Rattle.machine.proofs.Lists.{times_here}
use Rattle.machine.proofs.OneList.{read_top_later, read_link_later}
use Rattle.queue_machine.specs.declared.lines.Linking.{Linking}
use Rattle.queue_machine.specs.declared.lines.Seeking.{Seeking}
use Rattle.queue_machine.specs.declared.lines.Seeking.TheVariants.{ToLink, ToRefuse, ToClose, ToGauge}
use Rattle.queue_machine.specs.declared.lines.Line.{Line}
use Rattle.queue_machine.specs.declared.lines.Line.TheVariants.{LoadCellLink, TakeCell, LoadNodeLink, TakeNode, StoreCell, LoadNext, PrepareNext, LoadTail, LoadTailNext, CheckTail, SwingTail, LinkNext, SwingToLinked, MarkNext, LoadTailToTake, LoadHeadNext, CheckHead, SwingTailToTake, LoadCell, TakeHead, GiveNode, GiveCell, LoadNextToLook, LoadTailToCount, LoadNextToCount, CheckNextToGauge, ShutHead}
use Rattle.queue_machine.specs.Machine.{Memory, held_cells, held_nodes, seeking_nodes, next_of}
use Rattle.queue_machine.specs.Rule.{Lists, IsFresh, IsPrepared, Seeks, HasRoom, IsFine, IsChained, Linked}
use Rattle.queue_machine.proofs.Chain.{past_later, was_later, PoolMoves, pool_later, ChainMoves, ChainLater, chain_later, lags_later, follows_head, follows_tail, spans_later, ends_later, head_in, tail_in}

-- room for the tag of a link grows with the tag of `NODES`
pub fresh_later : (limit k k' : ℕ) (x x' : Tagged) → k ≤ k' → x' ≡ x → IsFresh limit k x → IsFresh limit k' x'
fresh_later limit k k' x x' higher same f = subst (IsFresh limit k') (sym same) (record { null = f.null; unmarked = f.unmarked; below = f.below; small = omega (arith, f.small) })

module _ {T : Type 0} where
  -- What a step of another pass leaves to a pass at a line
  pub record Meanwhile (m : Memory T) (g : Lists) (m' : Memory T) (g' : Lists) (l : Line T) : Type 0 where
    pub cells : Later m.cells m.clink g.cells m'.cells m'.clink g'.cells
    pub nodes : Later m.nodes m.nlink g.nodes m'.nodes m'.nlink g'.nodes
    pub chain : ChainLater m.head m.tail m.next m.cell g.chain (held_nodes l) m'.head m'.tail m'.next m'.cell
    pub stays : m.head.tag ≡ m'.head.tag → (j : ℕ) → 0 < times j g.chain → 0 < times j g'.chain
    pub clinks : (i : ℕ) → 0 < times i (held_cells l) → m'.clink i ≡ m.clink i
    pub nlinks : (j : ℕ) → 0 < times j (held_nodes l) → m'.nlink j ≡ m.nlink j
    pub head_there : 0 < times m.head.index g.chain
    pub tail_there : 0 < times m.tail.index g.chain
    pub first_there : next_of m m.head.index ≢ NULL → 0 < times (next_of m m.head.index) g.chain

  module _ (limit : ℕ) (m m' : Memory T) (higher : m.nodes.tag ≤ m'.nodes.tag) where
    prepared_later : (link : Linking T) → m'.next link.node ≡ m.next link.node → m'.cell link.node ≡ m.cell link.node → IsPrepared limit m link → IsPrepared limit m' link
    prepared_later link same cell f = record { fresh = fresh_later limit m.nodes.tag m'.nodes.tag (m.next link.node) (m'.next link.node) higher same f.fresh; cell = cell ∙ f.cell }

    pub seeks_later : (g g' : Lists) (s : Seeking T) → ((j : ℕ) → 0 < times j (seeking_nodes s) → m'.next j ≡ m.next j) → ((j : ℕ) → 0 < times j (seeking_nodes s) → m'.cell j ≡ m.cell j) → Seeks limit m g s → Seeks limit m' g' s
    seeks_later g g' (ToLink link) links cells f = prepared_later link (links link.node (omega (arith, times_here link.node []))) (cells link.node (omega (arith, times_here link.node []))) f
    seeks_later g g' (ToRefuse v) links cells f = tt
    seeks_later g g' ToClose links cells f = tt
    seeks_later g g' ToGauge links cells f = tt

    room_later : (g g' : Lists) (j : ℕ) → m'.next j ≡ m.next j → HasRoom limit m g j → HasRoom limit m' g' j
    room_later g g' j same f = omega (arith, ap (λ (x : Tagged). x.tag) same, f)

  -- what holds of a pass goes on to hold where the others leave alone what it relies on
  pub fine_later : (limit : ℕ) (m : Memory T) (g : Lists) (m' : Memory T) (g' : Lists) (l : Line T) → Meanwhile m g m' g' l → IsFine limit m g l → IsFine limit m' g' l
  fine_later limit m g m' g' (LoadCellLink v w) o f = read_top_later w o.cells f
  fine_later limit m g m' g' (TakeCell v w k) o f = (read_top_later w o.cells f.0, read_link_later w k o.cells f.0 f.1)
  fine_later limit m g m' g' (LoadNodeLink put w) o f = read_top_later w o.nodes f
  fine_later limit m g m' g' (TakeNode put w k) o f = (read_top_later w o.nodes f.0, read_link_later w k o.nodes f.0 f.1)
  fine_later limit m g m' g' (StoreCell link) o f = room_later limit m m' o.nodes.tag g g' link.node (o.chain.own_links link.node (omega (arith, times_here link.node []))) f
  fine_later limit m g m' g' (LoadNext link) o f =
      let mine : 0 < times link.node (link.node ∷ []) = omega (arith, times_here link.node []) in
      (room_later limit m m' o.nodes.tag g g' link.node (o.chain.own_links link.node mine) f.0, o.chain.own_cells link.node mine ∙ f.1)
  fine_later limit m g m' g' (PrepareNext link n) o f =
      let mine : 0 < times link.node (link.node ∷ []) = omega (arith, times_here link.node []) in
      (room_later limit m m' o.nodes.tag g g' link.node (o.chain.own_links link.node mine) f.0, o.chain.own_cells link.node mine ∙ f.1, o.chain.own_links link.node mine ∙ f.2, f.3)
  fine_later limit m g m' g' (LoadTail s) o f = seeks_later limit m m' o.nodes.tag g g' s o.chain.own_links o.chain.own_cells f
  fine_later limit m g m' g' (LoadTailNext s w) o f = (seeks_later limit m m' o.nodes.tag g g' s o.chain.own_links o.chain.own_cells f.0, past_later w o.chain.tails f.1)
  fine_later limit m g m' g' (CheckTail s w n) o f = (
    seeks_later limit m m' o.nodes.tag g g' s o.chain.own_links o.chain.own_cells f.0,
    past_later w o.chain.tails f.1,
    was_later n (o.chain.words w.index) f.2,
    follows_tail o.chain o.tail_there f.1 f.3,
  )
  fine_later limit m g m' g' (SwingTail s w n) o f = (seeks_later limit m m' o.nodes.tag g g' s o.chain.own_links o.chain.own_cells f.0, lags_later o.chain o.tail_there f.1)
  fine_later limit m g m' g' (LinkNext link w n) o f =
      let mine : 0 < times link.node (link.node ∷ []) = omega (arith, times_here link.node []) in
      (prepared_later limit m m' o.nodes.tag link (o.chain.own_links link.node mine) (o.chain.own_cells link.node mine) f.0, ends_later o.chain f.1)
  fine_later limit m g m' g' (SwingToLinked v w x) o f = lags_later o.chain o.tail_there f
  fine_later limit m g m' g' (MarkNext w n) o f = ends_later o.chain f
  fine_later limit m g m' g' (LoadTailToTake h) o f = (past_later h o.chain.heads f.0, f.1)
  fine_later limit m g m' g' (LoadHeadNext h w) o f = (past_later h o.chain.heads f.0, f.1, past_later w o.chain.tails f.2, λ e. f.3 (omega (arith, e, o.chain.heads.tag, f.0.tag)))
  fine_later limit m g m' g' (CheckHead h w n) o f = (
    past_later h o.chain.heads f.0,
    f.1,
    past_later w o.chain.tails f.2,
    λ e. f.3 (omega (arith, e, o.chain.heads.tag, f.0.tag)),
    follows_head o.chain o.head_there f.0 f.4,
  )
  fine_later limit m g m' g' (SwingTailToTake w n) o f = lags_later o.chain o.tail_there f
  fine_later limit m g m' g' (LoadCell h n) o f = (past_later h o.chain.heads f.0, f.1, f.2, follows_head o.chain o.head_there f.0 f.3, omega (arith, f.4, o.chain.tails.tag))
  fine_later limit m g m' g' (TakeHead h n k) o f = (
    past_later h o.chain.heads f.0,
    f.1,
    f.2,
    follows_head o.chain o.head_there f.0 f.3,
    omega (arith, f.4, o.chain.tails.tag),
    λ e.
        let e' : h.tag ≡ m.head.tag = omega (arith, e, o.chain.heads.tag, f.0.tag) in
        let is : next_of m m.head.index ≡ n.index = ap (next_of m) (sym (f.0.index e')) ∙ ap (λ (x : Tagged). x.index) (f.3 e' f.2) in
        o.chain.cells n.index (subst (λ (i : ℕ). 0 < times i g.chain) is (o.first_there (λ z. f.2 (sym is ∙ z)))) ∙ f.5 e',
  )
  fine_later limit m g m' g' (GiveNode give w) o f = o.nlinks give.node (omega (arith, times_here give.node [])) ∙ f
  fine_later limit m g m' g' (GiveCell give w) o f = o.clinks give.cell (omega (arith, times_here give.cell [])) ∙ f
  fine_later limit m g m' g' (LoadNextToLook h) o f = past_later h o.chain.heads f
  fine_later limit m g m' g' (LoadTailToCount h) o f = omega (arith, f, o.chain.heads.tag)
  fine_later limit m g m' g' (LoadNextToCount h w) o f = (omega (arith, f.0, o.chain.heads.tag), spans_later o.chain g'.chain o.stays f.0 f.1)
  fine_later limit m g m' g' (CheckNextToGauge w n) o f = ends_later o.chain f
  fine_later limit m g m' g' (ShutHead h) o f = f
  fine_later limit m g m' g' l o f = tt

  -- What one step of one pass, which is at l and then at l', may do
  pub record Moves (m : Memory T) (g : Lists) (l : Line T) (m' : Memory T) (g' : Lists) (l' : Line T) : Type 0 where
    pub cells : PoolMoves m.cells m.clink g.cells (held_cells l) m'.cells m'.clink g'.cells
    pub nodes : PoolMoves m.nodes m.nlink g.nodes (held_nodes l) m'.nodes m'.nlink g'.nodes
    pub chain : ChainMoves m.head m.tail m.next m.cell g.chain (held_nodes l) m'.head m'.tail m'.next m'.cell
    pub stays : m.head.tag ≡ m'.head.tag → (j : ℕ) → 0 < times j g.chain → 0 < times j g'.chain
    pub cells_moved : (i : ℕ) → times i g'.cells + times i g'.queued + times i (held_cells l') ≡ times i g.cells + times i g.queued + times i (held_cells l)
    pub nodes_moved : (j : ℕ) → times j g'.nodes + times j g'.chain + times j (held_nodes l') ≡ times j g.nodes + times j g.chain + times j (held_nodes l)

  module _ {n limit : ℕ} {m : Memory T} {g : Lists} {lines : List (Line T)} where
    -- how often one pass holds a cell, or a node
    pub cell_once : (q i : ℕ) (l : Line T) → Linked T n limit m g lines → get_elem? lines q ≡ some l → times i g.cells + times i g.queued + times i (held_cells l) ≤ 1
    cell_once q i l s e = omega (arith, s.cells_once i, total_one (λ u. times i (held_cells u)) lines q l e, at_most_one i n)

    pub node_once : (q j : ℕ) (l : Line T) → Linked T n limit m g lines → get_elem? lines q ≡ some l → times j g.nodes + times j g.chain + times j (held_nodes l) ≤ 1
    node_once q j l s e = omega (arith, s.nodes_once j, total_one (λ u. times j (held_nodes u)) lines q l e, at_most_one j (n + 1))

    -- null is no node
    pub no_null : Linked T n limit m g lines → times NULL g.nodes + times NULL g.chain + times NULL g.cells ≡ 0
    no_null s = omega (arith, s.nodes_once NULL, s.cells_once NULL, not_below NULL (n + 1) (omega (arith, s.small)), not_below NULL n (omega (arith, s.small)))

    -- what stands anywhere is below the number of cells, or of nodes
    pub cell_below : (i : ℕ) → Linked T n limit m g lines → 0 < times i g.cells + times i g.queued → i < n
    cell_below i s there = lt_of_not-le (λ above. absurd (omega (arith, s.cells_once i, not_below i n above)))

    pub node_below : (j : ℕ) → Linked T n limit m g lines → 0 < times j g.nodes + times j g.chain → j < n + 1
    node_below j s there = lt_of_not-le (λ above. absurd (omega (arith, s.nodes_once j, not_below j (n + 1) above)))

    pub head_below : Linked T n limit m g lines → m.head.index < n + 1
    head_below s = node_below m.head.index s (omega (arith, head_in s.chained))

    pub tail_below : Linked T n limit m g lines → m.tail.index < n + 1
    tail_below s = node_below m.tail.index s (omega (arith, tail_in s.chained))

    pub held_below : (q j : ℕ) (l : Line T) → Linked T n limit m g lines → get_elem? lines q ≡ some l → 0 < times j (held_nodes l) → j < n + 1
    held_below q j l s e mine = lt_of_not-le (λ above. absurd (omega (arith, s.nodes_once j, total_one (λ u. times j (held_nodes u)) lines q l e, not_below j (n + 1) above)))

    pub held_node : (q j : ℕ) (l : Line T) → Linked T n limit m g lines → get_elem? lines q ≡ some l → 0 < times j (held_nodes l) → j ≢ NULL
    held_node q j l s e mine z = absurd (omega (arith, s.nodes_once NULL, total_one (λ u. times NULL (held_nodes u)) lines q l e, not_below NULL (n + 1) (omega (arith, s.small)), ap (λ (k : ℕ). times k (held_nodes l)) z))

    chain_first : Linked T n limit m g lines → next_of m m.head.index ≢ NULL → 0 < times (next_of m m.head.index) g.chain
    chain_first s ne = is_in g.chain s.chained.stands (head_in s.chained)
      where
        is_in : (chain : List ℕ) → Stands (next_of m) m.head.index chain → 0 < times m.head.index chain → 0 < times (next_of m m.head.index) chain
        is_in [] stands some_node = absurd (omega arith)
        is_in (i ∷ []) stands some_node = absurd (ne (ap (next_of m) stands.0 ∙ stands.1))
        is_in (i ∷ j ∷ js) stands some_node = subst (λ (k : ℕ). 0 < times k (i ∷ j ∷ js)) (sym (ap (next_of m) stands.0 ∙ stands.1.0)) (omega (arith, times_here j js))

    pub moves_kept : {m' : Memory T} {g' : Lists} (p : ℕ) (l l' : Line T) → Linked T n limit m g lines → get_elem? lines p ≡ some l → Moves m g l m' g' l'
        → Stands m'.clink m'.cells.index g'.cells → Stands m'.nlink m'.nodes.index g'.nodes → IsChained m'.head m'.tail m'.next m'.cell g' → ((j : ℕ) → (m'.next j).index ≢ NULL → (m'.next j).index < n + 1) → IsFine limit m' g' l' → Linked T n limit m' g' (set lines p l')
    moves_kept {m'} {g'} p l l' s e v sc sn ch named f =
        let cells_by : (i : ℕ) → Line T → ℕ = λ i u. times i (held_cells u) in
        let nodes_by : (j : ℕ) → Line T → ℕ = λ j u. times j (held_nodes u) in
        record {
          small = s.small;
          cells_stand = sc;
          nodes_stand = sn;
          chained = ch;
          named = named;
          cells_once = λ i. omega (arith, s.cells_once i, total_set (cells_by i) lines p l l' e, v.cells_moved i);
          nodes_once = λ j. omega (arith, s.nodes_once j, total_set (nodes_by j) lines p l l' e, v.nodes_moved j);
          fine = λ q u at. ⊎_elim
              (λ t. subst (IsFine limit m' g') t.1 f)
              (λ t. fine_later limit m g m' g' u
              (record {
                cells = pool_later (λ i. omega (arith, cell_once p i l s e)) v.cells;
                nodes = pool_later (λ j. omega (arith, node_once p j l s e)) v.nodes;
                chain = chain_later (held_nodes u) (λ j. omega (arith, s.nodes_once j, total_two (nodes_by j) lines p q l u t.0 e t.1, at_most_one j (n + 1))) v.chain;
                stays = v.stays;
                clinks = λ i there. v.cells.links i (omega (arith, s.cells_once i, total_two (cells_by i) lines p q l u t.0 e t.1, at_most_one i n));
                nlinks = λ j there. v.nodes.links j (omega (arith, s.nodes_once j, total_two (nodes_by j) lines p q l u t.0 e t.1, at_most_one j (n + 1)));
                head_there = head_in s.chained;
                tail_there = tail_in s.chained;
                first_there = chain_first s;
              })
              (s.fine q u t.1))
              (at_set lines p q l' u at);
        }

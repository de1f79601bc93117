-- Each kind of step of the queue keeps both free lists, the chain, the hands, and what passes have read.
use Rattle.std.proofs.Common.{◌≡◌, ◌≢◌, ℕ, ◌+◌, ◌<◌, List, [], ◌∷◌, ◌++◌, set, refl, sym, ap, ◌∙◌, subst, arith}
use Rattle.std.specs.Prelude.{Option as Slot, Some, None}
use mathlib.Core.Option.{Option, none, some}
use lib.ListN.{get_elem?}
use Rattle.tagged_index.specs.declared.word.TheConstants.{NULL}
use Rattle.machine.specs.Words.{Tagged, kept, raised, marked, with_second, store, times, Stands}
use Rattle.machine.specs.Chains.{with_home}
use Rattle.machine.proofs.Lists.{times_here, times_append, store_else, leads_frame, leads_from}
use Rattle.queue_machine.specs.declared.lines.Line.{Line}
use Rattle.queue_machine.specs.Machine.{Memory, held_cells, held_nodes, store_word, after_hold, after_free, after_node_take, after_node_give, after_clink, after_nlink, after_cell, after_next, after_link_of, after_swing, after_close, after_take, after_shut, next_of}
use Rattle.queue_machine.specs.Rule.{Lists, Was, Lags, Ends, IsFine, IsChained, Linked}
use Rattle.queue_machine.proofs.Chain.{PoolMoves, ChainMoves, word_else, word_each, past_refl, past_higher, was_refl, was_higher, pool_same, chain_same, tail_in, at_end, behind}
use Rattle.queue_machine.proofs.Chained.{store_cell_chained, store_next_chained, link_chained, close_chained, swing_chained, Taken, shut_chained}
use Rattle.queue_machine.proofs.Linked.{cell_once, node_once, no_null, held_below, moves_kept}

-- a store into a held index changes no other link
stored_apart : (link : ℕ → ℕ) (i x : ℕ) (held : List ℕ) → 0 < times i held → (j : ℕ) → times j held ≡ 0 → store link i x j ≡ link j
stored_apart link i x held mine j out = store_else link i x j (λ q. absurd (let a : times j held ≡ times i held = ap (λ (k : ℕ). times k held) q in omega arith))

word_apart : (next : ℕ → Tagged) (i : ℕ) (x : Tagged) (held : List ℕ) → 0 < times i held → (j : ℕ) → times j held ≡ 0 → store_word next i x j ≡ next j
word_apart next i x held mine j out = word_else next i x j (λ q. absurd (let a : times j held ≡ times i held = ap (λ (k : ℕ). times k held) q in omega arith))

-- a store into a null link leaves the links that name nodes
node_apart : (next : ℕ → Tagged) (i : ℕ) (x : Tagged) → (next i).index ≡ NULL → (j : ℕ) → (next j).index ≢ NULL → store_word next i x j ≡ next j
node_apart next i x null j node = word_else next i x j (λ q. node (ap (λ (k : ℕ). (next k).index) q ∙ null))

tag_of : (a b : Tagged) → a ≡ b → a.tag ≡ b.tag
tag_of a b e = ap (λ (x : Tagged). x.tag) e

index_of : (a b : Tagged) → a ≡ b → a.index ≡ b.index
index_of a b e = ap (λ (x : Tagged). x.index) e

module _ {T : Type 0} {n limit : ℕ} {m : Memory T} {g : Lists} {lines : List (Line T)} (p : ℕ) (l l' : Line T) (s : Linked T n limit m g lines) (e : get_elem? lines p ≡ some l) where
  -- a step that changes the free lists alone, and slots
  pools_kept : (cells nodes : Tagged) (clink nlink : ℕ → ℕ) (home : ℕ → Option (Slot T)) (cs ns : List ℕ) → PoolMoves m.cells m.clink g.cells (held_cells l) cells clink cs → PoolMoves m.nodes m.nlink g.nodes (held_nodes l) nodes nlink ns
      → ((i : ℕ) → times i cs + times i (held_cells l') ≡ times i g.cells + times i (held_cells l)) → ((j : ℕ) → times j ns + times j (held_nodes l') ≡ times j g.nodes + times j (held_nodes l))
      → Stands clink cells.index cs → Stands nlink nodes.index ns → let m' = record m { cells = cells; nodes = nodes; clink = clink; nlink = nlink; home = home } in let g' = record g { cells = cs; nodes = ns } in
      IsFine limit m' g' l' → Linked T n limit m' g' (set lines p l')
  pools_kept cells nodes clink nlink home cs ns of_cells of_nodes cells_moved nodes_moved cells_stand nodes_stand f = moves_kept p l l' s e
      (record {
        cells = of_cells;
        nodes = of_nodes;
        chain = chain_same m.head m.tail m.next m.cell g.chain (held_nodes l);
        stays = λ t j there. there;
        cells_moved = λ i. omega (arith, cells_moved i);
        nodes_moved = λ j. omega (arith, nodes_moved j);
      })
      cells_stand nodes_stand (record { stands = s.chained.stands; split = s.chained.split; short = s.chained.short; place = s.chained.place; stored = s.chained.stored; tidy = s.chained.tidy }) s.named f

  -- and one that changes the chain alone, and slots
  chain_kept : (head tail : Tagged) (next : ℕ → Tagged) (cell : ℕ → ℕ) (home : ℕ → Option (Slot T)) (chain before after queued : List ℕ) → ChainMoves m.head m.tail m.next m.cell g.chain (held_nodes l) head tail next cell
      → (m.head.tag ≡ head.tag → (j : ℕ) → 0 < times j g.chain → 0 < times j chain)
      → ((i : ℕ) → times i queued + times i (held_cells l') ≡ times i g.queued + times i (held_cells l)) → ((j : ℕ) → times j chain + times j (held_nodes l') ≡ times j g.chain + times j (held_nodes l))
      → let m' = record m { head = head; tail = tail; next = next; cell = cell; home = home } in let g' = record g { chain = chain; before = before; after = after; queued = queued } in
      IsChained head tail next cell g' → ((j : ℕ) → (next j).index ≢ NULL → (next j).index < n + 1) → IsFine limit m' g' l' → Linked T n limit m' g' (set lines p l')
  chain_kept head tail next cell home chain before after queued moved stays cells_moved nodes_moved chained named f = moves_kept p l l' s e
      (record {
        cells = pool_same m.cells m.clink g.cells (held_cells l);
        nodes = pool_same m.nodes m.nlink g.nodes (held_nodes l);
        chain = moved;
        stays = stays;
        cells_moved = λ i. omega (arith, cells_moved i);
        nodes_moved = λ j. omega (arith, nodes_moved j);
      })
      s.cells_stand s.nodes_stand chained named f

  -- each cell, and each node, in hand is still there
  cells_stay : held_cells l' ≡ held_cells l → (i : ℕ) → times i g.cells + times i (held_cells l') ≡ times i g.cells + times i (held_cells l)
  cells_stay same i = ap (λ (held : List ℕ). times i g.cells + times i held) same

  nodes_stay : held_nodes l' ≡ held_nodes l → (j : ℕ) → times j g.nodes + times j (held_nodes l') ≡ times j g.nodes + times j (held_nodes l)
  nodes_stay same j = ap (λ (held : List ℕ). times j g.nodes + times j held) same

  queued_stay : held_cells l' ≡ held_cells l → (i : ℕ) → times i g.queued + times i (held_cells l') ≡ times i g.queued + times i (held_cells l)
  queued_stay same i = ap (λ (held : List ℕ). times i g.queued + times i held) same

  chain_stays : held_nodes l' ≡ held_nodes l → (j : ℕ) → times j g.chain + times j (held_nodes l') ≡ times j g.chain + times j (held_nodes l)
  chain_stays same j = ap (λ (held : List ℕ). times j g.chain + times j held) same

  -- a step that changes no word
  pub goes_linked : held_cells l' ≡ held_cells l → held_nodes l' ≡ held_nodes l → IsFine limit m g l' → Linked T n limit m g (set lines p l')
  goes_linked same_cells same_nodes f = pools_kept m.cells m.nodes m.clink m.nlink m.home g.cells g.nodes (pool_same m.cells m.clink g.cells (held_cells l)) (pool_same m.nodes m.nlink g.nodes (held_nodes l))
      (cells_stay same_cells) (nodes_stay same_nodes) s.cells_stand s.nodes_stand f

  -- stores into what the pass holds: the link of a cell, the link of a node, its cell, its word
  pub clink_linked : (i x : ℕ) → 0 < times i (held_cells l) → held_cells l' ≡ held_cells l → held_nodes l' ≡ held_nodes l → IsFine limit (after_clink m i x) g l' → Linked T n limit (after_clink m i x) g (set lines p l')
  clink_linked i x mine same_cells same_nodes f = pools_kept m.cells m.nodes (store m.clink i x) m.nlink m.home g.cells g.nodes
      (record { tag = omega arith; stays = λ h j there. there; links = stored_apart m.clink i x (held_cells l) mine }) (pool_same m.nodes m.nlink g.nodes (held_nodes l)) (cells_stay same_cells) (nodes_stay same_nodes)
      (leads_frame m.clink (store m.clink i x) g.cells m.cells.index NULL (λ j there. stored_apart m.clink i x (held_cells l) mine j (omega (arith, cell_once p j l s e))) s.cells_stand) s.nodes_stand f

  pub nlink_linked : (i x : ℕ) → 0 < times i (held_nodes l) → held_cells l' ≡ held_cells l → held_nodes l' ≡ held_nodes l → IsFine limit (after_nlink m i x) g l' → Linked T n limit (after_nlink m i x) g (set lines p l')
  nlink_linked i x mine same_cells same_nodes f = pools_kept m.cells m.nodes m.clink (store m.nlink i x) m.home g.cells g.nodes
      (pool_same m.cells m.clink g.cells (held_cells l)) (record { tag = omega arith; stays = λ h j there. there; links = stored_apart m.nlink i x (held_nodes l) mine }) (cells_stay same_cells) (nodes_stay same_nodes)
      s.cells_stand (leads_frame m.nlink (store m.nlink i x) g.nodes m.nodes.index NULL (λ j there. stored_apart m.nlink i x (held_nodes l) mine j (omega (arith, node_once p j l s e))) s.nodes_stand) f

  pub cell_linked : (i x : ℕ) → 0 < times i (held_nodes l) → held_cells l' ≡ held_cells l → held_nodes l' ≡ held_nodes l → IsFine limit (after_cell m i x) g l' → Linked T n limit (after_cell m i x) g (set lines p l')
  cell_linked i x mine same_cells same_nodes f = chain_kept m.head m.tail m.next (store m.cell i x) m.home g.chain g.before g.after g.queued
      (record { heads = past_refl m.head; tails = past_refl m.tail; words = λ j. was_refl (m.next j); links = λ j h node. refl; others = λ j h h'. refl; cells = stored_apart m.cell i x (held_nodes l) mine; still = λ h. refl })
      (λ t j there. there) (queued_stay same_cells) (chain_stays same_nodes) (store_cell_chained s.chained i x (omega (arith, node_once p i l s e))) s.named f

  pub next_linked : (i : ℕ) (x : Tagged) → 0 < times i (held_nodes l) → (m.next i).tag < x.tag → x.index ≡ NULL → held_cells l' ≡ held_cells l → held_nodes l' ≡ held_nodes l → IsFine limit (after_next m i x) g l' → Linked T n limit (after_next m i x) g (set lines p l')
  next_linked i x mine higher null same_cells same_nodes f = chain_kept m.head m.tail (store_word m.next i x) m.cell m.home g.chain g.before g.after g.queued
      (record {
        heads = past_refl m.head;
        tails = past_refl m.tail;
        words = word_each (λ j w. Was w (m.next j)) m.next i x (was_higher x (m.next i) higher) (λ j ne. was_refl (m.next j));
        links = λ j h node. word_apart m.next i x (held_nodes l) mine j h;
        others = λ j h h'. word_apart m.next i x (held_nodes l) mine j h;
        cells = λ j h. refl;
        still = λ h. refl;
      })
      (λ t j there. there) (queued_stay same_cells) (chain_stays same_nodes) (store_next_chained s.chained i x (omega (arith, node_once p i l s e)) (λ h. null))
      (word_each (λ j w. w.index ≢ NULL → w.index < n + 1) m.next i x (λ node. absurd (node null)) (λ j ne. s.named j)) f

  -- the free lists: a cell is taken and given back, and so is a node
  pub hold_linked : (w : Tagged) (k : ℕ) (rest : List ℕ) → m.cells ≡ w → g.cells ≡ w.index ∷ rest → Stands m.clink k rest → held_cells l' ≡ w.index ∷ held_cells l → held_nodes l' ≡ held_nodes l
      → IsFine limit (after_hold m w k) (record g { cells = rest }) l' → Linked T n limit (after_hold m w k) (record g { cells = rest }) (set lines p l')
  hold_linked w k rest won is stands mine same_nodes f = let t = tag_of m.cells w won in
      pools_kept (raised w k) m.nodes m.clink m.nlink (with_home m.home w.index none) rest g.nodes
      (record { tag = omega arith; stays = λ h. absurd (omega arith); links = λ j h. refl }) (pool_same m.nodes m.nlink g.nodes (held_nodes l))
      (λ i. omega (arith, ap (times i) is, ap (times i) mine)) (nodes_stay same_nodes) stands s.nodes_stand f

  pub free_linked : (w : Tagged) (c : ℕ) → m.cells ≡ w → m.clink c ≡ w.index → held_cells l ≡ c ∷ [] → held_cells l' ≡ [] → held_nodes l' ≡ held_nodes l
      → IsFine limit (after_free m w c) (record g { cells = c ∷ g.cells }) l' → Linked T n limit (after_free m w c) (record g { cells = c ∷ g.cells }) (set lines p l')
  free_linked w c won own mine none_left same_nodes f = let t = tag_of m.cells w won in
      pools_kept (kept w c) m.nodes m.clink m.nlink (with_home m.home c (some None)) (c ∷ g.cells) g.nodes
      (record { tag = omega arith; stays = λ h j there. omega arith; links = λ j h. refl }) (pool_same m.nodes m.nlink g.nodes (held_nodes l))
      (λ i. omega (arith, ap (times i) mine, ap (times i) none_left)) (nodes_stay same_nodes)
      (refl, leads_from m.clink m.cells.index (m.clink c) g.cells NULL (index_of m.cells w won ∙ sym own) s.cells_stand) s.nodes_stand f

  pub node_take_linked : (w : Tagged) (k : ℕ) (rest : List ℕ) → m.nodes ≡ w → g.nodes ≡ w.index ∷ rest → Stands m.nlink k rest → held_cells l' ≡ held_cells l → held_nodes l' ≡ w.index ∷ held_nodes l
      → IsFine limit (after_node_take m w k) (record g { nodes = rest }) l' → Linked T n limit (after_node_take m w k) (record g { nodes = rest }) (set lines p l')
  node_take_linked w k rest won is stands same_cells mine f = let t = tag_of m.nodes w won in
      pools_kept m.cells (raised w k) m.clink m.nlink m.home g.cells rest
      (pool_same m.cells m.clink g.cells (held_cells l)) (record { tag = omega arith; stays = λ h. absurd (omega arith); links = λ j h. refl })
      (cells_stay same_cells) (λ j. omega (arith, ap (times j) is, ap (times j) mine)) s.cells_stand stands f

  pub node_give_linked : (w : Tagged) (j : ℕ) → m.nodes ≡ w → m.nlink j ≡ w.index → held_cells l' ≡ held_cells l → held_nodes l ≡ j ∷ [] → held_nodes l' ≡ []
      → IsFine limit (after_node_give m w j) (record g { nodes = j ∷ g.nodes }) l' → Linked T n limit (after_node_give m w j) (record g { nodes = j ∷ g.nodes }) (set lines p l')
  node_give_linked w j won own same_cells mine none_left f = let t = tag_of m.nodes w won in
      pools_kept m.cells (kept w j) m.clink m.nlink m.home g.cells (j ∷ g.nodes)
      (pool_same m.cells m.clink g.cells (held_cells l)) (record { tag = omega arith; stays = λ h i there. omega arith; links = λ i h. refl })
      (cells_stay same_cells) (λ i. omega (arith, ap (times i) mine, ap (times i) none_left))
      s.cells_stand (refl, leads_from m.nlink m.nodes.index (m.nlink j) g.nodes NULL (index_of m.nodes w won ∙ sym own) s.nodes_stand) f

  -- What the winner of an exchange of the last link knows: the tail names the last node, and no node
  -- stands behind it
  pub record AtEnd (w : Tagged) : Type 0 where
    pub tag : w.tag ≡ m.tail.tag
    pub index : w.index ≡ m.tail.index
    pub null : next_of m m.tail.index ≡ NULL
    pub last : g.after ≡ []

  pub at_the_end : (w x : Tagged) → Ends m.tail m.next w x → m.next w.index ≡ x → AtEnd w
  at_the_end w x ends won =
      let at = ends.last (tag_of x (m.next w.index) (sym won)) in
      let null : next_of m m.tail.index ≡ NULL = ap (next_of m) (sym at.1) ∙ index_of (m.next w.index) x won ∙ ends.null in
      record { tag = at.0; index = at.1; null = null; last = at_end s.chained (omega (arith, no_null s)) null }

  -- what it does to the chain, y being the new link
  end_moves : (w x y : Tagged) → AtEnd w → m.next w.index ≡ x → x.tag < y.tag → ChainMoves m.head m.tail m.next m.cell g.chain (held_nodes l) m.head m.tail (store_word m.next w.index y) m.cell
  end_moves w x y at won higher =
      let there : 0 < times w.index g.chain = subst (λ (i : ℕ). 0 < times i g.chain) (sym at.index) (tail_in s.chained) in
      let null : next_of m w.index ≡ NULL = ap (next_of m) at.index ∙ at.null in
      record {
        heads = past_refl m.head;
        tails = past_refl m.tail;
        words = word_each (λ i u. Was u (m.next i)) m.next w.index y (was_higher y (m.next w.index) (omega (arith, tag_of (m.next w.index) x won))) (λ i ne. was_refl (m.next i));
        links = λ i h node. node_apart m.next w.index y null i node;
        others = λ i h out. word_apart m.next w.index y g.chain there i out;
        cells = λ i h. refl;
        still = λ h. refl;
      }

  -- a node is linked behind the last one
  pub link_linked : (w x : Tagged) (j c : ℕ) (v : T) → Ends m.tail m.next w x → m.next w.index ≡ x → held_cells l ≡ c ∷ [] → held_nodes l ≡ j ∷ [] → m.cell j ≡ c → next_of m j ≡ NULL → held_cells l' ≡ [] → held_nodes l' ≡ []
      → IsFine limit (after_link_of m w x j c v) (record g { chain = g.chain ++ (j ∷ []); after = j ∷ []; queued = g.queued ++ (c ∷ []) }) l'
      → Linked T n limit (after_link_of m w x j c v) (record g { chain = g.chain ++ (j ∷ []); after = j ∷ []; queued = g.queued ++ (c ∷ []) }) (set lines p l')
  link_linked w x j c v ends won mine_cell mine_node in_cell null no_cell no_node f =
      let at = at_the_end w x ends won in
      let y = raised x j in
      let ch = link_chained s.chained x j (ap m.next (sym at.index) ∙ won) ends.unmarked at.last (omega (arith, node_once p j l s e, ap (times j) mine_node, times_here j [])) (omega (arith, node_once p m.tail.index l s e)) null in
      let ch' : IsChained m.head m.tail (store_word m.next w.index y) m.cell (record g { chain = g.chain ++ (j ∷ []); after = j ∷ []; queued = g.queued ++ (m.cell j ∷ []) }) =
      subst (λ (i : ℕ). IsChained m.head m.tail (store_word m.next i y) m.cell (record g { chain = g.chain ++ (j ∷ []); after = j ∷ []; queued = g.queued ++ (m.cell j ∷ []) })) (sym at.index)
      (record { stands = ch.stands; split = ch.split; short = ch.short; place = ch.place; stored = ch.stored; tidy = ch.tidy }) in
      chain_kept m.head m.tail (store_word m.next w.index y) m.cell (with_home m.home c (some (Some v))) (g.chain ++ (j ∷ [])) g.before (j ∷ []) (g.queued ++ (c ∷ [])) (end_moves w x y at won (omega arith))
      (λ t i there. omega (arith, there, times_append i g.chain (j ∷ [])))
      (λ i. omega (arith, ap (times i) mine_cell, ap (times i) no_cell, times_append i g.queued (c ∷ []))) (λ i. omega (arith, ap (times i) mine_node, ap (times i) no_node, times_append i g.chain (j ∷ [])))
      (subst (λ (k : ℕ). IsChained m.head m.tail (store_word m.next w.index y) m.cell (record g { chain = g.chain ++ (j ∷ []); after = j ∷ []; queued = g.queued ++ (k ∷ []) })) in_cell ch')
      (word_each (λ i u. u.index ≢ NULL → u.index < n + 1) m.next w.index y (λ node. held_below p j l s e (omega (arith, ap (times j) mine_node, times_here j []))) (λ i ne. s.named i))
      f

  -- the last link gets the mark
  pub close_linked : (w x : Tagged) → Ends m.tail m.next w x → m.next w.index ≡ x → held_cells l' ≡ held_cells l → held_nodes l' ≡ held_nodes l → IsFine limit (after_close m w x) g l' → Linked T n limit (after_close m w x) g (set lines p l')
  close_linked w x ends won same_cells same_nodes f =
      let at = at_the_end w x ends won in
      let y = marked (raised x NULL) in
      chain_kept m.head m.tail (store_word m.next w.index y) m.cell m.home g.chain g.before g.after g.queued (end_moves w x y at won (omega arith)) (λ t j there. there) (queued_stay same_cells) (chain_stays same_nodes) (close_chained s.chained x w.index won ends.null)
      (word_each (λ i u. u.index ≢ NULL → u.index < n + 1) m.next w.index y (λ node. absurd (node refl)) (λ i ne. s.named i)) f

  -- the tail is moved on
  pub swing_linked : (w x : Tagged) → Lags m.tail m.next w x → m.tail ≡ w → held_cells l' ≡ held_cells l → held_nodes l' ≡ held_nodes l
      → IsFine limit (after_swing m w x.index) (record g { before = g.before ++ (m.tail.index ∷ []); after = [] }) l'
      → Linked T n limit (after_swing m w x.index) (record g { before = g.before ++ (m.tail.index ∷ []); after = [] }) (set lines p l')
  swing_linked w x lags won same_cells same_nodes f =
      let t = tag_of m.tail w won in
      let is : next_of m m.tail.index ≡ x.index = ap (next_of m) (index_of m.tail w won) ∙ index_of (m.next w.index) x (lags.follows (sym t)) in
      let ne : next_of m m.tail.index ≢ NULL = λ z. lags.node (sym is ∙ z) in
      let ch = swing_chained s.chained x.index (behind s.chained ne ∙ ap (λ (i : ℕ). i ∷ []) is) in
      chain_kept m.head (raised w x.index) m.next m.cell m.home g.chain (g.before ++ (m.tail.index ∷ [])) [] g.queued
      (record {
        heads = past_refl m.head;
        tails = past_higher (raised w x.index) m.tail (omega arith);
        words = λ j. was_refl (m.next j);
        links = λ j h node. refl;
        others = λ j h out. refl;
        cells = λ j h. refl;
        still = λ h. absurd (ne h);
      })
      (λ t j there. there) (queued_stay same_cells) (chain_stays same_nodes)
      (subst (λ (u : Tagged). IsChained m.head (raised u x.index) m.next m.cell (record g { before = g.before ++ (m.tail.index ∷ []); after = [] })) won
      (record { stands = ch.stands; split = ch.split; short = ch.short; place = ch.place; stored = ch.stored; tidy = ch.tidy }))
      s.named f

  -- the first node becomes the dummy, and the pass has the old one and the first node's cell
  pub take_linked : (h x : Tagged) (c : ℕ) → m.head ≡ h → (t : Taken s.chained x) → m.cell x.index ≡ c → held_cells l ≡ [] → held_nodes l ≡ [] → held_cells l' ≡ c ∷ [] → held_nodes l' ≡ h.index ∷ []
      → IsFine limit (after_take m h x c) (record g { chain = t.chain; before = t.before; queued = t.queued }) l'
      → Linked T n limit (after_take m h x c) (record g { chain = t.chain; before = t.before; queued = t.queued }) (set lines p l')
  take_linked h x c won t in_cell no_cell no_node mine_cell mine_node f =
      let tag = tag_of m.head h won in
      let ch = t.chained in
      chain_kept (raised h x.index) m.tail m.next m.cell (with_home m.home c none) t.chain t.before g.after t.queued
      (record {
        heads = past_higher (raised h x.index) m.head (omega arith);
        tails = past_refl m.tail;
        words = λ j. was_refl (m.next j);
        links = λ j h node. refl;
        others = λ j h out. refl;
        cells = λ j h. refl;
        still = λ h. refl;
      })
      (λ t'. absurd (omega (arith, tag, t'))) (λ i. omega (arith, ap (times i) no_cell, ap (times i) mine_cell, ap (times i) t.queued_is, ap (λ (k : ℕ). times i (k ∷ [])) in_cell))
      (λ j. omega (arith, ap (times j) no_node, ap (times j) mine_node, ap (times j) t.chain_is, ap (λ (u : Tagged). times j (u.index ∷ [])) won))
      (subst (λ (u : Tagged). IsChained (raised u x.index) m.tail m.next m.cell (record g { chain = t.chain; before = t.before; queued = t.queued })) won
      (record { stands = ch.stands; split = ch.split; short = ch.short; place = ch.place; stored = ch.stored; tidy = ch.tidy }))
      s.named f

  -- the head gets the second mark
  pub shut_linked : (h : Tagged) → m.head ≡ h → held_cells l' ≡ held_cells l → held_nodes l' ≡ held_nodes l → IsFine limit (after_shut m h) g l' → Linked T n limit (after_shut m h) g (set lines p l')
  shut_linked h won same_cells same_nodes f =
      chain_kept (with_second h) m.tail m.next m.cell m.home g.chain g.before g.after g.queued
      (record {
        heads = record { tag = omega (arith, tag_of m.head h won); index = λ t. index_of m.head h won };
        tails = past_refl m.tail;
        words = λ j. was_refl (m.next j);
        links = λ j h node. refl;
        others = λ j h out. refl;
        cells = λ j h. refl;
        still = λ h. refl;
      })
      (λ t j there. there) (queued_stay same_cells) (chain_stays same_nodes)
      (subst (λ (u : Tagged). IsChained (with_second u) m.tail m.next m.cell g) won (shut_chained s.chained)) s.named f

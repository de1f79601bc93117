-- Each kind of step of the queue keeps what holds between any two steps, from any state where it
-- holds. Running code cites these.
use Rattle.std.proofs.Common.{◌≡◌, ◌≢◌, ℕ, ◌+◌, ◌*◌, ◌<◌, ◌≤◌, true, false, List, [], ◌∷◌, ◌++◌, length, set, refl, sym, ap, ◌∙◌, subst, Some, None, arith}
use Rattle.std.proofs.lemmas.Bool.{false≢true}
use Rattle.std.proofs.lemmas.List.{length-append}
use mathlib.Core.Option.{Option, some}
use lib.ListN.{get_elem?}
use Rattle.tagged_index.specs.declared.word.TheConstants.{NULL}
use Rattle.bounded_model.specs.declared.history.Event.{Event}
use Rattle.bounded_model.specs.declared.history.Event.TheVariants.{Hold, Put, Take, Free, Close, Shut}
use Rattle.bounded_model.specs.Machine.{without_first}
use Rattle.machine.specs.Words.{Tagged, times}
use Rattle.machine.specs.OneList.{ReadTop, ReadLink}
use Rattle.machine.specs.Chains.{last, HasValues}
use Rattle.machine.proofs.Lists.{times_here}
use Rattle.machine.proofs.OneList.{ready}
use Rattle.machine.proofs.Chains.{first_value}
use Rattle.queue_machine.specs.declared.lines.Line.{Line}
use Rattle.queue_machine.specs.Machine.{Memory, held_cells, held_nodes, store_word, null_word, after_hold, after_free, after_node_take, after_node_give, after_clink, after_nlink, after_cell, after_next, after_link_of, after_swing, after_close, after_take, after_shut, next_of}
use Rattle.queue_machine.specs.Answers.{state}
use Rattle.queue_machine.specs.Rule.{Lists, Linked, Follows, Lags, Ends, IsFresh, IsFine, Filled, wanting, bare, putting, Good, Kept}
use Rattle.queue_machine.proofs.Chain.{word_else, word_each, last_in, tail_in, behind}
use Rattle.queue_machine.proofs.Chained.{take_chained}
use Rattle.queue_machine.proofs.Linked.{cell_once, node_once, cell_below}
use Rattle.queue_machine.proofs.Moves.{goes_linked, clink_linked, nlink_linked, cell_linked, next_linked, hold_linked, free_linked, node_take_linked, node_give_linked, at_the_end, link_linked, close_linked, swing_linked, take_linked, shut_linked}
use Rattle.queue_machine.proofs.Filled.{same_filled, hold_filled, free_filled, link_filled, take_filled}
use Rattle.queue_machine.proofs.Numbered.{same_numbered, hold_numbered, node_take_numbered, next_numbered, link_numbered, close_numbered}
use Rattle.queue_machine.proofs.Told.{puts_now, still_told, hold_told, free_told, link_told, close_told, take_told, shut_told}

-- a line that holds what another holds, and is no earlier in a put
pub record Alike {T : Type 0} (l l' : Line T) : Type 0 where
  pub cells : held_cells l' ≡ held_cells l
  pub nodes : held_nodes l' ≡ held_nodes l
  pub bare_same : bare l' ≡ bare l
  pub wanting_less : wanting l' ≤ wanting l
  pub putting_less : putting l' ≤ putting l

-- all that of a line
abbrev load : {T : Type 0} → Line T → List ℕ × (List ℕ × (ℕ × (ℕ × ℕ)))
load l = (held_cells l, (held_nodes l, (bare l, (wanting l, putting l))))

pub steady : {T : Type 0} {l l' : Line T} → load l' ≡ load l → Alike l l'
steady {l = l} {l' = l'} e = record {
  cells = λ i. (e i).0;
  nodes = λ i. (e i).1.0;
  bare_same = λ i. (e i).1.1.0;
  wanting_less = omega (arith, wants);
  putting_less = omega (arith, puts);
}
  where
    wants : wanting l' ≡ wanting l
    wants i = (e i).1.1.1.0

    puts : putting l' ≡ putting l
    puts i = (e i).1.1.1.1

-- a won take: the value that was first, which is taken
pub record Took (T : Type 0) (n limit : ℕ) (m : Memory T) (who : ℕ → Option ℕ) (lines : List (Line T)) (history : List (Event T)) (q p : ℕ) (h x : Tagged) (c : ℕ) (to : T → Line T) : Type 0 where
  pub value : T
  pub here : m.home c ≡ some (Some value)
  pub lists : Lists
  pub good : Good T n limit (after_take m h x c) lists who (set lines q (to value)) (Take p value h.tag ∷ history)

module _ {T : Type 0} {n limit : ℕ} {m : Memory T} {g : Lists} {who : ℕ → Option ℕ} {lines : List (Line T)} {history : List (Event T)} (q : ℕ) (l l' : Line T) (x : Good T n limit m g who lines history) (e : get_elem? lines q ≡ some l) where
  -- a step that changes neither the four tops, nor a link of the chain, nor a slot
  good_words : (m' : Memory T) → m'.cells ≡ m.cells → m'.nodes ≡ m.nodes → m'.head ≡ m.head → m'.tail ≡ m.tail → m'.next ≡ m.next → m'.home ≡ m.home → Alike l l' → Linked T n limit m' g (set lines q l') → Good T n limit m' g who (set lines q l') history
  good_words m' cells nodes head tail next home a linked = record {
    linked = linked;
    filled = same_filled x.filled m' g home refl refl;
    numbered = same_numbered q l l' e x.numbered m' g (ap (λ (w : Tagged). w.tag) cells) (ap (λ (w : Tagged). w.tag) nodes) next (ap (λ (w : Tagged). last (w.index ∷ g.after)) tail) a.wanting_less;
    told = still_told q l l' e x.told m' g refl refl (omega (arith, a.bare_same)) (ap length a.cells) a.putting_less
        (λ h. ap (λ (i : ℕ). (m'.next i).mark) (ap (λ (w : Tagged). w.index) tail) ∙ ap (λ (f : ℕ → Tagged). (f m.tail.index).mark) next ∙ h) (λ j h. ap (λ (f : ℕ → Tagged). (f j).mark) (sym next) ∙ h) (ap (λ (w : Tagged). w.tag) cells) head;
  }

  -- a step that changes no word
  pub good_goes : Alike l l' → IsFine limit m g l' → Good T n limit m g who (set lines q l') history
  good_goes a f = good_words m refl refl refl refl refl refl a (goes_linked q l l' x.linked e a.cells a.nodes f)

  -- a store into a held cell's link, into a held node's, of its cell, and of null into its `next`
  pub good_clink : (i at : ℕ) → 0 < times i (held_cells l) → Alike l l' → IsFine limit (after_clink m i at) g l' → Good T n limit (after_clink m i at) g who (set lines q l') history
  good_clink i at mine a f = good_words (after_clink m i at) refl refl refl refl refl refl a (clink_linked q l l' x.linked e i at mine a.cells a.nodes f)

  pub good_nlink : (i at : ℕ) → 0 < times i (held_nodes l) → Alike l l' → IsFine limit (after_nlink m i at) g l' → Good T n limit (after_nlink m i at) g who (set lines q l') history
  good_nlink i at mine a f = good_words (after_nlink m i at) refl refl refl refl refl refl a (nlink_linked q l l' x.linked e i at mine a.cells a.nodes f)

  pub good_cell : (i c : ℕ) → 0 < times i (held_nodes l) → Alike l l' → IsFine limit (after_cell m i c) g l' → Good T n limit (after_cell m i c) g who (set lines q l') history
  good_cell i c mine a f = good_words (after_cell m i c) refl refl refl refl refl refl a (cell_linked q l l' x.linked e i c mine a.cells a.nodes f)

  -- a held node is outside the chain
  pub outside : (j i : ℕ) → 0 < times j (held_nodes l) → 0 < times i g.chain → j ≢ i
  outside j i mine there is = absurd (omega (arith, node_once q i l x.linked e, ap (λ (k : ℕ). times k (held_nodes l)) is))

  pub good_next : (j t : ℕ) → 0 < times j (held_nodes l) → (m.next j).tag < t → t ≤ limit → t ≤ 2 * m.nodes.tag → Alike l l' → IsFine limit (after_next m j (null_word t)) g l' → Good T n limit (after_next m j (null_word t)) g who (set lines q l') history
  good_next j t mine higher within small a f =
      let tail_else : store_word m.next j (null_word t) m.tail.index ≡ m.next m.tail.index = word_else m.next j (null_word t) m.tail.index (λ z. outside j m.tail.index mine (tail_in x.linked.chained) (sym z)) in
      record {
        linked = next_linked q l l' x.linked e j (null_word t) mine higher refl a.cells a.nodes f;
        filled = same_filled x.filled (after_next m j (null_word t)) g refl refl refl;
        numbered = next_numbered q l l' e x.numbered j t (outside j (last (m.tail.index ∷ g.after)) mine (last_in x.linked.chained)) within small a.wanting_less;
        told = still_told q l l' e x.told (after_next m j (null_word t)) g refl refl (omega (arith, a.bare_same)) (ap length a.cells) a.putting_less (λ h. ap (λ (w : Tagged). w.mark) tail_else ∙ h)
            (marks j t) refl refl;
      }
    where
      marks : (j t i : ℕ) → (store_word m.next j (null_word t) i).mark ≡ true → (m.next i).mark ≡ true
      marks j t = word_each (λ i w. w.mark ≡ true → (m.next i).mark ≡ true) m.next j (null_word t) (λ h. absurd (false≢true h)) (λ i ne h. h)

  -- the cell that is taken is empty and at home
  pub hold_slot : (w : Tagged) → m.cells ≡ w → ReadTop limit m.cells g.cells w → m.home w.index ≡ some None
  hold_slot w won read = x.filled.empty w.index (read.there (ap (λ (y : Tagged). y.tag) (sym won)))

  -- a cell is taken from its free list
  pub good_hold : (p : ℕ) (w : Tagged) (k : ℕ) → who q ≡ some p → m.cells ≡ w → ReadTop limit m.cells g.cells w → ReadLink m.cells m.clink w k
      → held_cells l' ≡ w.index ∷ held_cells l → held_nodes l' ≡ held_nodes l → bare l' ≡ bare l + 1 → wanting l' ≤ wanting l + 1 → putting l' ≤ putting l + 1
      → ((rest : List ℕ) → IsFine limit (after_hold m w k) (record g { cells = rest }) l')
      → Kept T n limit (after_hold m w k) who (set lines q l') (Hold p ∷ history)
  good_hold p w k of won read at mine nodes bare_more wants puts f =
      let r = ready limit m.cells m.clink g.cells w k x.linked.cells_stand won read at in
      let once = cell_once q w.index l x.linked e in
      let here : times w.index g.cells ≡ 1 + times w.index r.rest = ap (times w.index) r.is ∙ times_here w.index r.rest in
      record {
        lists = record g { cells = r.rest };
        good = record {
          linked = hold_linked q l l' x.linked e w k r.rest won r.is r.stands mine nodes (f r.rest);
          filled = hold_filled x.filled (after_hold m w k) (record g { cells = r.rest }) w.index r.rest refl refl refl r.is (omega arith) (omega arith);
          numbered = hold_numbered q l l' e x.numbered w k r.rest won read.below wants;
          told = hold_told q l l' e x.told p of w k r.rest won r.is (omega (arith, ap length mine)) bare_more puts;
        };
      }

  -- and comes back
  pub good_free : (p : ℕ) (w : Tagged) (c : ℕ) → who q ≡ some p → m.cells ≡ w → m.clink c ≡ w.index → held_cells l ≡ c ∷ [] → held_cells l' ≡ [] → held_nodes l' ≡ held_nodes l → bare l ≡ bare l' + 1 → wanting l' ≤ wanting l → putting l' ≤ putting l
      → IsFine limit (after_free m w c) (record g { cells = c ∷ g.cells }) l'
      → Good T n limit (after_free m w c) (record g { cells = c ∷ g.cells }) who (set lines q l') (Free p 1 ∷ history)
  good_free p w c of won own mine none_left nodes bare_less wants puts f =
      let once = cell_once q c l x.linked e in
      record {
        linked = free_linked q l l' x.linked e w c won own mine none_left nodes f;
        filled = free_filled x.filled (after_free m w c) (record g { cells = c ∷ g.cells }) c refl refl refl (omega (arith, ap (times c) mine, times_here c []));
        numbered = same_numbered q l l' e x.numbered (after_free m w c) (record g { cells = c ∷ g.cells }) (ap (λ (y : Tagged). y.tag) (sym won)) refl refl refl wants;
        told = free_told q l l' e x.told p of w c won (ap length mine) (ap length none_left) bare_less puts;
      }

  -- a node is taken from its free list
  pub good_node_take : (w : Tagged) (k : ℕ) → m.nodes ≡ w → ReadTop limit m.nodes g.nodes w → ReadLink m.nodes m.nlink w k
      → held_cells l' ≡ held_cells l → held_nodes l' ≡ w.index ∷ held_nodes l → bare l ≡ bare l' + 1 → wanting l' + 1 ≤ wanting l → putting l' ≤ putting l
      → ((rest : List ℕ) → IsFine limit (after_node_take m w k) (record g { nodes = rest }) l')
      → Kept T n limit (after_node_take m w k) who (set lines q l') history
  good_node_take w k won read at cells mine bare_less wants puts f =
      let r = ready limit m.nodes m.nlink g.nodes w k x.linked.nodes_stand won read at in
      record {
        lists = record g { nodes = r.rest };
        good = record {
          linked = node_take_linked q l l' x.linked e w k r.rest won r.is r.stands cells mine (f r.rest);
          filled = same_filled x.filled (after_node_take m w k) (record g { nodes = r.rest }) refl refl refl;
          numbered = node_take_numbered q l l' e x.numbered w k r.rest won wants;
          told = still_told q l l' e x.told (after_node_take m w k) (record g { nodes = r.rest }) refl refl (omega (arith, bare_less, ap length r.is)) (ap length cells) puts (λ h. h) (λ j h. h) refl refl;
        };
      }

  -- and comes back
  pub good_node_give : (w : Tagged) (j : ℕ) → m.nodes ≡ w → m.nlink j ≡ w.index → held_cells l' ≡ held_cells l → held_nodes l ≡ j ∷ [] → held_nodes l' ≡ [] → bare l' ≡ bare l + 1 → wanting l' ≤ wanting l → putting l' ≤ putting l
      → IsFine limit (after_node_give m w j) (record g { nodes = j ∷ g.nodes }) l'
      → Good T n limit (after_node_give m w j) (record g { nodes = j ∷ g.nodes }) who (set lines q l') history
  good_node_give w j won own cells mine none_left bare_more wants puts f = record {
    linked = node_give_linked q l l' x.linked e w j won own cells mine none_left f;
    filled = same_filled x.filled (after_node_give m w j) (record g { nodes = j ∷ g.nodes }) refl refl refl;
    numbered = same_numbered q l l' e x.numbered (after_node_give m w j) (record g { nodes = j ∷ g.nodes }) refl (ap (λ (y : Tagged). y.tag) (sym won)) refl refl wants;
    told = still_told q l l' e x.told (after_node_give m w j) (record g { nodes = j ∷ g.nodes }) refl refl (omega (arith, bare_more)) (ap length cells) puts (λ h. h) (λ j h. h) refl refl;
  }

  -- A node is linked behind the last one, its cell with this value in it. It is any value: what a seat
  -- carries in its cell is no part of its line
  pub good_link : (p : ℕ) (w y : Tagged) (j c : ℕ) (v : T) → who q ≡ some p → Ends m.tail m.next w y → m.next w.index ≡ y → IsFresh limit m.nodes.tag (m.next j) → m.cell j ≡ c
      → held_cells l ≡ c ∷ [] → held_nodes l ≡ j ∷ [] → held_cells l' ≡ [] → held_nodes l' ≡ [] → bare l' ≡ bare l → wanting l' ≤ wanting l → putting l ≡ 1 → putting l' ≡ 0
      → IsFine limit (after_link_of m w y j c v) (record g { chain = g.chain ++ (j ∷ []); after = j ∷ []; queued = g.queued ++ (c ∷ []) }) l'
      → Good T n limit (after_link_of m w y j c v) (record g { chain = g.chain ++ (j ∷ []); after = j ∷ []; queued = g.queued ++ (c ∷ []) }) who (set lines q l') (Put p (v ∷ []) w.tag ∷ history)
  good_link p w y j c v of ends won fresh in_cell mine_cell mine_node no_cell no_node bare_same wants was_put no_put f =
      let at = at_the_end q l l' x.linked e w y ends won in
      let once = cell_once q c l x.linked e in
      let mine : 0 < times j (held_nodes l) = omega (arith, ap (times j) mine_node, times_here j []) in
      let ne : j ≢ w.index = λ z. outside j m.tail.index mine (tail_in x.linked.chained) (z ∙ at.index) in
      let g' : Lists = record g { chain = g.chain ++ (j ∷ []); after = j ∷ []; queued = g.queued ++ (c ∷ []) } in
      record {
        linked = link_linked q l l' x.linked e w y j c v ends won mine_cell mine_node in_cell fresh.null no_cell no_node f;
        filled = link_filled x.filled (after_link_of m w y j c v) g' c v refl refl refl (omega (arith, ap (times c) mine_cell, times_here c [])) (omega (arith, ap (times c) mine_cell, times_here c []));
        numbered = link_numbered q l l' e x.numbered w y j c v at.index won ends.unmarked at.last ne fresh wants;
        told = link_told q l l' e x.told p of w y j c v g' at.index won ends.unmarked (at.tag ∙ puts_now x.linked.chained x.told at.last) refl refl (length-append g.queued (c ∷ [])) (ap length mine_cell) (ap length no_cell) bare_same was_put no_put;
      }

  -- the last link gets the mark
  pub good_close : (p : ℕ) (w y : Tagged) → who q ≡ some p → Ends m.tail m.next w y → m.next w.index ≡ y → Alike l l' → IsFine limit (after_close m w y) g l' → Good T n limit (after_close m w y) g who (set lines q l') (Close p ∷ history)
  good_close p w y of ends won a f =
      let at = at_the_end q l l' x.linked e w y ends won in
      record {
        linked = close_linked q l l' x.linked e w y ends won a.cells a.nodes f;
        filled = same_filled x.filled (after_close m w y) g refl refl refl;
        numbered = close_numbered q l l' e x.numbered w y at.index won ends.unmarked at.last a.wanting_less;
        told = close_told q l l' e x.told p of w y at.index won ends.unmarked (ap length a.cells) a.bare_same a.putting_less;
      }

  -- the tail is moved on to the last node
  pub good_swing : (w y : Tagged) → Lags m.tail m.next w y → m.tail ≡ w → Alike l l' → IsFine limit (after_swing m w y.index) (record g { before = g.before ++ (m.tail.index ∷ []); after = [] }) l'
      → Good T n limit (after_swing m w y.index) (record g { before = g.before ++ (m.tail.index ∷ []); after = [] }) who (set lines q l') history
  good_swing w y lags won a f =
      let is : next_of m m.tail.index ≡ y.index = ap (λ (u : Tagged). next_of m u.index) won ∙ ap (λ (u : Tagged). u.index) (lags.follows (ap (λ (u : Tagged). u.tag) (sym won))) in
      let ne : next_of m m.tail.index ≢ NULL = λ z. lags.node (sym is ∙ z) in
      let end : g.after ≡ y.index ∷ [] = behind x.linked.chained ne ∙ ap (λ (i : ℕ). i ∷ []) is in
      record {
        linked = swing_linked q l l' x.linked e w y lags won a.cells a.nodes f;
        filled = same_filled x.filled (after_swing m w y.index) (record g { before = g.before ++ (m.tail.index ∷ []); after = [] }) refl refl refl;
        numbered = same_numbered q l l' e x.numbered (after_swing m w y.index) (record g { before = g.before ++ (m.tail.index ∷ []); after = [] }) refl refl refl (sym (ap (λ (a : List ℕ). last (m.tail.index ∷ a)) end)) a.wanting_less;
        told = still_told q l l' e x.told (after_swing m w y.index) (record g { before = g.before ++ (m.tail.index ∷ []); after = [] }) refl refl (omega (arith, a.bare_same)) (ap length a.cells) a.putting_less
            (λ h. absurd (ne (x.linked.chained.tidy m.tail.index h))) (λ j h. h) refl refl;
      }

  -- the head gets the second mark
  pub good_shut : (p : ℕ) (h : Tagged) → who q ≡ some p → m.head ≡ h → h.second ≡ false → Alike l l' → IsFine limit (after_shut m h) g l' → Good T n limit (after_shut m h) g who (set lines q l') (Shut p ∷ history)
  good_shut p h of won unshut a f = record {
    linked = shut_linked q l l' x.linked e h won a.cells a.nodes f;
    filled = same_filled x.filled (after_shut m h) g refl refl refl;
    numbered = same_numbered q l l' e x.numbered (after_shut m h) g refl refl refl refl a.wanting_less;
    told = shut_told q l l' e x.told p of h won unshut (ap length a.cells) a.bare_same a.putting_less;
  }

after_first : {A : Type 0} (values : List A) (v : A) (left : List A) → values ≡ v ∷ left → without_first values ≡ left
after_first values v left e = ap without_first e

-- the first node becomes the dummy, and its value is taken
pub good_take : {T : Type 0} {n limit : ℕ} {m : Memory T} {g : Lists} {who : ℕ → Option ℕ} {lines : List (Line T)} {history : List (Event T)} (q p : ℕ) (l : Line T) (to : T → Line T) (x : Good T n limit m g who lines history) (h y : Tagged) (c : ℕ)
    → get_elem? lines q ≡ some l → who q ≡ some p → m.head ≡ h → h.second ≡ false → y.index ≢ NULL → Follows m.head m.next h y → h.tag < m.tail.tag → (h.tag ≡ m.head.tag → m.cell y.index ≡ c)
    → held_cells l ≡ [] → held_nodes l ≡ [] → ((v : T) → held_cells (to v) ≡ c ∷ []) → ((v : T) → held_nodes (to v) ≡ h.index ∷ []) → ((v : T) → bare (to v) ≡ bare l) → ((v : T) → wanting (to v) ≤ wanting l) → ((v : T) → putting (to v) ≤ putting l)
    → ((v : T) (g' : Lists) → IsFine limit (after_take m h y c) g' (to v))
    → Took T n limit m who lines history q p h y c to
good_take {n = n} {limit = limit} {m = m} {g = g} {history = history} q p l to x h y c e of won unshut node follows passed in_cell no_cell no_node mine_cell mine_node bare_same wants puts f =
    let tag : h.tag ≡ m.head.tag = ap (λ (u : Tagged). u.tag) (sym won) in
    let is : m.next m.head.index ≡ y = ap (λ (u : Tagged). m.next u.index) won ∙ follows tag node in
    let t = take_chained x.linked.chained y is (omega arith) in
    let cell_is = in_cell tag in
    let queued : g.queued ≡ c ∷ t.queued = t.queued_is ∙ ap (λ (k : ℕ). k ∷ t.queued) cell_is in
    let values = (state n limit history).values in
    let first = first_value m.home c t.queued values (subst (λ (is : List ℕ). HasValues m.home is values) queued x.filled.stored) in
    let once = cell_once q c l x.linked e in
    let here : times c g.queued ≡ 1 + times c t.queued = ap (times c) queued ∙ times_here c t.queued in
    let g' : Lists = record g { chain = t.chain; before = t.before; queued = t.queued } in
    let l' = to first.value in
    record {
      value = first.value;
      here = first.here;
      lists = g';
      good = record {
        linked = take_linked q l l' x.linked e h y c won t cell_is no_cell no_node (mine_cell first.value) (mine_node first.value) (f first.value g');
        filled = subst (Filled _ (after_take m h y c) g') (sym (after_first values first.value first.left first.is))
            (take_filled x.filled (after_take m h y c) g' c t.queued first.left refl refl refl first.stored (omega arith) (omega arith));
        numbered = same_numbered q l l' e x.numbered (after_take m h y c) g' refl refl refl refl (wants first.value);
        told = take_told q l l' e x.told p of h y c first.value first.left g' won unshut first.is refl refl (omega (arith, ap length queued)) (ap length no_cell) (ap length (mine_cell first.value)) (bare_same first.value) (puts first.value);
      };
    }

-- what the winner of a take finds: the cell that it read is one of the queue's, and has the first value
pub record Finds (T : Type 0) (n : ℕ) (m : Memory T) (c : ℕ) : Type 0 where
  pub value : T
  pub here : m.home c ≡ some (Some value)
  pub below : c < n

pub finds_value : {T : Type 0} {n limit : ℕ} {m : Memory T} {g : Lists} {who : ℕ → Option ℕ} {lines : List (Line T)} {history : List (Event T)} (x : Good T n limit m g who lines history) (h y : Tagged) (c : ℕ)
    → m.head ≡ h → y.index ≢ NULL → Follows m.head m.next h y → h.tag < m.tail.tag → (h.tag ≡ m.head.tag → m.cell y.index ≡ c) → Finds T n m c
finds_value {n = n} {limit = limit} {m = m} {g = g} {history = history} x h y c won node follows passed in_cell =
    let tag : h.tag ≡ m.head.tag = ap (λ (u : Tagged). u.tag) (sym won) in
    let is : m.next m.head.index ≡ y = ap (λ (u : Tagged). m.next u.index) won ∙ follows tag node in
    let t = take_chained x.linked.chained y is (omega arith) in
    let queued : g.queued ≡ c ∷ t.queued = t.queued_is ∙ ap (λ (k : ℕ). k ∷ t.queued) (in_cell tag) in
    let first = first_value m.home c t.queued (state n limit history).values (subst (λ (is : List ℕ). HasValues m.home is (state n limit history).values) queued x.filled.stored) in
    record { value = first.value; here = first.here; below = cell_below c x.linked (omega (arith, ap (times c) queued, times_here c t.queued)) }

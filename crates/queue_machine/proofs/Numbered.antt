-- Each kind of step of the queue keeps its tags within the limit.
use Rattle.std.proofs.Common.{◌≡◌, ◌≢◌, ℕ, ◌+◌, ◌*◌, ◌<◌, ◌≤◌, false, List, [], ◌∷◌, ◌++◌, set, refl, sym, ap, ◌∙◌, subst, arith}
use Rattle.std.proofs.lemmas.Bool.{false≢true}
use mathlib.Core.Option.{some}
use lib.ListN.{get_elem?}
use Rattle.tagged_index.specs.declared.word.TheConstants.{NULL}
use Rattle.machine.specs.Words.{Tagged, raised, marked}
use Rattle.machine.specs.Chains.{last}
use Rattle.machine.proofs.Sums.{total_set}
use Rattle.queue_machine.specs.declared.lines.Line.{Line}
use Rattle.queue_machine.specs.Machine.{Memory, store_word, null_word, after_hold, after_node_take, after_next, after_link_of, after_close}
use Rattle.queue_machine.specs.Rule.{Lists, IsFresh, wanting, Numbered}
use Rattle.queue_machine.proofs.Chain.{word_here, word_else, word_each}
use Rattle.queue_machine.proofs.Linked.{fresh_later}

module _ {T : Type 0} {limit : ℕ} {m : Memory T} {g : Lists} {lines : List (Line T)} (p : ℕ) (l l' : Line T) (e : get_elem? lines p ≡ some l) (x : Numbered T limit m g lines) where
  -- a step that changes none of these words
  pub same_numbered : (m' : Memory T) (g' : Lists) → m'.cells.tag ≡ m.cells.tag → m'.nodes.tag ≡ m.nodes.tag → m'.next ≡ m.next → last (m'.tail.index ∷ g'.after) ≡ last (m.tail.index ∷ g.after) → wanting l' ≤ wanting l → Numbered T limit m' g' (set lines p l')
  same_numbered m' g' cells nodes next at fewer = record {
    cells_limit = omega (arith, x.cells_limit);
    nodes_tag = omega (arith, x.nodes_tag, total_set wanting lines p l l' e);
    next_limit = λ j. omega (arith, x.next_limit j, ap (λ (f : ℕ → Tagged). (f j).tag) next);
    next_small = λ j. omega (arith, x.next_small j, ap (λ (f : ℕ → Tagged). (f j).tag) next);
    fresh = λ h.
        let same : m'.next (last (m'.tail.index ∷ g'.after)) ≡ m.next (last (m.tail.index ∷ g.after)) = λ i. next i (at i) in
        fresh_later limit m.nodes.tag m'.nodes.tag (m.next (last (m.tail.index ∷ g.after))) (m'.next (last (m'.tail.index ∷ g'.after))) (omega arith) same (x.fresh (sym (ap (λ (w : Tagged). w.mark) same) ∙ h));
  }

  pub hold_numbered : (w : Tagged) (k : ℕ) (rest : List ℕ) → m.cells ≡ w → w.tag < limit → wanting l' ≤ wanting l + 1 → Numbered T limit (after_hold m w k) (record g { cells = rest }) (set lines p l')
  hold_numbered w k rest won below more = record {
    cells_limit = omega arith;
    nodes_tag = omega (arith, x.nodes_tag, total_set wanting lines p l l' e, ap (λ (y : Tagged). y.tag) won);
    next_limit = x.next_limit;
    next_small = x.next_small;
    fresh = x.fresh;
  }

  -- a node is taken for a cell that was
  pub node_take_numbered : (w : Tagged) (k : ℕ) (rest : List ℕ) → m.nodes ≡ w → wanting l' + 1 ≤ wanting l → Numbered T limit (after_node_take m w k) (record g { nodes = rest }) (set lines p l')
  node_take_numbered w k rest won fewer =
      let t : m.nodes.tag ≡ w.tag = ap (λ (y : Tagged). y.tag) won in
      record {
        cells_limit = x.cells_limit;
        nodes_tag = omega (arith, x.nodes_tag, total_set wanting lines p l l' e);
        next_limit = x.next_limit;
        next_small = λ j. omega (arith, x.next_small j);
        fresh = λ h. fresh_later limit m.nodes.tag (w.tag + 1) (m.next (last (m.tail.index ∷ g.after))) (m.next (last (m.tail.index ∷ g.after))) (omega arith) refl (x.fresh h);
      }

  -- a held node's link is made null again
  pub next_numbered : (j t : ℕ) → j ≢ last (m.tail.index ∷ g.after) → t ≤ limit → t ≤ 2 * m.nodes.tag → wanting l' ≤ wanting l → Numbered T limit (after_next m j (null_word t)) g (set lines p l')
  next_numbered j t ne within small fewer =
      let z = last (m.tail.index ∷ g.after) in
      let same : store_word m.next j (null_word t) z ≡ m.next z = word_else m.next j (null_word t) z (λ q. ne (sym q)) in
      record {
        cells_limit = x.cells_limit;
        nodes_tag = omega (arith, x.nodes_tag, total_set wanting lines p l l' e);
        next_limit = word_each (λ i y. y.tag ≤ limit) m.next j (null_word t) within (λ i ne. x.next_limit i);
        next_small = word_each (λ i y. y.tag ≤ 2 * m.nodes.tag + 1) m.next j (null_word t) (omega arith) (λ i ne. x.next_small i);
        fresh = λ h. subst (IsFresh limit m.nodes.tag) (sym same) (x.fresh (sym (ap (λ (w : Tagged). w.mark) same) ∙ h));
      }

  -- what a null link at the end has room for
  last_fresh : (n : Tagged) → m.next m.tail.index ≡ n → n.mark ≡ false → g.after ≡ [] → IsFresh limit m.nodes.tag n
  last_fresh n is unmarked end =
      let same : m.next (last (m.tail.index ∷ g.after)) ≡ n = ap (λ (a : List ℕ). m.next (last (m.tail.index ∷ a))) end ∙ is in
      subst (IsFresh limit m.nodes.tag) same (x.fresh (ap (λ (w : Tagged). w.mark) same ∙ unmarked))

  pub link_numbered : (w n : Tagged) (j c : ℕ) (v : T) → w.index ≡ m.tail.index → m.next w.index ≡ n → n.mark ≡ false → g.after ≡ [] → j ≢ w.index → IsFresh limit m.nodes.tag (m.next j) → wanting l' ≤ wanting l
      → Numbered T limit (after_link_of m w n j c v) (record g { chain = g.chain ++ (j ∷ []); after = j ∷ []; queued = g.queued ++ (c ∷ []) }) (set lines p l')
  link_numbered w n j c v at is unmarked end ne prepared fewer =
      let f = last_fresh n (ap m.next (sym at) ∙ is) unmarked end in
      record {
        cells_limit = x.cells_limit;
        nodes_tag = omega (arith, x.nodes_tag, total_set wanting lines p l l' e);
        next_limit = word_each (λ i y. y.tag ≤ limit) m.next w.index (raised n j) (omega (arith, f.below)) (λ i ne. x.next_limit i);
        next_small = word_each (λ i y. y.tag ≤ 2 * m.nodes.tag + 1) m.next w.index (raised n j) (omega (arith, f.small)) (λ i ne. x.next_small i);
        fresh = λ h. subst (IsFresh limit m.nodes.tag) (sym (word_else m.next w.index (raised n j) j ne)) prepared;
      }

  pub close_numbered : (w n : Tagged) → w.index ≡ m.tail.index → m.next w.index ≡ n → n.mark ≡ false → g.after ≡ [] → wanting l' ≤ wanting l → Numbered T limit (after_close m w n) g (set lines p l')
  close_numbered w n at is unmarked end fewer =
      let f = last_fresh n (ap m.next (sym at) ∙ is) unmarked end in
      let y = marked (raised n NULL) in
      let here : store_word m.next w.index y (last (m.tail.index ∷ g.after)) ≡ y = ap (λ (a : List ℕ). store_word m.next w.index y (last (m.tail.index ∷ a))) end ∙ ap (store_word m.next w.index y) (sym at) ∙ word_here m.next w.index y in
      record {
        cells_limit = x.cells_limit;
        nodes_tag = omega (arith, x.nodes_tag, total_set wanting lines p l l' e);
        next_limit = word_each (λ i u. u.tag ≤ limit) m.next w.index y (omega (arith, f.below)) (λ i ne. x.next_limit i);
        next_small = word_each (λ i u. u.tag ≤ 2 * m.nodes.tag + 1) m.next w.index y (omega (arith, f.small)) (λ i ne. x.next_small i);
        fresh = λ h. absurd (false≢true (sym h ∙ ap (λ (u : Tagged). u.mark) here));
      }

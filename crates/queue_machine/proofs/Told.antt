-- Each kind of step of the queue keeps the history legal, and what the words say of it.
use Rattle.std.proofs.Common.{◌≡◌, ℕ, suc, ◌+◌, ◌-◌, ◌<◌, ◌≤◌, true, false, List, [], ◌∷◌, length, set, refl, sym, ap, ◌∙◌, ⊎_elim, arith}
use Rattle.std.proofs.lemmas.Bool.{false≢true}
use Rattle.std.proofs.lemmas.List.{length-append, length-map}
use mathlib.Core.Option.{Option, some}
use lib.ListN.{get_elem?}
use Rattle.tagged_index.specs.declared.word.TheConstants.{NULL}
use Rattle.bounded_model.specs.declared.history.Event.{Event}
use Rattle.bounded_model.specs.declared.history.Event.TheVariants.{Hold, Put, Take, Free, Close, Shut}
use Rattle.bounded_model.specs.Machine.{with_hand, without_first}
use Rattle.bounded_model.proofs.Hands.{with_hand-same, with_hand-other}
use Rattle.machine.specs.Words.{Tagged, raised, marked}
use Rattle.machine.proofs.Hands.{hands_set}
use Rattle.machine.proofs.Tests.{is_false}
use Rattle.machine.proofs.Sums.{total_set, total_one, at_set}
use Rattle.queue_machine.specs.declared.lines.Line.{Line}
use Rattle.queue_machine.specs.Machine.{Memory, held_cells, store_word, after_hold, after_free, after_link_of, after_close, after_take, after_shut}
use Rattle.queue_machine.specs.Answers.{state}
use Rattle.queue_machine.specs.Rule.{Lists, IsChained, bare, putting, Told}
use Rattle.queue_machine.proofs.Chain.{word_here, word_each, chain_length}

length_rest : {A : Type 0} (is : List A) → 0 < length is → length (without_first is) + 1 ≡ length is
length_rest [] h = absurd (omega arith)
length_rest (i ∷ is) h = omega arith

-- the chain has one node more than it has values
pub queued_length : {head tail : Tagged} {next : ℕ → Tagged} {cell : ℕ → ℕ} {g : Lists} → IsChained head tail next cell g → length g.chain ≡ length g.queued + 1
queued_length {cell = cell} {g = g} x = omega (arith, ap length x.stored, length-map (without_first g.chain) cell, length_rest g.chain (omega (arith, chain_length x)), chain_length x)

-- where no node stands behind the tail, its tag is the number of puts
pub puts_now : {T : Type 0} {n limit : ℕ} {m : Memory T} {g : Lists} {who : ℕ → Option ℕ} {lines : List (Line T)} {history : List (Event T)}
    → IsChained m.head m.tail m.next m.cell g → Told T n limit m g who lines history → g.after ≡ [] → m.tail.tag ≡ (state n limit history).puts
puts_now x t end = omega (arith, ap length end, x.place, t.head_tag, t.balance, t.listed, queued_length x, chain_length x)

module _ {T : Type 0} where
  -- how many cells a line holds
  abbrev size : Line T → ℕ
  size l = length (held_cells l)

  module _ {n limit : ℕ} {m : Memory T} {g : Lists} {who : ℕ → Option ℕ} {lines : List (Line T)} {history : List (Event T)} (q : ℕ) (l l' : Line T) (e : get_elem? lines q ≡ some l) (t : Told T n limit m g who lines history) where
    -- No event: the pass holds as many cells as before. Where a free node comes or goes, the pass has
    -- one less or one more
    pub still_told : (m' : Memory T) (g' : Lists) → g'.cells ≡ g.cells → g'.queued ≡ g.queued → length g'.nodes + bare l ≡ length g.nodes + bare l' → length (held_cells l') ≡ length (held_cells l) → putting l' ≤ putting l
        → ((m.next m.tail.index).mark ≡ true → (m'.next m'.tail.index).mark ≡ true) → ((j : ℕ) → (m'.next j).mark ≡ true → (m.next j).mark ≡ true)
        → m'.cells.tag ≡ m.cells.tag → m'.head ≡ m.head → Told T n limit m' g' who (set lines q l') history
    still_told m' g' cells queued nodes same fewer keeps came cells_tag head = record {
      legal = t.legal;
      room = omega (arith, t.room, ap length cells, ap length queued);
      spare = omega (arith, t.spare, nodes, ap length cells, total_set bare lines q l l' e);
      out = omega (arith, t.out, total_set size lines q l l' e);
      listed = omega (arith, t.listed, ap length queued);
      hands = λ r x u at of. ⊎_elim (λ c. t.hands r x l (ap (get_elem? lines) c.0 ∙ e) of ∙ sym same ∙ ap (λ (y : Line T). length (held_cells y)) c.1) (λ c. t.hands r x u c.1 of) (at_set lines q r l' u at);
      alone = t.alone;
      closed_marked = λ h. keeps (t.closed_marked h);
      marked_closed = λ j h. t.marked_closed j (came j h);
      shut = ap (λ (w : Tagged). w.second) head ∙ t.shut;
      cells_tag = cells_tag ∙ t.cells_tag;
      head_tag = ap (λ (w : Tagged). w.tag) head ∙ t.head_tag;
      balance = t.balance;
      ahead = omega (arith, t.ahead, total_set putting lines q l l' e);
    }

    module _ (p : ℕ) (of : who q ≡ some p) where
      pub hold_told : (w : Tagged) (k : ℕ) (rest : List ℕ) → m.cells ≡ w → g.cells ≡ w.index ∷ rest → length (held_cells l') ≡ length (held_cells l) + 1 → bare l' ≡ bare l + 1 → putting l' ≤ putting l + 1
          → Told T n limit (after_hold m w k) (record g { cells = rest }) who (set lines q l') (Hold p ∷ history)
      hold_told w k rest won is more bare_more putting_more =
          let same : w.tag ≡ m.cells.tag = ap (λ (x : Tagged). x.tag) (sym won) in
          let long : length g.cells ≡ suc (length rest) = ap length is in
          let hand = (state n limit history).hand in
          record {
            legal = (omega (arith, t.room, t.listed), t.legal);
            room = omega (arith, t.room);
            spare = omega (arith, t.spare, total_set bare lines q l l' e);
            out = omega (arith, t.out, total_set size lines q l l' e);
            listed = t.listed;
            hands = hands_set size who lines hand (with_hand hand p (hand p + 1)) q p l' t.alone of t.hands (omega (arith, with_hand-same hand p (hand p + 1), t.hands q p l e of)) (λ x ne. with_hand-other hand p (hand p + 1) x ne);
            alone = t.alone;
            closed_marked = t.closed_marked;
            marked_closed = t.marked_closed;
            shut = t.shut;
            cells_tag = omega (arith, t.cells_tag);
            head_tag = t.head_tag;
            balance = t.balance;
            ahead = omega (arith, t.ahead, total_set putting lines q l l' e);
          }

      pub free_told : (w : Tagged) (c : ℕ) → m.cells ≡ w → length (held_cells l) ≡ 1 → length (held_cells l') ≡ 0 → bare l ≡ bare l' + 1 → putting l' ≤ putting l
          → Told T n limit (after_free m w c) (record g { cells = c ∷ g.cells }) who (set lines q l') (Free p 1 ∷ history)
      free_told w c won mine none_left bare_less fewer =
          let same : w.tag ≡ m.cells.tag = ap (λ (x : Tagged). x.tag) (sym won) in
          let some_out = total_one size lines q l e in
          let hand = (state n limit history).hand in
          record {
            legal = ((omega arith, omega (arith, t.hands q p l e of)), t.legal);
            room = omega (arith, t.room, t.out);
            spare = omega (arith, t.spare, total_set bare lines q l l' e);
            out = omega (arith, t.out, total_set size lines q l l' e);
            listed = t.listed;
            hands = hands_set size who lines hand (with_hand hand p (hand p - 1)) q p l' t.alone of t.hands (omega (arith, with_hand-same hand p (hand p - 1), t.hands q p l e of)) (λ x ne. with_hand-other hand p (hand p - 1) x ne);
            alone = t.alone;
            closed_marked = t.closed_marked;
            marked_closed = t.marked_closed;
            shut = t.shut;
            cells_tag = omega (arith, t.cells_tag);
            head_tag = t.head_tag;
            balance = t.balance;
            ahead = omega (arith, t.ahead, total_set putting lines q l l' e);
          }

      -- while the last link is not marked the history is open
      pub open_now : (i : ℕ) (x : Tagged) → i ≡ m.tail.index → m.next i ≡ x → x.mark ≡ false → (state n limit history).closed ≡ false
      open_now i x at is unmarked = is_false (state n limit history).closed (λ h. false≢true (sym unmarked ∙ ap (λ (y : Tagged). y.mark) (sym is) ∙ ap (λ (j : ℕ). (m.next j).mark) at ∙ t.closed_marked h))

      pub link_told : (w x : Tagged) (j c : ℕ) (v : T) (g' : Lists) → w.index ≡ m.tail.index → m.next w.index ≡ x → x.mark ≡ false → w.tag ≡ (state n limit history).puts
          → g'.cells ≡ g.cells → g'.nodes ≡ g.nodes → length g'.queued ≡ length g.queued + 1 → length (held_cells l) ≡ 1 → length (held_cells l') ≡ 0 → bare l' ≡ bare l → putting l ≡ 1 → putting l' ≡ 0
          → Told T n limit (after_link_of m w x j c v) g' who (set lines q l') (Put p (v ∷ []) w.tag ∷ history)
      link_told w x j c v g' at is unmarked number cells nodes queued mine none_left bare_same was_put no_put =
          let is_open = open_now w.index x at is unmarked in
          let some_out = total_one size lines q l e in
          let s = state n limit history in
          record {
            legal = ((is_open, refl, omega (arith, t.hands q p l e of), number), t.legal);
            room = omega (arith, t.room, t.out, ap length cells, queued);
            spare = omega (arith, t.spare, ap length cells, ap length nodes, total_set bare lines q l l' e);
            out = omega (arith, t.out, total_set size lines q l l' e);
            listed = omega (arith, t.listed, queued, length-append s.values (v ∷ []));
            hands = hands_set size who lines s.hand (with_hand s.hand p (s.hand p - 1)) q p l' t.alone of t.hands (omega (arith, with_hand-same s.hand p (s.hand p - 1), t.hands q p l e of)) (λ x ne. with_hand-other s.hand p (s.hand p - 1) x ne);
            alone = t.alone;
            closed_marked = λ h. absurd (false≢true (sym is_open ∙ h));
            marked_closed = word_each (λ i y. y.mark ≡ true → s.closed ≡ true) m.next w.index (raised x j) (λ h. absurd (false≢true (sym unmarked ∙ h))) (λ i ne. t.marked_closed i);
            shut = t.shut;
            cells_tag = t.cells_tag;
            head_tag = t.head_tag;
            balance = omega (arith, t.balance, length-append s.values (v ∷ []));
            ahead = omega (arith, t.ahead, total_set putting lines q l l' e);
          }

      pub close_told : (w x : Tagged) → w.index ≡ m.tail.index → m.next w.index ≡ x → x.mark ≡ false → length (held_cells l') ≡ length (held_cells l) → bare l' ≡ bare l → putting l' ≤ putting l
          → Told T n limit (after_close m w x) g who (set lines q l') (Close p ∷ history)
      close_told w x at is unmarked same bare_same fewer =
          let s = state n limit history in
          let y = marked (raised x NULL) in
          record {
            legal = (open_now w.index x at is unmarked, t.legal);
            room = t.room;
            spare = omega (arith, t.spare, total_set bare lines q l l' e);
            out = omega (arith, t.out, total_set size lines q l l' e);
            listed = t.listed;
            hands = hands_set size who lines s.hand s.hand q p l' t.alone of t.hands (t.hands q p l e of ∙ sym same) (λ x ne. refl);
            alone = t.alone;
            closed_marked = λ h. ap (λ (u : Tagged). u.mark) (ap (store_word m.next w.index y) (sym at) ∙ word_here m.next w.index y);
            marked_closed = λ j h. refl;
            shut = t.shut;
            cells_tag = t.cells_tag;
            head_tag = t.head_tag;
            balance = t.balance;
            ahead = omega (arith, t.ahead, total_set putting lines q l l' e);
          }

      pub take_told : (h x : Tagged) (c : ℕ) (v : T) (left : List T) (g' : Lists) → m.head ≡ h → h.second ≡ false → (state n limit history).values ≡ v ∷ left
          → g'.cells ≡ g.cells → g'.nodes ≡ g.nodes → length g.queued ≡ length g'.queued + 1 → length (held_cells l) ≡ 0 → length (held_cells l') ≡ 1 → bare l' ≡ bare l → putting l' ≤ putting l
          → Told T n limit (after_take m h x c) g' who (set lines q l') (Take p v h.tag ∷ history)
      take_told h x c v left g' won unshut first cells nodes queued none_yet one bare_same fewer =
          let tag : h.tag ≡ m.head.tag = ap (λ (y : Tagged). y.tag) (sym won) in
          let second : h.second ≡ m.head.second = ap (λ (y : Tagged). y.second) (sym won) in
          let s = state n limit history in
          let rest : length (without_first s.values) ≡ length left = ap (λ (vs : List T). length (without_first vs)) first in
          let long : length s.values ≡ suc (length left) = ap length first in
          record {
            legal = ((sym t.shut ∙ sym second ∙ unshut, (left, first), tag ∙ t.head_tag), t.legal);
            room = omega (arith, t.room, ap length cells, queued);
            spare = omega (arith, t.spare, ap length cells, ap length nodes, total_set bare lines q l l' e);
            out = omega (arith, t.out, total_set size lines q l l' e);
            listed = omega (arith, t.listed, queued);
            hands = hands_set size who lines s.hand (with_hand s.hand p (s.hand p + 1)) q p l' t.alone of t.hands (omega (arith, with_hand-same s.hand p (s.hand p + 1), t.hands q p l e of)) (λ x ne. with_hand-other s.hand p (s.hand p + 1) x ne);
            alone = t.alone;
            closed_marked = t.closed_marked;
            marked_closed = t.marked_closed;
            shut = second ∙ t.shut;
            cells_tag = t.cells_tag;
            head_tag = omega (arith, t.head_tag);
            balance = omega (arith, t.balance);
            ahead = omega (arith, t.ahead, total_set putting lines q l l' e);
          }

      pub shut_told : (h : Tagged) → m.head ≡ h → h.second ≡ false → length (held_cells l') ≡ length (held_cells l) → bare l' ≡ bare l → putting l' ≤ putting l
          → Told T n limit (after_shut m h) g who (set lines q l') (Shut p ∷ history)
      shut_told h won unshut same bare_same fewer =
          let tag : h.tag ≡ m.head.tag = ap (λ (y : Tagged). y.tag) (sym won) in
          let second : h.second ≡ m.head.second = ap (λ (y : Tagged). y.second) (sym won) in
          let s = state n limit history in
          record {
            legal = (sym t.shut ∙ sym second ∙ unshut, t.legal);
            room = t.room;
            spare = omega (arith, t.spare, total_set bare lines q l l' e);
            out = omega (arith, t.out, total_set size lines q l l' e);
            listed = t.listed;
            hands = hands_set size who lines s.hand s.hand q p l' t.alone of t.hands (t.hands q p l e of ∙ sym same) (λ x ne. refl);
            alone = t.alone;
            closed_marked = t.closed_marked;
            marked_closed = t.marked_closed;
            shut = refl;
            cells_tag = t.cells_tag;
            head_tag = omega (arith, t.head_tag);
            balance = t.balance;
            ahead = omega (arith, t.ahead, total_set putting lines q l l' e);
          }

-- No tag of a queue's links runs ahead of the number of cells reserved: what each kind of step does to that.
use Rattle.std.proofs.Common.{◌≡◌, ℕ, zero, suc, ◌+◌, ◌<◌, ◌≤◌, Bool, true, false, List, [], ◌∷◌, set, refl, sym, ap, ◌∙◌, subst, ⊎_elim, Some, Err, arith}
use Rattle.std.proofs.lemmas.Bool.{false≢true}
use mathlib.Core.Option.{Option, some, some-injective, some-ne-none}
use lib.ListN.{get_elem?}
use Rattle.tagged_index.specs.Fields.{bit}
use Rattle.tagged_index.specs.declared.word.TheConstants.{NULL}
use Rattle.bounded_model.specs.declared.answers.PutRefused.TheVariants.{Spent as PutSpent}
use Rattle.bounded_model.specs.declared.history.Event.{Event}
use Rattle.bounded_model.specs.declared.history.Event.TheVariants.{Hold, Put, Close}
use Rattle.machine.specs.Words.{Tagged, times, total, raised, marked}
use Rattle.machine.proofs.Lists.{times_here}
use Rattle.machine.proofs.Sums.{at_set, total_set, total_one}
use Rattle.machine.proofs.Tests.{at_most_one, is_false}
use Rattle.queue_machine.specs.declared.lines.Linking.{Linking}
use Rattle.queue_machine.specs.declared.lines.Answer.{Answer}
use Rattle.queue_machine.specs.declared.lines.Answer.TheVariants.{Put as AnswerPut}
use Rattle.queue_machine.specs.declared.lines.Line.{Line}
use Rattle.queue_machine.specs.declared.lines.Line.TheVariants.{Idle, LoadTail, LoadTailNext, CheckTail, SwingTail, LinkNext, LoadNodesToGive, LinkToNodes, GiveNode, LoadCellsToGive, LinkToCells, GiveCell}
use Rattle.queue_machine.specs.Machine.{Memory, null_word, seeking_nodes, held_nodes, after_hold, after_next, after_link, after_swing, after_close}
use Rattle.queue_machine.specs.Answers.{state}
use Rattle.queue_machine.specs.Rule.{Lists, Lags, Ends, putting, Good}
use Rattle.queue_machine.proofs.Chain.{tail_in, word_each}
use Rattle.queue_machine.proofs.Moves.{at_the_end}

-- sums

pub total_less : {V : Type 0} (f g : V → ℕ) → ((v : V) → f v ≤ g v) → (vs : List V) → total f vs ≤ total g vs
total_less f g less [] = omega arith
total_less f g less (v ∷ vs) = omega (arith, less v, total_less f g less vs)

-- where one value has less of f than of g, the sum has too
total_apart : {V : Type 0} (f g : V → ℕ) → ((v : V) → f v ≤ g v) → (vs : List V) (p : ℕ) (v : V) → get_elem? vs p ≡ some v → total f vs + g v ≤ total g vs + f v
total_apart f g less [] p v e = absurd (some-ne-none v (sym e))
total_apart f g less (u ∷ us) zero v e = let same = some-injective u v e in omega (arith, ap f same, ap g same, total_less f g less us)
total_apart f g less (u ∷ us) (suc p) v e = omega (arith, less u, total_apart f g less us p v e)

once : (i j : ℕ) → times i (j ∷ []) ≤ 1
once i j = grind arith

module _ {T : Type 0} where
  -- the node of a put whose link is prepared and not linked yet
  abbrev pub prepared : Line T → List ℕ
  prepared (LoadTail s) = seeking_nodes s
  prepared (LoadTailNext s w) = seeking_nodes s
  prepared (CheckTail s w y) = seeking_nodes s
  prepared (SwingTail s w y) = seeking_nodes s
  prepared (LinkNext link w y) = link.node ∷ []
  prepared l = []

  -- it is one that the pass holds
  prepared_held : (j : ℕ) (l : Line T) → times j (prepared l) ≤ times j (held_nodes l)
  prepared_held j (LoadTail s) = omega arith
  prepared_held j (LoadTailNext s w) = omega arith
  prepared_held j (CheckTail s w y) = omega arith
  prepared_held j (SwingTail s w y) = omega arith
  prepared_held j (LinkNext link w y) = omega arith
  prepared_held j l = omega arith

  -- in how many puts under way node j is prepared
  abbrev pub all_prepared : ℕ → List (Line T) → ℕ
  all_prepared j lines = total (λ l. times j (prepared l)) lines

  abbrev pub weight : Line T → ℕ × List ℕ
  weight l = (putting l, prepared l)

module _ {T : Type 0} (n limit : ℕ) where
  -- what the queue's life is counted by
  abbrev pub life : List (Event T) → ℕ × (ℕ × Bool)
  life h = ((state n limit h).holds, ((state n limit h).puts, (state n limit h).closed))

  -- of an answer that a put was refused as spent
  abbrev pub Said : List (Event T) → Answer T → Type 0
  Said h (AnswerPut (Err (PutSpent v word t))) = limit ≤ (state n limit h).holds
  Said h a = Unit {0}

  -- what a pass at a line knows of the history
  abbrev pub Knows : List (Event T) → Line T → Type 0
  Knows h (Idle (Some a)) = Said h a
  Knows h (CheckTail s w y) = y.mark ≡ true → (state n limit h).closed ≡ true
  Knows h (LoadNodesToGive give) = Said h give.answer
  Knows h (LinkToNodes give w) = Said h give.answer
  Knows h (GiveNode give w) = Said h give.answer
  Knows h (LoadCellsToGive give) = Said h give.answer
  Knows h (LinkToCells give w) = Said h give.answer
  Knows h (GiveCell give w) = Said h give.answer
  Knows h l = Unit {0}

  -- Each cell that was reserved was used by a put or is in the hand of one of this number of puts under way. Once all of the limit are reserved, but
  -- for one
  pub record Used (puts : ℕ) (h : List (Event T)) : Type 0 where
    pub but_one : (state n limit h).holds ≤ (state n limit h).puts + puts + 1
    pub early : (state n limit h).holds < limit → (state n limit h).holds ≤ (state n limit h).puts + puts
    pub busy : 0 < puts → (state n limit h).holds ≤ (state n limit h).puts + puts

  -- The tag of a node's link is at most the number of cells that were reserved by puts that are done with it. If it is prepared now, or marked, it is
  -- one more. Only the link of the tail's node is marked
  pub record Aged (m : Memory T) (lines : List (Line T)) (h : List (Event T)) : Type 0 where
    pub worn : (j : ℕ) → (m.next j).tag + total putting lines ≤ (state n limit h).holds + (all_prepared j lines + bit (m.next j).mark)
    pub marked : (j : ℕ) → (m.next j).mark ≡ true → m.tail.index ≡ j
    pub used : (state n limit h).closed ≡ false → Used (total putting lines) h
    pub knows : (q : ℕ) (l : Line T) → get_elem? lines q ≡ some l → Knows h l

  -- histories only grow
  pub record Grows (h h' : List (Event T)) : Type 0 where
    pub holds : (state n limit h).holds ≤ (state n limit h').holds
    pub closed : (state n limit h).closed ≡ true → (state n limit h').closed ≡ true

  pub grows_alike : (h h' : List (Event T)) → life h' ≡ life h → Grows h h'
  grows_alike h h' e = record { holds = omega (arith, ap (λ x. x.0) e); closed = λ c. ap (λ x. x.1.1) e ∙ c }

  pub said_later : (h h' : List (Event T)) → Grows h h' → (a : Answer T) → Said h a → Said h' a
  said_later h h' g (AnswerPut (Err (PutSpent v word t))) k = omega (arith, k, g.holds)
  said_later h h' g a k = tt

  knows_later : (h h' : List (Event T)) → Grows h h' → (l : Line T) → Knows h l → Knows h' l
  knows_later h h' g (Idle (Some a)) k = said_later h h' g a k
  knows_later h h' g (CheckTail s w y) k = λ is_marked. g.closed (k is_marked)
  knows_later h h' g (LoadNodesToGive give) k = said_later h h' g give.answer k
  knows_later h h' g (LinkToNodes give w) k = said_later h h' g give.answer k
  knows_later h h' g (GiveNode give w) k = said_later h h' g give.answer k
  knows_later h h' g (LoadCellsToGive give) k = said_later h h' g give.answer k
  knows_later h h' g (LinkToCells give w) k = said_later h h' g give.answer k
  knows_later h h' g (GiveCell give w) k = said_later h h' g give.answer k
  knows_later h h' g l k = tt

  module _ {m : Memory T} {lines : List (Line T)} {h : List (Event T)} (q : ℕ) (l l' : Line T) (e : get_elem? lines q ≡ some l) (a : Aged m lines h) where
    knows_set : (h' : List (Event T)) → Grows h h' → Knows h' l' → (r : ℕ) (u : Line T) → get_elem? (set lines q l') r ≡ some u → Knows h' u
    knows_set h' g new r u at = ⊎_elim (λ t. subst (Knows h') t.1 new) (λ t. knows_later h h' g u (a.knows r u t.1)) (at_set lines q r l' u at)

    put_sum : total putting (set lines q l') + putting l ≡ total putting lines + putting l'
    put_sum = total_set putting lines q l l' e

    prepared_sum : (j : ℕ) → all_prepared j (set lines q l') + times j (prepared l) ≡ all_prepared j lines + times j (prepared l')
    prepared_sum j = total_set (λ u. times j (prepared u)) lines q l l' e

    -- a step that changes no link of the chain, no put and none of what life is counted by
    pub goes : (m' : Memory T) (h' : List (Event T)) → m'.next ≡ m.next → ((j : ℕ) → (m.next j).mark ≡ true → m'.tail.index ≡ j) → life h' ≡ life h → weight l' ≡ weight l → Knows h' l' → Aged m' (set lines q l') h'
    goes m' h' next tail alike same new =
        let puts : putting l' ≡ putting l = ap (λ x. x.0) same in
        let holds = ap (λ x. x.0) alike in
        record {
          worn = λ j. omega (arith, a.worn j, put_sum, puts, prepared_sum j, ap (λ x. times j x.1) same, holds, ap (λ (f : ℕ → Tagged). (f j).tag) next, ap (λ (f : ℕ → Tagged). bit (f j).mark) next);
          marked = λ j is_marked. tail j (ap (λ (f : ℕ → Tagged). (f j).mark) (sym next) ∙ is_marked);
          used = λ open_now.
              let u = a.used (ap (λ x. x.1.1) (sym alike) ∙ open_now) in
              let put = ap (λ x. x.1.0) alike in
              record {
                but_one = omega (arith, u.but_one, put_sum, puts, holds, put);
                early = λ low. omega (arith, u.early (omega (arith, low, holds)), put_sum, puts, holds, put);
                busy = λ some_put. omega (arith, u.busy (omega (arith, some_put, put_sum, puts)), put_sum, puts, holds, put);
              };
          knows = knows_set h' (grows_alike h h' alike) new;
        }

  -- the kinds of steps that do, in a state that meets the machine's rule
  module _ {m : Memory T} {g : Lists} {who : ℕ → Option ℕ} {lines : List (Line T)} {h : List (Event T)} (q : ℕ) (l l' : Line T) (e : get_elem? lines q ≡ some l) (a : Aged m lines h) (x : Good T n limit m g who lines h) where
    -- a cell is reserved
    pub holds_one : (p : ℕ) (w : Tagged) (k : ℕ) → (state n limit h).holds < limit → putting l' ≡ putting l + 1 → prepared l' ≡ prepared l → Knows (Hold p ∷ h) l' → Aged (after_hold m w k) (set lines q l') (Hold p ∷ h)
    holds_one p w k low more same new = record {
      worn = λ j. omega (arith, a.worn j, put_sum q l l' e a, more, prepared_sum q l l' e a j, ap (times j) same);
      marked = a.marked;
      used = λ open_now.
          let u = a.used open_now in
          let early = u.early low in
          record {
            but_one = omega (arith, early, put_sum q l l' e a, more);
            early = λ still. omega (arith, early, put_sum q l l' e a, more);
            busy = λ some_put. omega (arith, early, put_sum q l l' e a, more);
          };
      knows = knows_set q l l' e a (Hold p ∷ h) (record { holds = omega arith; closed = λ c. c }) new;
    }

    -- a put is refused as closed
    pub refuses_closed : (state n limit h).closed ≡ true → putting l' ≤ putting l → ((j : ℕ) → times j (prepared l) + putting l' ≤ times j (prepared l') + putting l) → Knows h l' → Aged m (set lines q l') h
    refuses_closed closed fewer drops new = record {
      worn = λ j. omega (arith, a.worn j, put_sum q l l' e a, prepared_sum q l l' e a j, drops j);
      marked = a.marked;
      used = λ open_now. absurd (false≢true (sym open_now ∙ closed));
      knows = knows_set q l l' e a h (record { holds = omega arith; closed = λ c. c }) new;
    }

    -- a node in the pass's hand is in nobody else's, nor in the chain
    alone : (j : ℕ) → times j (held_nodes l) ≡ 1 → prepared l ≡ [] → all_prepared j lines ≡ 0
    alone j mine none_ready = omega (
      arith,
      mine,
      x.linked.nodes_once j,
      at_most_one j (n + 1),
      total_apart (λ u. times j (prepared u)) (λ u. times j (held_nodes u)) (prepared_held j) lines q l e,
      ap (times j) none_ready,
    )

    unmarked : (j : ℕ) → times j (held_nodes l) ≡ 1 → (m.next j).mark ≡ false
    unmarked j mine = is_false (m.next j).mark (λ is_marked. absurd (omega (
      arith,
      mine,
      tail_in x.linked.chained,
      ap (λ (i : ℕ). times i g.chain) (a.marked j is_marked),
      x.linked.nodes_once j,
      total_one (λ u. times j (held_nodes u)) lines q l e,
      at_most_one j (n + 1),
    )))

    -- how far the link's tag is of a node that is not prepared yet
    room : (j : ℕ) → times j (held_nodes l) ≡ 1 → prepared l ≡ [] → (m.next j).tag + total putting lines ≤ (state n limit h).holds
    room j mine none_ready = omega (arith, a.worn j, alone j mine none_ready, ap bit (unmarked j mine))

    -- a put finds that its node's link allows no further rise: it has the last cell
    pub refuses_spent : (j : ℕ) → times j (held_nodes l) ≡ 1 → prepared l ≡ [] → prepared l' ≡ [] → putting l ≡ 1 → putting l' ≡ 0 → limit ≤ (m.next j).tag + 1 → (limit ≤ (state n limit h).holds → Knows h l') → Aged m (set lines q l') h
    refuses_spent j mine none_ready none_left was_put no_put at_limit new =
        let far = room j mine none_ready in
        let one = total_one putting lines q l e in
        let within : (state n limit h).holds ≤ limit = omega (arith, x.told.cells_tag, x.numbered.cells_limit) in
        record {
          worn = λ i. omega (arith, a.worn i, put_sum q l l' e a, was_put, no_put, prepared_sum q l l' e a i, ap (times i) none_ready, ap (times i) none_left);
          marked = a.marked;
          used = λ open_now.
              let u = a.used open_now in
              record {
                but_one = omega (arith, u.busy (omega (arith, one, was_put)), put_sum q l l' e a, was_put, no_put);
                early = λ low. absurd (omega (arith, low, far, at_limit, one, was_put));
                busy = λ some_put. absurd (omega (arith, some_put, far, at_limit, within, put_sum q l l' e a, was_put, no_put));
              };
          knows = knows_set q l l' e a h (record { holds = omega arith; closed = λ c. c }) (new (omega (arith, far, at_limit, one, was_put)));
        }

    -- the link of a node in the pass's hand is made null
    pub prepares : (j : ℕ) (w : Tagged) → m.next j ≡ w → times j (held_nodes l) ≡ 1 → prepared l ≡ [] → prepared l' ≡ j ∷ [] → putting l' ≡ putting l → Knows h l' → Aged (after_next m j (null_word (w.tag + 1))) (set lines q l') h
    prepares j w is mine none_ready ready same new =
        let far = room j mine none_ready in
        let tag : (m.next j).tag ≡ w.tag = ap (λ (y : Tagged). y.tag) is in
        record {
          worn = word_each (λ i y. y.tag + total putting (set lines q l') ≤ (state n limit h).holds + (all_prepared i (set lines q l') + bit y.mark)) m.next j (null_word (w.tag + 1))
              (omega (arith, far, tag, put_sum q l l' e a, same, prepared_sum q l l' e a j, ap (times j) none_ready, ap (times j) ready, times_here j []))
              (λ i ne. omega (arith, a.worn i, put_sum q l l' e a, same, prepared_sum q l l' e a i, ap (times i) none_ready));
          marked = word_each (λ i y. y.mark ≡ true → m.tail.index ≡ i) m.next j (null_word (w.tag + 1)) (λ is_marked. absurd (false≢true is_marked)) (λ i ne. a.marked i);
          used = λ open_now.
              let u = a.used open_now in
              record {
                but_one = omega (arith, u.but_one, put_sum q l l' e a, same);
                early = λ low. omega (arith, u.early low, put_sum q l l' e a, same);
                busy = λ some_put. omega (arith, u.busy (omega (arith, some_put, put_sum q l l' e a, same)), put_sum q l l' e a, same);
              };
          knows = knows_set q l l' e a h (record { holds = omega arith; closed = λ c. c }) new;
        }

    -- no node of the chain is prepared
    in_chain : (j : ℕ) → 0 < times j g.chain → all_prepared j lines ≡ 0
    in_chain j there = omega (arith, there, x.linked.nodes_once j, at_most_one j (n + 1), total_less (λ u. times j (prepared u)) (λ u. times j (held_nodes u)) (prepared_held j) lines)

    -- a node is linked behind the last one
    pub links_one : (p : ℕ) (w y : Tagged) (link : Linking T) → Ends m.tail m.next w y → m.next w.index ≡ y → prepared l ≡ link.node ∷ [] → prepared l' ≡ [] → putting l ≡ 1 → putting l' ≡ 0 → Knows (Put p (link.value ∷ []) w.tag ∷ h) l'
        → Aged (after_link m w y link) (set lines q l') (Put p (link.value ∷ []) w.tag ∷ h)
    links_one p w y link ends_here won was_ready none_left was_put no_put new =
        let at = at_the_end q l l' x.linked e w y ends_here won in
        let tag : (m.next w.index).tag ≡ y.tag = ap (λ (u : Tagged). u.tag) won in
        let none_ready = in_chain w.index (subst (λ (i : ℕ). 0 < times i g.chain) (sym at.index) (tail_in x.linked.chained)) in
        let old_bit : bit (m.next w.index).mark ≡ 0 = ap (λ (u : Tagged). bit u.mark) won ∙ ap bit ends_here.unmarked in
        let counts = put_sum q l l' e a in
        record {
          worn = word_each (λ i u. u.tag + total putting (set lines q l') ≤ (state n limit h).holds + (all_prepared i (set lines q l') + bit u.mark)) m.next w.index (raised y link.node)
              (omega (arith, a.worn w.index, none_ready, old_bit, tag, counts, was_put, no_put))
              (λ i ne. omega (arith, a.worn i, counts, was_put, no_put, prepared_sum q l l' e a i, ap (times i) was_ready, ap (times i) none_left, once i link.node));
          marked = word_each (λ i u. u.mark ≡ true → m.tail.index ≡ i) m.next w.index (raised y link.node) (λ is_marked. sym at.index) (λ i ne. a.marked i);
          used = λ open_now.
              let u = a.used open_now in
              let one = total_one putting lines q l e in
              let busy = u.busy (omega (arith, one, was_put)) in
              record {
                but_one = omega (arith, busy, counts, was_put, no_put);
                early = λ low. omega (arith, busy, counts, was_put, no_put);
                busy = λ some_put. omega (arith, busy, counts, was_put, no_put);
              };
          knows = knows_set q l l' e a (Put p (link.value ∷ []) w.tag ∷ h) (record { holds = omega arith; closed = λ c. c }) new;
        }

    -- the last link gets the mark
    pub closes : (p : ℕ) (w y : Tagged) → Ends m.tail m.next w y → m.next w.index ≡ y → weight l' ≡ weight l → Knows (Close p ∷ h) l' → Aged (after_close m w y) (set lines q l') (Close p ∷ h)
    closes p w y ends_here won same new =
        let at = at_the_end q l l' x.linked e w y ends_here won in
        let tag : (m.next w.index).tag ≡ y.tag = ap (λ (u : Tagged). u.tag) won in
        let old_bit : bit (m.next w.index).mark ≡ 0 = ap (λ (u : Tagged). bit u.mark) won ∙ ap bit ends_here.unmarked in
        let counts = put_sum q l l' e a in
        let puts : putting l' ≡ putting l = ap (λ x. x.0) same in
        record {
          worn = word_each (λ i u. u.tag + total putting (set lines q l') ≤ (state n limit h).holds + (all_prepared i (set lines q l') + bit u.mark)) m.next w.index (marked (raised y NULL))
              (omega (arith, a.worn w.index, old_bit, tag, counts, puts, prepared_sum q l l' e a w.index, ap (λ x. times w.index x.1) same))
              (λ i ne. omega (arith, a.worn i, counts, puts, prepared_sum q l l' e a i, ap (λ x. times i x.1) same));
          marked = word_each (λ i u. u.mark ≡ true → m.tail.index ≡ i) m.next w.index (marked (raised y NULL)) (λ is_marked. sym at.index) (λ i ne. a.marked i);
          used = λ open_now. absurd (false≢true (sym open_now));
          knows = knows_set q l l' e a (Close p ∷ h) (record { holds = omega arith; closed = λ c. refl }) new;
        }

    -- the tail is moved on: no link is marked then
    pub swings : (w y : Tagged) → Lags m.tail m.next w y → m.tail ≡ w → weight l' ≡ weight l → Knows h l' → Aged (after_swing m w y.index) (set lines q l') h
    swings w y lags won same new = goes q l l' e a (after_swing m w y.index) h refl none_marked refl same new
      where
        node : (m.next m.tail.index).index ≡ y.index
        node = ap (λ (u : Tagged). (m.next u.index).index) won ∙ ap (λ (u : Tagged). u.index) (lags.follows (ap (λ (u : Tagged). u.tag) (sym won)))

        none_marked : (j : ℕ) → (m.next j).mark ≡ true → y.index ≡ j
        none_marked j is_marked = absurd (lags.node (sym node ∙ x.linked.chained.tidy m.tail.index (ap (λ (i : ℕ). (m.next i).mark) (a.marked j is_marked) ∙ is_marked)))

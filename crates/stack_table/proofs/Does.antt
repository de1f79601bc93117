-- What each line of the stack needs for its step to be made on the table, from the rule.
use Rattle.std.proofs.Common.{◌≡◌, ◌≢◌, ℕ, ◌+◌, ◌<◌, ◌≤◌, List, [], ◌∷◌, ◌++◌, length, reverse, refl, sym, ap, ◌∙◌, subst, arith}
use Rattle.std.proofs.lemmas.List.{length-reverse, length-take-le}
use Rattle.std.specs.Prelude.{Option as Slot, Some, None}
use mathlib.Core.Option.{Option, some}
use lib.ListN.{get_elem?}
use Rattle.tagged_index.specs.declared.word.TheConstants.{NULL}
use Rattle.bounded_model.specs.declared.history.Event.{Event}
use Rattle.index_list.specs.Lists.{Holds, Distinct}
use Rattle.index_list.specs.Steps.{numbers}
use Rattle.machine.specs.Words.{Tagged, times, total, Stands}
use Rattle.machine.specs.OneList.{ReadTop, ReadLink}
use Rattle.machine.specs.Chains.{first, last, chain_from, HasValues}
use Rattle.machine.proofs.Chains.{first_in, last_in, first_value, values_length}
use Rattle.machine.proofs.OneList.{front_of, ready}
use Rattle.machine.proofs.Sums.{total_one}
use Rattle.machine.proofs.Tests.{at_most_one}
use Rattle.stack_machine.specs.declared.lines.Direction.{Direction}
use Rattle.stack_machine.specs.declared.lines.Line.{Line}
use Rattle.stack_machine.specs.declared.lines.Line.TheVariants.{LoadFree, LoadFreeLink, TakeFree, LinkTaken, LinkToTop, SwapTop, LoadTopToTake, LoadTopLink, TakeTop, TakeChain, LoadLinkToTurn, TurnLink, LoadLinkToFold, LinkToFree, GiveBack, MarkTop, ShutTop}
use Rattle.stack_machine.specs.Machine.{Memory, held, placed, is_up, took_all, free_nodes, stacked, table}
use Rattle.stack_machine.specs.Answers.{shape, state}
use Rattle.stack_machine.specs.Deeds.{in_order}
use Rattle.stack_machine.specs.Rule.{Lists, Kept}
use Rattle.stack_machine.proofs.Linked.{turning_in}
use Rattle.stack_machine.proofs.Moves.{hold_slot, all_nodes}
use Rattle.running.specs.Machine.{Does}
use Rattle.running.specs.Tables.{Needs, Comes, Goes, turned}
use Rattle.running.proofs.Does.{does_all}
use Rattle.running.proofs.Slots.{turned_twice, times_turned}
use Rattle.running.proofs.Indexes.{holds_times, distinct_times, once_below, stands_in}
use Rattle.stack_table.specs.Layout.{link_at}
use Rattle.stack_table.specs.Memories.{memory_of, Sane}
use Rattle.stack_table.specs.Slots.{Links, full, vacant}
use Rattle.stack_table.specs.Core.{board, rules, core}
use Rattle.stack_table.proofs.Memories.{lies, at_home_is}
use Rattle.stack_table.proofs.Slots.{links_on, length_in_order, numbers_vacant, numbers_full, has_in_order}
use Rattle.stack_table.proofs.Moves.{each_home}

module _ {T : Type 0} (n limit : ℕ) (words : List ℕ) (homes : List (Option (Slot T))) (sane : Sane n words homes) where
  abbrev m : Memory T
  m = memory_of words homes

  within : (i : ℕ) → i < n → link_at i < length words
  within i low = let w = sane.words_are in omega arith

  module _ (of : ℕ → Option ℕ) (lines : List (Line T)) (h : List (Event T)) (q : ℕ) (k : Kept T n limit m of lines h) where
    abbrev g : Lists
    g = k.lists

    -- a node in hand or on a list is one, and no other
    low_of : (i : ℕ) → 0 < times i g.frees + times i g.stack + total (λ (u : Line T). times i (held u)) lines → i < n
    low_of i some_there = once_below i n (times i g.frees + times i g.stack + total (λ (u : Line T). times i (held u)) lines) (k.good.linked.once i) some_there

    below : (l : Line T) (i : ℕ) → get_elem? lines q ≡ some l → 0 < times i (held l) → i < n
    below l i here some_there = let one = total_one (λ (u : Line T). times i (held u)) lines q l here in low_of i (omega arith)

    held_once : (l : Line T) (i : ℕ) → get_elem? lines q ≡ some l → times i (held l) ≤ 1
    held_once l i here = let one = total_one (λ (u : Line T). times i (held u)) lines q l here in let o = k.good.linked.once i in let u = at_most_one i n in omega arith

    listed_low : (x : ℕ) (xs : List ℕ) → Stands m.link x xs → ((i : ℕ) → times i xs ≤ times i g.frees + times i g.stack) → x ≢ NULL → x < n
    listed_low x xs s part ne = low_of x (let e = part x in let h = stands_in m.link x xs s ne in omega arith)

    free_low : m.free.index ≢ NULL → m.free.index < n
    free_low = listed_low m.free.index g.frees k.good.linked.free_stands (λ i. omega arith)

    top_low : m.top.index ≢ NULL → m.top.index < n
    top_low = listed_low m.top.index g.stack k.good.linked.top_stands (λ i. omega arith)

    chain_low : (l : Line T) → get_elem? lines q ≡ some l → (j : ℕ) → Holds (held l) j → j < length homes
    chain_low l here j has = let b = below l j here (holds_times (held l) j has) in let e = sane.homes_are in omega arith

    -- the node on top has a value
    value_there : (w : Tagged) (j : ℕ) → m.top ≡ w → ReadTop limit m.top g.stack w → ReadLink m.top m.link w j → (v : T) × (m.home w.index ≡ some (Some v))
    value_there w j won top link =
        let r = ready limit m.top m.link g.stack w j k.good.linked.top_stands won top link in
        let values = (state n limit h).values in
        let y = first_value m.home w.index r.rest values (subst (λ (is : List ℕ). HasValues m.home is values) r.is k.good.filled.stored) in
        (y.value, y.here)

    -- the link of a node of a chain from which the rest of the chain stands
    links_left : (l : Line T) (before left : List ℕ) (i : ℕ) → get_elem? lines q ≡ some l → held l ≡ before ++ left → Stands m.link i left → i ≢ NULL → Links (held l) i (m.link i)
    links_left l before left i here parts stands some_node =
        let f = front_of m.link i left NULL some_node stands in
        links_on m.link (held l) before f.rest i (parts ∙ ap (λ (xs : List ℕ). before ++ xs) f.is) (held_once l i here) f.leads

    whole_comes : (d : Direction) (w : Tagged) → get_elem? lines q ≡ some (TakeChain d w) → m.top ≡ w → Comes (board T n limit) words homes (TakeChain d w) (is_up d) (chain_from n m.link w.index) (took_all d w (chain_from n m.link w.index))
    whole_comes d w e hit =
        let f = k.good.linked.fine q (TakeChain d w) e in
        let vs = (state n limit h).values in
        let stored = k.good.filled.stored in
        let as_many : length g.stack ≡ length vs = values_length m.home g.stack vs stored in
        let chain' : List ℕ = in_order d g.stack in
        let values' : List T = in_order d vs in
        let is : numbers (full chain' values') ≡ chain' = numbers_full chain' values' (length_in_order d g.stack ∙ as_many ∙ sym (length_in_order d vs)) in
        let once : (i : ℕ) → times i g.stack ≤ 1 = λ i. let o = k.good.linked.once i in let u = at_most_one i n in omega arith in
        let first_node = front_of m.link m.top.index g.stack NULL (λ z. f.0 (ap (λ (u : Tagged). u.index) (sym hit) ∙ z)) k.good.linked.top_stands in
        let room : length g.stack ≤ n = let r = k.good.told.room in omega arith in
        record {
          slots = full chain' values';
          apart = subst Distinct (sym is) (distinct_times chain' (λ i. let t = times_turned (is_up d) i g.stack in let o = once i in omega arith));
          home = each_home homes chain' values' (has_in_order m.home d g.stack vs stored);
          fits = record {
            chain = g.stack;
            values = vs;
            slots = refl;
            hand = record { low = λ i there. low_of i (omega arith); once = once; few = room; as_many = as_many };
            others = first_node.rest;
            begins = first_node.is ∙ ap (λ (u : Tagged). u.index ∷ first_node.rest) hit;
          };
          are = ap (turned (is_up d)) is ∙ turned_twice (is_up d) g.stack ∙ sym (all_nodes q (TakeChain d w) w k.good e hit);
          to = _;
          replies = refl;
        }

    -- a chain in hand
    chain_goes : (l : Line T) → get_elem? lines q ≡ some l → (zs : List (ℕ × Slot T)) → numbers zs ≡ held l → Goes (board T n limit) words homes zs
    chain_goes l e zs is = record {
      apart = subst Distinct (sym is) (distinct_times (held l) (λ i. held_once l i e));
      low = λ i there. chain_low l e i (subst (λ (xs : List ℕ). Holds xs i) is there);
    }

    needs : (l : Line T) → get_elem? lines q ≡ some l → Needs (board T n limit) words homes l (table (shape n limit) l)
    needs (LoadFree put) e = free_low
    needs (LoadFreeLink put w) e = sane.plain (free_nodes.link w.index)
    needs (TakeFree put w j) e =
        let f = k.good.linked.fine q (TakeFree put w j) e in
        (λ hit. (omega arith, record { slots = (w.index, None) ∷ []; apart = (λ h. h, tt); home = (at_home_is homes w.index None (hold_slot w k.good hit f.1), tt); fits = refl; are = refl; to = _; replies = refl }), tt)
    needs (LinkTaken put) e = (within (first put.chain) (below (LinkTaken put) (first put.chain) e (first_in put.chain (k.good.linked.fine q (LinkTaken put) e).some_node)), tt)
    needs (LinkToTop put w) e = (within (last put.chain) (below (LinkToTop put w) (last put.chain) e (last_in put.chain (k.good.linked.fine q (LinkToTop put w) e).0.some_node)), tt)
    needs (SwapTop put w) e =
        let few = (k.good.linked.fine q (SwapTop put w) e).0.few in
        let as_many : length put.chain ≡ length (reverse (placed put)) = omega (arith, length-reverse (placed put), length-take-le (length put.chain) put.values few) in
        (λ hit. (omega arith, chain_goes (SwapTop put w) e (full put.chain (reverse (placed put))) (numbers_full put.chain (reverse (placed put)) as_many)), tt)
    needs (LoadTopToTake taking) e = top_low
    needs (LoadTopLink w) e = sane.plain (stacked.link w.index)
    needs (TakeTop w j) e =
        let f = k.good.linked.fine q (TakeTop w j) e in (
          λ hit. let v = value_there w j hit f.0 f.2 in
              (omega arith, record { slots = (w.index, Some v.0) ∷ []; apart = (λ h. h, tt); home = (at_home_is homes w.index (Some v.0) v.1, tt); fits = (v.0, refl); are = refl; to = _; replies = refl }),
          tt,
        )
    needs (TakeChain d w) e = (λ hit. (omega arith, whole_comes d w e hit), tt)
    needs (LoadLinkToTurn give above i) e =
        let t = k.good.linked.fine q (LoadLinkToTurn give above i) e in
        (sane.plain (stacked.link i), links_left (LoadLinkToTurn give above i) (reverse t.turned) t.left i e t.is t.downwards t.here)
    needs (TurnLink give above i j) e = (within i (below (TurnLink give above i j) i e (turning_in m.link give.chain above i (k.good.linked.fine q (TurnLink give above i j) e).0)), tt)
    needs (LoadLinkToFold give i) e =
        let t = k.good.linked.fine q (LoadLinkToFold give i) e in
        (sane.plain (stacked.link i), links_left (LoadLinkToFold give i) t.above t.left i e t.is t.stands t.here)
    needs (LinkToFree give w) e = (within (last give.chain) (below (LinkToFree give w) (last give.chain) e (last_in give.chain (k.good.linked.fine q (LinkToFree give w) e).some_node)), tt)
    needs (GiveBack give w) e = (λ hit. (omega arith, chain_goes (GiveBack give w) e (vacant give.chain) (numbers_vacant T give.chain)), tt)
    needs (MarkTop w) e = (λ hit. (omega arith, tt), tt)
    needs (ShutTop w) e = (λ hit. (omega arith, tt), tt)
    needs l e = tt

    pub does : (p : ℕ) (l : Line T) → get_elem? lines q ≡ some l → Does (core T n limit) words homes p l ((core T n limit).access l)
    does p l e = does_all (board T n limit) (rules T n limit) (lies T n) (λ a x small. small) words homes sane p l (needs l e)

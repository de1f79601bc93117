-- What the stack's machine shows of its two lists, and the laws of their host.
use Rattle.std.proofs.Common.{◌≡◌, ℕ, zero, suc, ◌+◌, ◌<◌, ◌≤◌, Bool, true, false, cond, eqb, List, ◌++◌, length, reverse, refl, sym, ap, ◌∙◌, subst, arith}
use Rattle.std.proofs.lemmas.List.{length-reverse, length-take-le}
use Rattle.std.specs.Prelude.{slice_index, Option as Slot}
use mathlib.Core.Option.{Option, some}
use lib.ListN.{get_elem?}
use Rattle.bounded_model.specs.declared.history.Event.{Event}
use Rattle.index_list.specs.Lists.{Leads, Holds}
use Rattle.index_list.specs.Steps.{numbers}
use Rattle.index_list.specs.Host.{Laws}
use Rattle.index_list.proofs.Lists.{leads_one}
use Rattle.machine.specs.Words.{Tagged, times, total}
use Rattle.machine.specs.Words as core
use Rattle.machine.specs.Chains.{first, last, turned}
use Rattle.machine.proofs.Chains.{chain_leads, first_in, last_in}
use Rattle.machine.proofs.Lists.{times_append}
use Rattle.machine.proofs.Sums.{total_one}
use Rattle.stack_machine.specs.declared.lines.Line.{Line}
use Rattle.stack_machine.specs.declared.lines.Line.TheVariants.{Idle, TakeFree, LinkTaken, LinkToTop, SwapTop, TakeTop, TakeChain, TurnLink, LinkToFree, GiveBack}
use Rattle.stack_machine.specs.Machine.{Memory, held, placed, is_up}
use Rattle.stack_machine.specs.Rule.{Lists as BothLists, IsFine, Turns, Kept}
use Rattle.stack_machine.proofs.Moves.{all_nodes}
use Rattle.running.specs.Rule.{Rule}
use Rattle.running.specs.Ties.{IsTie}
use Rattle.running.specs.Lists.{Listed, Hosts, Ready, BroughtBy, ReturnedBy, step_access, front_of, host}
use Rattle.running.proofs.Hosting.{laws}
use Rattle.running.proofs.Slots.{turned_twice, turned_so}
use Rattle.running.proofs.Indexes.{times_holds, leads_low, stands_in, once_below, listed}
use Rattle.stack_table.specs.Layout.{free_at, top_at, link_at, words_for}
use Rattle.index_list.specs.declared.front.Front.{Front}
use Rattle.index_list.specs.declared.front.Front.TheVariants.{First, Last}
use Rattle.stack_table.specs.Core.{core, stack_with}
use Rattle.stack_table.specs.Lines.{direction}
use Rattle.stack_table.specs.Memories.{memory_of}
use Rattle.stack_table.specs.Lists.{lists, list_step}
use Rattle.stack_table.proofs.Slots.{numbers_vacant, numbers_full}
use Rattle.stack_table.proofs.Laws.{lawful, idle_holds, first_empty}

agrees : {T : Type 0} (n limit : ℕ) (line : Line T) → (core T n limit).access line ≡ step_access (lists {T = T}) ((core T n limit).access line) (list_step line)
agrees n limit (Idle a) = refl
agrees n limit l = refl

module _ {T : Type 0} (n limit : ℕ) (words : List ℕ) (homes : List (Option (Slot T))) (of : ℕ → Option ℕ) (lines : List (Line T)) (h : List (Event T)) (k : Kept T n limit (memory_of words homes) of lines h) where
  abbrev m : Memory T
  m = memory_of words homes

  abbrev g : BothLists
  g = k.lists

  in_hand : (q : ℕ) (line : Line T) (i : ℕ) → get_elem? lines q ≡ some line → times i (held line) ≤ total (λ (u : Line T). times i (held u)) lines
  in_hand q line i e = total_one (λ (u : Line T). times i (held u)) lines q line e

  stack_stands : Listed (lists {T = T}) 1 words lines g.stack
  stack_stands = listed lists 1 n words lines g.stack (λ i. times i g.frees) k.good.linked.small k.good.linked.top_stands (λ i. omega (arith, k.good.linked.once i))

  stands : (l : ℕ) → l < 2 → (xs : List ℕ) × Listed (lists {T = T}) l words lines xs
  stands zero low = (g.frees, listed lists 0 n words lines g.frees (λ i. times i g.stack) k.good.linked.small k.good.linked.free_stands k.good.linked.once)
  stands (suc zero) low = (g.stack, stack_stands)
  stands (suc (suc l)) low = absurd (omega arith)

  module _ (q : ℕ) where
    -- a chain in hand that was linked to the seen top
    chain_on : (line : Line T) (chain : List ℕ) (x : ℕ) → get_elem? lines q ≡ some line → held line ≡ chain → 0 < length chain → core.IsChain m.link chain → m.link (last chain) ≡ x → Leads (λ j. slice_index words (link_at j)) (first chain) chain x
    chain_on line chain x at mine some_node chained linked =
        leads_low m.link (first chain) chain x (subst (λ (y : ℕ). core.Leads m.link (first chain) chain y) linked (chain_leads m.link chain some_node chained))
        (λ j has. let low = once_below j n (times j g.frees + times j g.stack + total (λ (u : Line T). times j (held u)) lines) (k.good.linked.once j) (omega (arith, in_hand q line j at, ap (times j) mine)) in omega (arith, k.good.linked.small))

    turned_here : (chain : List ℕ) (above i : ℕ) → Turns m.link chain above i → Holds chain i
    turned_here chain above i t =
        let here = stands_in m.link i t.left t.downwards t.here in
        let both = times_append i (reverse t.turned) t.left in
        let e : times i chain ≡ times i (reverse t.turned ++ t.left) = ap (times i) t.is in
        times_holds chain i (omega arith)

    ready : (line : Line T) → get_elem? lines q ≡ some line → IsFine limit m g line → Ready (lists {T = T}) words line (list_step line)
    ready (TakeFree put w j) at f = λ hit. f.2 (ap (λ (y : Tagged). y.tag) (sym hit))
    ready (LinkTaken put) at f = times_holds put.chain (first put.chain) (first_in put.chain f.some_node)
    ready (LinkToTop put w) at f = times_holds put.chain (last put.chain) (last_in put.chain f.0.some_node)
    ready (SwapTop put w) at f = chain_on (SwapTop put w) put.chain w.index at refl f.0.some_node f.0.chained f.3
    ready (TakeTop w j) at f = λ hit. f.2 (ap (λ (y : Tagged). y.tag) (sym hit))
    ready (TurnLink give above i j) at f = turned_here give.chain above i f.0
    ready (LinkToFree give w) at f = times_holds give.chain (last give.chain) (last_in give.chain f.some_node)
    ready (GiveBack give w) at f = chain_on (GiveBack give w) give.chain w.index at refl f.0.some_node f.0.chained f.1
    ready l at f = tt

    brought : (line : Line T) (zs : List (ℕ × Slot T)) → get_elem? lines q ≡ some line → (core T n limit).Moves m line zs → BroughtBy (lists {T = T}) words zs (list_step line)
    brought (TakeFree put w j) zs at moves = moves
    brought (TakeTop w j) zs at moves = moves
    brought (TakeChain d w) zs at moves = λ hit xs list.
        let are : turned (is_up d) (numbers zs) ≡ xs = moves ∙ all_nodes q (TakeChain d w) w k.good at hit ∙ leads_one m.link m.top.index g.stack xs stack_stands.leads list in
        sym (turned_twice (is_up d) (numbers zs)) ∙ ap (turned (is_up d)) are ∙ turned_so (is_up d) xs
    brought l zs at moves = tt

    returned : (line : Line T) (zs : List (ℕ × Slot T)) → IsFine limit m g line → (core T n limit).Fits line zs → ReturnedBy (lists {T = T}) line zs (list_step line)
    returned (SwapTop put w) zs f fits =
        let few = f.0.few in
        ap (λ (ys : List (ℕ × Slot T)). numbers ys) fits ∙ numbers_full put.chain (reverse (placed put)) (omega (arith, length-reverse (placed put), length-take-le (length put.chain) put.values few))
    returned (GiveBack give w) zs f fits = ap (λ (ys : List (ℕ × Slot T)). numbers ys) fits ∙ numbers_vacant T give.chain
    returned l zs f fits = tt

top_low : (first_list : Bool) (n : ℕ) → cond first_list free_at top_at < words_for n
top_low true n = omega arith
top_low false n = omega arith

link_off : (first_list : Bool) (i : ℕ) → link_at i ≡ cond first_list free_at top_at → ⊥
link_off true i e = omega arith
link_off false i e = omega arith

hosts : (T : Type 0) (n limit : ℕ) (rule : List (Event T) → Type 0) → Hosts (stack_with T n limit rule) (lists {T = T}) 2
hosts T n limit rule = record {
  idle = λ l line e. idle_holds line e;
  first = λ l o rest. (first_empty o).none_held;
  apart = λ l i low e. link_off (eqb l 0) i e;
  placed = λ l words homes low sane. let t = top_low (eqb l 0) n in let w = sane.words_are in omega arith;
  access = agrees n limit;
  stands = λ l words homes of lines h low sane k. stands n limit words homes of lines h k l low;
  ready = λ words homes of lines h q line sane k at. ready n limit words homes of lines h k q line at (k.good.linked.fine q line at);
  brought = λ words homes of lines h q line zs k at moves. brought n limit words homes of lines h k q line zs at moves;
  returned = λ words homes of lines h q line zs k at fits. returned n limit words homes of lines h k q line zs (k.good.linked.fine q line at) fits;
}

pub list_laws : (T : Type 0) (n limit : ℕ) (rule : List (Event T) → Type 0) → IsTie rule → Laws (lists {T = T}).layout (host (stack_with T n limit rule) (lists {T = T})) (Rule (stack_with T n limit rule)) 2
list_laws T n limit rule tie = laws (lawful n limit rule tie) (lists {T = T}) 2 (hosts T n limit rule)

pub front_is : (front : Front) → front_of (is_up (direction front)) ≡ front
front_is First = refl
front_is Last = refl

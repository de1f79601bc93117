-- What the queue's machine shows of its two lists, and the laws of their host.
use Rattle.std.proofs.Common.{◌≡◌, ℕ, zero, suc, ◌+◌, ◌<◌, Bool, true, false, cond, eqb, List, [], refl, sym, ap, inl, arith}
use Rattle.std.specs.Prelude.{Option as Slot}
use mathlib.Core.Option.{Option}
use Rattle.bounded_model.specs.declared.history.Event.{Event}
use Rattle.index_list.specs.Steps.{numbers}
use Rattle.index_list.specs.Host.{Laws}
use Rattle.machine.specs.Words.{Tagged, times}
use Rattle.queue_machine.specs.declared.lines.Line.{Line}
use Rattle.queue_machine.specs.declared.lines.Line.TheVariants.{Idle, TakeCell, TakeNode, LinkToNodes, GiveNode, LinkToCells, GiveCell}
use Rattle.queue_machine.specs.Machine.{Memory, held_cells, held_nodes}
use Rattle.queue_machine.specs.Rule.{Lists as CoreLists, IsFine, Kept}
use Rattle.running.specs.Rule.{Rule}
use Rattle.running.specs.Ties.{IsTie}
use Rattle.running.specs.Lists.{Listed, Hosts, Ready, BroughtBy, ReturnedBy, step_access, host}
use Rattle.running.proofs.Hosting.{laws}
use Rattle.running.proofs.Indexes.{listed}
use Rattle.queue_table.specs.Layout.{cells_at, nodes_at, clink_at, nlink_at, words_for}
use Rattle.queue_table.specs.Core.{core, queue_with}
use Rattle.queue_table.specs.Memories.{memory_of}
use Rattle.queue_table.specs.Lists.{lists, list_step}
use Rattle.queue_table.proofs.Laws.{lawful, idle_empty, first_empty}

agrees : {T : Type 0} (n limit : ℕ) (line : Line T) → (core T n limit).access line ≡ step_access (lists {T = T}) ((core T n limit).access line) (list_step line)
agrees n limit (Idle a) = refl
agrees n limit l = refl

module _ {T : Type 0} (n limit : ℕ) (words : List ℕ) (homes : List (Option (Slot T))) (of : ℕ → Option ℕ) (lines : List (Line T)) (h : List (Event T)) (k : Kept T n limit (memory_of words homes) of lines h) where
  abbrev m : Memory T
  m = memory_of words homes

  abbrev g : CoreLists
  g = k.lists

  stands : (l : ℕ) → l < 2 → (xs : List ℕ) × Listed (lists {T = T}) l words lines xs
  stands zero low = (g.cells, listed lists 0 n words lines g.cells (λ i. times i g.queued) (omega (arith, k.good.linked.small)) k.good.linked.cells_stand k.good.linked.cells_once)
  stands (suc zero) low = (g.nodes, listed lists 1 (n + 1) words lines g.nodes (λ j. times j g.chain) (omega (arith, k.good.linked.small)) k.good.linked.nodes_stand k.good.linked.nodes_once)
  stands (suc (suc l)) low = absurd (omega arith)

  ready : (line : Line T) → IsFine limit m g line → Ready (lists {T = T}) words line (list_step line)
  ready (TakeCell v w j) f = λ hit. f.1 (ap (λ (y : Tagged). y.tag) (sym hit))
  ready (TakeNode put w j) f = λ hit. f.1 (ap (λ (y : Tagged). y.tag) (sym hit))
  ready (LinkToNodes give w) f = inl refl
  ready (GiveNode give w) f = (inl refl, f)
  ready (LinkToCells give w) f = inl refl
  ready (GiveCell give w) f = (inl refl, f)
  ready l f = tt

brought : {T : Type 0} (n limit : ℕ) (words : List ℕ) (homes : List (Option (Slot T))) (line : Line T) (zs : List (ℕ × Slot T)) → (core T n limit).Moves (memory_of words homes) line zs → BroughtBy (lists {T = T}) words zs (list_step line)
brought n limit words homes (TakeCell v w j) zs moves = moves
brought n limit words homes l zs moves = tt

returned : {T : Type 0} (n limit : ℕ) (line : Line T) (zs : List (ℕ × Slot T)) → (core T n limit).Fits line zs → ReturnedBy (lists {T = T}) line zs (list_step line)
returned n limit (GiveCell give w) zs fits = ap (λ (ys : List (ℕ × Slot _)). numbers ys) fits
returned n limit l zs fits = tt

top_low : (first_list : Bool) (n : ℕ) → cond first_list cells_at nodes_at < words_for n
top_low true n = omega arith
top_low false n = omega arith

link_off : (first_list : Bool) (i : ℕ) → cond first_list (clink_at i) (nlink_at i) ≡ cond first_list cells_at nodes_at → ⊥
link_off true i e = omega arith
link_off false i e = omega arith

both_empty : (first_list : Bool) (xs ys : List ℕ) → xs ≡ [] → ys ≡ [] → cond first_list xs ys ≡ []
both_empty true xs ys a b = a
both_empty false xs ys a b = b

hosts : (T : Type 0) (n limit : ℕ) (rule : List (Event T) → Type 0) → Hosts (queue_with T n limit rule) (lists {T = T}) 2
hosts T n limit rule = record {
  idle = λ l line e. both_empty (eqb l 0) (held_cells line) (held_nodes line) (idle_empty line e).cells (idle_empty line e).nodes;
  first = λ l o rest. both_empty (eqb l 0) _ _ (first_empty o).cells (first_empty o).nodes;
  apart = λ l i low e. link_off (eqb l 0) i e;
  placed = λ l words homes low sane. let t = top_low (eqb l 0) n in let w = sane.words_are in omega arith;
  access = agrees n limit;
  stands = λ l words homes of lines h low sane k. stands n limit words homes of lines h k l low;
  ready = λ words homes of lines h q line sane k at. ready n limit words homes of lines h k line (k.good.linked.fine q line at);
  brought = λ words homes of lines h q line zs k at moves. brought n limit words homes line zs moves;
  returned = λ words homes of lines h q line zs k at fits. returned n limit line zs fits;
}

pub list_laws : (T : Type 0) (n limit : ℕ) (rule : List (Event T) → Type 0) → IsTie rule → Laws (lists {T = T}).layout (host (queue_with T n limit rule) (lists {T = T})) (Rule (queue_with T n limit rule)) 2
list_laws T n limit rule tie = laws (lawful n limit rule tie) (lists {T = T}) 2 (hosts T n limit rule)

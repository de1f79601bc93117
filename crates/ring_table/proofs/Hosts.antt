-- A ring as a host of no lists.
use Rattle.std.proofs.Common.{ℕ, ◌<◌, List, refl, arith}
use Rattle.bounded_model.specs.declared.history.Event.{Event}
use Rattle.index_list.specs.Host.{Laws}
use Rattle.running.specs.Lists.{Hosts, host}
use Rattle.running.specs.Rule.{Rule}
use Rattle.running.specs.Ties.{IsTie}
use Rattle.running.proofs.Hosting.{laws}
use Rattle.ring_table.specs.Lists.{lists}
use Rattle.ring_table.specs.Core.{ring_with}
use Rattle.ring_table.proofs.Laws.{lawful}

no_list : {A : Type 0} (l : ℕ) → l < 0 → A
no_list l low = absurd (omega (arith, low))

hosts : (T : Type 0) (n laps passes : ℕ) (rule : List (Event T) → Type 0) → Hosts (ring_with T n laps passes rule) (lists {T = T}) 0
hosts T n laps passes rule = record {
  idle = λ l line e. refl;
  first = λ l o rest. refl;
  apart = λ l i low. no_list l low;
  placed = λ l words homes low. no_list l low;
  access = λ line. refl;
  stands = λ l words homes of lines h low. no_list l low;
  ready = λ words homes of lines h q line sane good at. tt;
  brought = λ words homes of lines h q line zs good at moves. tt;
  returned = λ words homes of lines h q line zs good at fits. tt;
}

pub list_laws : (T : Type 0) (n laps passes : ℕ) (rule : List (Event T) → Type 0) → IsTie rule → Laws (lists {T = T}).layout (host (ring_with T n laps passes rule) (lists {T = T})) (Rule (ring_with T n laps passes rule)) 0
list_laws T n laps passes rule tie = laws (lawful n laps passes rule tie) (lists {T = T}) 0 (hosts T n laps passes rule)

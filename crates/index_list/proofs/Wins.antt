-- A won exchange that moves slots, from what the rule's law says of it.
use Rattle.std.proofs.Common.{◌≡◌, ℕ, List, ◌++◌, sym, ap, ◌∙◌, subst}
use mathlib.Core.Option.{Option}
use Rattle.atomic_table.specs.Table.{State, Me, Valid, homes_after, carried_after}
use Rattle.index_list.specs.Lists.{Distinct}
use Rattle.index_list.specs.Steps.{Each, IsHome, numbers, emptied, filled, changed, Goes}
use Rattle.index_list.proofs.Acts.{take_each, give_each, take_each-carried, take_each-homes, take_each-valid, give_each-carried, give_each-homes, give_each-valid}
use Rattle.index_list.proofs.Allowed.{Wins}

-- Slots leave the homes, or come back, with an exchange.
module _ {S V : Type 0} (holds : State S V → Type 0) (at m id : ℕ) (won : Me S V → Type 0) (s : State S V) where
  pub take_slots : (me : Me S V) (zs : List (ℕ × S)) (did : V → Type 0) → Distinct (numbers zs) → Each (IsHome s.homes) zs
      → (g : Goes holds (changed s at m (emptied s.homes zs) id) did) → won (g.view, zs ++ me.1) → Wins holds at m id me won s
  take_slots me zs did distinct home g w = record {
    view = g.view;
    act = take_each zs;
    valid = take_each-valid s.homes zs me.1 distinct home;
    rule = subst (λ (homes : List (Option S)). holds (changed s at m homes id g.view)) (sym (take_each-homes s.homes zs me.1)) g.rule;
    told = subst (λ (c : List (ℕ × S)). won (g.view, c)) (sym (take_each-carried zs me.1)) w;
  }

  pub give_slots : (me : Me S V) (zs others : List (ℕ × S)) (did : V → Type 0) → me.1 ≡ zs ++ others
      → (g : Goes holds (changed s at m (filled s.homes zs) id) did) → won (g.view, others) → Wins holds at m id me won s
  give_slots me zs others did e g w = record {
    view = g.view;
    act = give_each zs;
    valid = subst (λ (c : List (ℕ × S)). Valid s.homes c (give_each zs)) (sym e) (give_each-valid s.homes zs others);
    rule = subst (λ (homes : List (Option S)). holds (changed s at m homes id g.view)) (sym (ap (λ (c : List (ℕ × S)). homes_after s.homes c (give_each zs)) e ∙ give_each-homes s.homes zs others)) g.rule;
    told = subst (λ (c : List (ℕ × S)). won (g.view, c)) (sym (ap (λ (c : List (ℕ × S)). carried_after c (give_each zs)) e ∙ give_each-carried zs others)) w;
  }

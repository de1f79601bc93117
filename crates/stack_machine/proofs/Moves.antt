-- Each kind of step of the stack keeps what holds between any two steps, from any state where it
-- holds. Running code cites these.
use Rattle.std.proofs.Common.{◌≡◌, ◌≢◌, ℕ, ◌+◌, ◌<◌, ◌≤◌, false, List, [], ◌∷◌, ◌++◌, length, reverse, set, refl, sym, ap, ◌∙◌, subst, arith}
use Rattle.std.proofs.lemmas.List.{length-reverse, append-nil}
use Rattle.std.specs.Prelude.{Some, None}
use mathlib.Core.Option.{Option, some}
use lib.ListN.{get_elem?}
use Rattle.tagged_index.specs.declared.word.TheConstants.{NULL}
use Rattle.bounded_model.specs.declared.history.Event.{Event}
use Rattle.bounded_model.specs.declared.history.Event.TheVariants.{Hold, Put, Take, TakeAll, Free, Close, Shut}
use Rattle.bounded_model.specs.Machine.{without_first}
use Rattle.machine.specs.Words.{Tagged, marked, with_second, times, Stands}
use Rattle.machine.specs.OneList.{ReadTop, ReadLink}
use Rattle.stack_machine.specs.declared.lines.Line.{Line}
use Rattle.stack_machine.specs.Machine.{Memory, held, after_hold, after_give, after_put_of, after_take, after_take_all, after_close, after_shut, after_store}
use Rattle.machine.specs.Chains.{first, last, chain_from, values_in, HasValues}
use Rattle.stack_machine.specs.Answers.{state}
pub use Rattle.stack_machine.specs.Rule.{Kept}
use Rattle.stack_machine.specs.Rule.{Lists, Gives, IsFine, Filled, putting, Good}
use Rattle.machine.proofs.Tests.{not_below}
use Rattle.machine.proofs.Sums.{total_one}
use Rattle.machine.proofs.Lists.{times_here, leads_from}
use Rattle.machine.proofs.OneList.{ready, front_of}
use Rattle.machine.proofs.Chains.{first_value, chain_from-is, values_in-is}
use Rattle.stack_machine.proofs.Linked.{held_once, goes_linked, store_linked, hold_linked, give_linked, put_linked, take_linked, mark_linked}
use Rattle.stack_machine.proofs.Filled.{same_filled, hold_filled, give_filled, put_filled, take_filled, take_all_filled}
use Rattle.stack_machine.proofs.Told.{goes_told, hold_told, give_told, put_told, take_told, take_all_told, close_told, shut_told}

-- a won take: the value that was on top, which is taken
pub record Took (T : Type 0) (n limit : ℕ) (m : Memory T) (who : ℕ → Option ℕ) (lines : List (Line T)) (history : List (Event T)) (q p : ℕ) (w : Tagged) (k : ℕ) (to : T → Line T) : Type 0 where
  pub value : T
  pub here : m.home w.index ≡ some (Some value)
  pub lists : Lists
  pub good : Good T n limit (after_take m w k) lists who (set lines q (to value)) (Take p value w.tag ∷ history)

module _ {T : Type 0} {n limit : ℕ} {m : Memory T} {g : Lists} {who : ℕ → Option ℕ} {lines : List (Line T)} {history : List (Event T)} where
  -- a step that changes no word
  pub good_goes : (q : ℕ) (l l' : Line T) → Good T n limit m g who lines history → get_elem? lines q ≡ some l → ((i : ℕ) → times i (held l') ≡ times i (held l)) → length (held l') ≡ length (held l) → length (putting l') ≤ length (putting l)
      → IsFine limit m g l' → Good T n limit m g who (set lines q l') history
  good_goes q l l' x e same long fewer f = record {
    linked = goes_linked q l l' x.linked e same f;
    filled = x.filled;
    told = goes_told q l l' e long fewer x.told;
  }

  -- a store into the link of a held node
  pub good_store : (q i at : ℕ) (l l' : Line T) → Good T n limit m g who lines history → get_elem? lines q ≡ some l → 0 < times i (held l) → ((j : ℕ) → times j (held l') ≡ times j (held l)) → length (held l') ≡ length (held l) → length (putting l') ≤ length (putting l)
      → IsFine limit (after_store m i at) g l' → Good T n limit (after_store m i at) g who (set lines q l') history
  good_store q i at l l' x e mine same long fewer f = record {
    linked = store_linked q i at l l' x.linked e mine same f;
    filled = same_filled (after_store m i at) refl x.filled;
    told = goes_told q l l' e long fewer x.told;
  }

  -- a node is taken from the free list
  pub good_hold : (q p : ℕ) (l l' : Line T) (w : Tagged) (k : ℕ) → Good T n limit m g who lines history → get_elem? lines q ≡ some l → who q ≡ some p → m.free ≡ w → ReadTop limit m.free g.frees w → ReadLink m.free m.link w k
      → held l' ≡ w.index ∷ held l → length (putting l') ≤ length (putting l) + 1
      → ((rest : List ℕ) → IsFine limit (after_hold m w k) (record { frees = rest; stack = g.stack }) l')
      → Kept T n limit (after_hold m w k) who (set lines q l') (Hold p ∷ history)
  good_hold q p l l' w k x e of won read at mine fewer f =
      let r = ready limit m.free m.link g.frees w k x.linked.free_stands won read at in
      let once = held_once q w.index l x.linked e in
      let here : times w.index g.frees ≡ 1 + times w.index r.rest = ap (times w.index) r.is ∙ times_here w.index r.rest in
      let long : length (held l') ≡ length (held l) + 1 = omega (arith, ap length mine) in
      record {
        lists = record { frees = r.rest; stack = g.stack };
        good = record {
          linked = hold_linked q l l' w k r.rest (after_hold m w k) x.linked e won r.is r.stands (λ i. ap (times i) mine) refl refl refl (f r.rest);
          filled = hold_filled (after_hold m w k) w.index r.rest refl r.is (omega arith) (omega arith) x.filled;
          told = hold_told q p l l' w k r.rest e of won read.below r.is long fewer x.told;
        };
      }

  -- the slot of the node that is taken is empty and at home
  pub hold_slot : (w : Tagged) → Good T n limit m g who lines history → m.free ≡ w → ReadTop limit m.free g.frees w → m.home w.index ≡ some None
  hold_slot w x won read = x.filled.empty w.index (read.there (ap (λ (y : Tagged). y.tag) (sym won)))

  -- a chain is given back
  pub good_give : (q p : ℕ) (l l' : Line T) (w : Tagged) (chain : List ℕ) → Good T n limit m g who lines history → get_elem? lines q ≡ some l → who q ≡ some p → m.free ≡ w → Gives m.link chain → m.link (last chain) ≡ w.index
      → held l ≡ chain → held l' ≡ [] → putting l' ≡ []
      → IsFine limit (after_give m w chain) (record { frees = chain ++ g.frees; stack = g.stack }) l'
      → Good T n limit (after_give m w chain) (record { frees = chain ++ g.frees; stack = g.stack }) who (set lines q l') (Free p (length chain) ∷ history)
  good_give q p l l' w chain x e of won gives own mine mine' no_put f =
      record {
        linked = give_linked q l l' w chain (after_give m w chain) x.linked e won gives own (λ i. ap (times i) mine) mine' refl refl refl f;
        filled = give_filled (after_give m w chain) chain refl (λ j. omega (arith, held_once q j l x.linked e, ap (times j) mine)) x.filled;
        told = give_told q p l l' w chain (first chain) e of won gives.some_node (ap length mine) (ap length mine') (omega (arith, ap length no_put)) x.told;
      }

  -- A chain is put on top, its slots with these values in them. They are any values, as many as the
  -- chain has nodes: what a seat carries in its slots is no part of its line
  pub good_put : (q p : ℕ) (l l' : Line T) (w : Tagged) (chain : List ℕ) (vs : List T) → Good T n limit m g who lines history → get_elem? lines q ≡ some l → who q ≡ some p → m.top ≡ w → w.mark ≡ false → w.tag < limit
      → Gives m.link chain → m.link (last chain) ≡ w.index → length vs ≡ length chain → held l ≡ chain → putting l ≡ chain → held l' ≡ [] → putting l' ≡ []
      → IsFine limit (after_put_of m w chain vs) (record { frees = g.frees; stack = chain ++ g.stack }) l'
      → Good T n limit (after_put_of m w chain vs) (record { frees = g.frees; stack = chain ++ g.stack }) who (set lines q l') (Put p vs w.tag ∷ history)
  good_put q p l l' w chain vs x e of won unmarked below gives own long mine mine_put mine' no_put f =
      let values : length chain ≡ length (reverse vs) = sym (length-reverse vs ∙ long) in
      record {
        linked = put_linked q l l' w chain (after_put_of m w chain vs) x.linked e won gives own (λ i. ap (times i) mine) mine' refl refl refl f;
        filled = put_filled (after_put_of m w chain vs) chain (reverse vs) refl values (λ j. omega (arith, held_once q j l x.linked e, ap (times j) mine)) x.filled;
        told = put_told q p l l' w chain vs (first chain) e of won unmarked below gives.some_node long (ap length mine) (ap length mine_put) (ap length mine') (ap length no_put) x.told;
      }

  -- the node on top is taken
  pub good_take : (q p : ℕ) (l : Line T) (to : T → Line T) (w : Tagged) (k : ℕ) → Good T n limit m g who lines history → get_elem? lines q ≡ some l → who q ≡ some p → m.top ≡ w → w.second ≡ false → ReadTop limit m.top g.stack w → ReadLink m.top m.link w k
      → held l ≡ [] → ((v : T) → held (to v) ≡ w.index ∷ []) → ((v : T) → putting (to v) ≡ [])
      → ((v : T) (rest : List ℕ) → IsFine limit (after_take m w k) (record { frees = g.frees; stack = rest }) (to v))
      → Took T n limit m who lines history q p w k to
  good_take q p l to w k x e of won unshut read at mine mine' no_put f =
      let r = ready limit m.top m.link g.stack w k x.linked.top_stands won read at in
      let once = held_once q w.index l x.linked e in
      let here : times w.index g.stack ≡ 1 + times w.index r.rest = ap (times w.index) r.is ∙ times_here w.index r.rest in
      let values = (state n limit history).values in
      let y = first_value m.home w.index r.rest values (subst (λ (is : List ℕ). HasValues m.home is values) r.is x.filled.stored) in
      record {
        value = y.value;
        here = y.here;
        lists = record { frees = g.frees; stack = r.rest };
        good = record {
          linked = take_linked q l (to y.value) w k (w.index ∷ []) r.rest (after_take m w k) x.linked e won r.is r.stands mine (λ i. ap (times i) (mine' y.value)) refl refl refl (f y.value r.rest);
          filled = subst (λ (vs : List T). Filled T (after_take m w k) (record { frees = g.frees; stack = r.rest }) (without_first vs)) (sym y.is)
              (take_filled (after_take m w k) w.index r.rest y.left refl (omega arith) (omega arith) y.stored x.filled);
          told = take_told q p l (to y.value) w k r.rest y.value y.left e of won unshut read.below r.is y.is (ap length mine) (ap length (mine' y.value)) (omega (arith, ap length (no_put y.value))) x.told;
        };
      }

  -- null is no node
  pub no_null : (q : ℕ) (l : Line T) → Good T n limit m g who lines history → get_elem? lines q ≡ some l → times NULL g.stack + times NULL (held l) ≡ 0
  no_null q l x e = omega (arith, x.linked.once NULL, total_one (λ u. times NULL (held u)) lines q l e, not_below NULL n x.linked.small)

  -- the chain that a fold takes is the whole stack, and it has the history's values
  pub all_nodes : (q : ℕ) (l : Line T) (w : Tagged) → Good T n limit m g who lines history → get_elem? lines q ≡ some l → m.top ≡ w → chain_from n m.link w.index ≡ g.stack
  all_nodes q l w x e won = chain_from-is m.link n w.index g.stack (omega (arith, x.told.room)) (omega (arith, no_null q l x e)) (leads_from m.link m.top.index w.index g.stack NULL (ap (λ (y : Tagged). y.index) won) x.linked.top_stands)

  pub all_values : Good T n limit m g who lines history → values_in m.home g.stack ≡ (state n limit history).values
  all_values x = values_in-is m.home g.stack (state n limit history).values x.filled.stored

  -- the whole stack is taken
  pub good_take_all : (q p : ℕ) (l l' : Line T) (w : Tagged) → Good T n limit m g who lines history → get_elem? lines q ≡ some l → who q ≡ some p → m.top ≡ w → w.second ≡ false → w.tag < limit → w.index ≢ NULL
      → held l ≡ [] → held l' ≡ g.stack → putting l' ≡ []
      → IsFine limit (after_take_all m w g.stack) (record { frees = g.frees; stack = [] }) l'
      → Good T n limit (after_take_all m w g.stack) (record { frees = g.frees; stack = [] }) who (set lines q l') (TakeAll p (state n limit history).values w.tag ∷ history)
  good_take_all q p l l' w x e of won unshut below node mine mine' no_put f =
      let stands : Stands m.link w.index g.stack = leads_from m.link m.top.index w.index g.stack NULL (ap (λ (y : Tagged). y.index) won) x.linked.top_stands in
      let front = front_of m.link w.index g.stack NULL node stands in
      record {
        linked = take_linked q l l' w NULL g.stack [] (after_take_all m w g.stack) x.linked e won (sym (append-nil g.stack)) refl mine (λ i. ap (times i) mine') refl refl refl f;
        filled = take_all_filled (after_take_all m w g.stack) g.stack refl (λ j. omega (arith, held_once q j l x.linked e)) x.filled;
        told = take_all_told q p l l' w NULL e of won unshut below (omega (arith, ap length front.is)) (ap length mine) (ap length mine') (omega (arith, ap length no_put)) x.told;
      }

  -- the mark is set
  pub good_close : (q p : ℕ) (l l' : Line T) (w : Tagged) → Good T n limit m g who lines history → get_elem? lines q ≡ some l → who q ≡ some p → m.top ≡ w → w.mark ≡ false → held l ≡ [] → held l' ≡ [] → putting l' ≡ []
      → IsFine limit (after_close m w) g l' → Good T n limit (after_close m w) g who (set lines q l') (Close p ∷ history)
  good_close q p l l' w x e of won unmarked mine mine' no_put f = record {
    linked = mark_linked q l l' (marked w) x.linked e (ap (λ (y : Tagged). y.index) (sym won)) (ap (λ (y : Tagged). y.tag) (sym won)) mine mine' f;
    filled = same_filled (after_close m w) refl x.filled;
    told = close_told q p l l' w e of won unmarked (ap length mine' ∙ sym (ap length mine)) (omega (arith, ap length no_put)) x.told;
  }

  -- the second mark is set
  pub good_shut : (q p : ℕ) (l l' : Line T) (w : Tagged) → Good T n limit m g who lines history → get_elem? lines q ≡ some l → who q ≡ some p → m.top ≡ w → w.second ≡ false → held l ≡ [] → held l' ≡ [] → putting l' ≡ []
      → IsFine limit (after_shut m w) g l' → Good T n limit (after_shut m w) g who (set lines q l') (Shut p ∷ history)
  good_shut q p l l' w x e of won unshut mine mine' no_put f = record {
    linked = mark_linked q l l' (with_second w) x.linked e (ap (λ (y : Tagged). y.index) (sym won)) (ap (λ (y : Tagged). y.tag) (sym won)) mine mine' f;
    filled = same_filled (after_shut m w) refl x.filled;
    told = shut_told q p l l' w e of won unshut (ap length mine' ∙ sym (ap length mine)) (omega (arith, ap length no_put)) x.told;
  }

-- A range takes a node for its next value.
use Rattle.std.proofs.lemmas.Bool.Decides.{nat_tests}
use Rattle.std.proofs.Common.{◌≡◌, ◌≢◌, ℕ, zero, suc, ◌+◌, ◌<◌, ◌≤◌, ◌⊎◌, inl, inr, Bool, cond, ltb, List, [], ◌∷◌, ◌++◌, length, reverse, take, refl, sym, ap, ◌∙◌, subst, arith}
use Rattle.std.specs.Prelude.{Option as Slot, Some, None, IfSome, MatchOption}
use mathlib.Core.Option.{some}
use Rattle.machine.proofs.Lists.{times_else}
use Rattle.machine.proofs.Sums.{total_one}
use Rattle.machine.proofs.Tests.{same_or_not, is_true, is_false}
use Rattle.stack_machine.specs.Machine.{held}
use Rattle.running.specs.Going.{Found, Owes}
use Rattle.running.specs.Ties.{IsTie, PutAllDeals}
use Rattle.index_list.specs.Kinds.{write_link}
use Rattle.running.proofs.Ways.{goes_on, started}
use Rattle.stack_table.specs.Effects.{effect_of}
use Rattle.stack_table.proofs.Laws.{lawful}
use Rattle.treiber_stack.specs.Prelude.{AtStep, Call, Event, Line, LinkTaken, LoadFreeLine as LoadFree, LoadTop, NULL, Operation, Pass, PassView}
use Rattle.treiber_stack.specs.Prelude.{Putting, View, first, first_in, full, last, lists, next_node, none_of, pass_in, pass_of, rest, starts, times}
use Rattle.treiber_stack.specs.declared.code.giving.Chain.{Chain}
use Rattle.treiber_stack.specs.declared.bulk.range_steps.Held.{Held}
use Rattle.treiber_stack.specs.declared.bulk.range_steps.RangeAt.TheVariants.{LoadFree as AtFree, Load as AtTop}
use Rattle.treiber_stack.specs.Calls.{IsRange, StackWith, limit_of, room_of, machine_with, begun_with, shape_of}
use Rattle.treiber_stack.specs.code.Ranging.{putting, loaded, linking, HasTaken, IsFilling, IsNext, IsRangeAtWith}
use Rattle.treiber_stack.specs.code.Steps.{IsAtWith, IsSeatWith}
use Rattle.treiber_stack.proofs.Gives.{moved, ready_step}
use Rattle.treiber_stack.proofs.Loading.{next_value, loaded_more, same_some}
use Rattle.treiber_stack.proofs.RangeSteps.{linking_busy, are_nodes}

-- a chain that is not empty
parts_of : (chain : List ℕ) → 0 < length chain → (x : ℕ) × (xs : List ℕ) × (chain ≡ x ∷ xs)
parts_of [] h = absurd (omega arith)
parts_of (x ∷ xs) h = (x, xs, refl)

module _ {T : Type 0} where
  pub some_in : (o : Operation T) (vs : List T) → IsRange o vs → 0 < length vs
  some_in o [] is = absurd is
  some_in o (v ∷ vs) is = omega arith

  next_more : (put : Putting T) → length put.chain < length put.values → next_node put ≡ LoadFree put
  next_more put h = ap (λ (b : Bool). cond b (LoadFree put) (LoadTop put)) (is_true (ltb (length put.chain) (length put.values)) (λ e. grind (arith, nat_tests)))

  next_all : (put : Putting T) → length put.values ≤ length put.chain → next_node put ≡ LoadTop put
  next_all put h = ap (λ (b : Bool). cond b (LoadFree put) (LoadTop put)) (is_false (ltb (length put.chain) (length put.values)) (λ e. grind (arith, nat_tests)))

-- a put of a range owes what its values owe
pub range_owes : {T : Type 0} (rule : List (Event T) → Type 0) {D : Type 0} (c : StackWith T D) (p : PassView T) (vs : List T) → PutAllDeals (shape_of c) rule p vs → (put : Slot (Operation T)) → MatchOption put (vs ≡ []) (λ o. IsRange o vs) → IfSome put (λ o. Owes (machine_with rule c) o p)
range_owes rule c p vs deal None is = tt
range_owes {T} rule c p vs deal (Some o) is = owes_by vs is deal
  where
    owes_by : (vs : List T) → IsRange o vs → PutAllDeals (shape_of c) rule p vs → Owes (machine_with rule c) o p
    owes_by [] is deal = absurd is
    owes_by (v ∷ vs) is deal = λ h e effect. deal h e (subst (λ (k : Call T). effect_of k p.number e) is effect)

module _ {T : Type 0} (rule : List (Event T) → Type 0) (tie : IsTie rule) {D : Type 0} (c : StackWith T D) (o : Operation T) where
  -- a range that begins has no node yet
  pub fill_start : (vs : List T) (p : Pass T (Line T)) (nodes : Chain) → nodes ≡ record { first = NULL; last = NULL } → IsRange o vs → IsSeatWith rule c p → Owes (machine_with rule c) o (pass_in p) → IsFilling rule c o p vs (record { chain = nodes; count = 0 })
  fill_start [] p nodes e is of owes = absurd is
  fill_start (v ∷ vs) p nodes e is of owes = record {
    chain = [];
    has = record {
      counted = refl;
      few = omega arith;
      low = λ i there. absurd (omega arith);
      begins = sym (ap (λ (x : Chain). x.first) e);
      ends = sym (ap (λ (x : Chain). x.last) e);
    };
    at = subst (λ (l : Line T). IsAtWith rule c o p l []) (ap starts is ∙ sym (next_more (putting (v ∷ vs) []) (omega arith))) (started (lawful (room_of c) (limit_of c) rule tie) c.table.shared.table_id o p of owes);
  }

module _ {T : Type 0} (rule : List (Event T) → Type 0) {D : Type 0} (c : StackWith T D) (o : Operation T) (vs : List T) where
  module _ (p : Pass T (Line T)) (held' : Held) where
    module _ (f : IsFilling rule c o p vs held') where
      -- it wants a node for the next value
      pub wants_node : held'.count < length vs → IsRangeAtWith rule c o p (putting vs f.chain) held' AtFree
      wants_node low = record {
        line = subst (λ (l : Line T). IsAtWith rule c o p l (loaded (putting vs f.chain))) (next_more (putting vs f.chain) (let e = f.has.counted in omega arith)) f.at;
        read = f.has;
      }

      -- all values have nodes
      pub wants_top : 0 < held'.count → length vs ≤ held'.count → IsRangeAtWith rule c o p (putting vs f.chain) held' AtTop
      wants_top some_node high = record {
        line = subst (λ (l : Line T). IsAtWith rule c o p l (loaded (putting vs f.chain))) (next_all (putting vs f.chain) (let e = f.has.counted in omega arith)) f.at;
        read = (some_node, are_nodes c vs f.chain held' f.has some_node);
      }

    -- a node came, and the value moved in
    module _ (i : ℕ) (h : HasTaken rule c o p vs held' i) (value : T) (is_next : IsNext vs held'.count value) where
      low : held'.count < length vs
      low = is_next.0

      abbrev after : Putting T
      after = putting vs (i ∷ h.chain)

      -- the values with nodes are one more
      one_more : take (held'.count + 1) vs ≡ take held'.count vs ++ value ∷ []
      one_more = let next = next_value vs held'.count low in next.1 ∙ ap (λ (z : T). take held'.count vs ++ z ∷ []) (same_some next.0 value (sym next.3 ∙ is_next.1))

      module _ (r : Pass T (Line T)) (table : r.seat.table_id ≡ p.seat.table_id) (me : r.seat.me ≡ (p.seat.me.0, (i, Some value) ∷ rest p.seat.me.1)) where
        slots : (i, Some value) ∷ rest p.seat.me.1 ≡ loaded after
        slots =
            let e : held'.count ≡ length h.chain = sym h.has.counted in
            let one : length h.chain + 1 ≡ suc (length h.chain) = omega arith in
            ap (λ (zs : List (ℕ × Slot T)). (i, Some value) ∷ rest zs) h.takes.at.at.has
            ∙ loaded_more i h.chain (length h.chain) vs value (subst (λ (k : ℕ). take (k + 1) vs ≡ take k vs ++ value ∷ []) e one_more)
            ∙ ap (λ (k : ℕ). full (i ∷ h.chain) (reverse (take k vs))) one

        filled : IsAtWith rule c o r (linking h.chain after) (loaded after) × (begun_with rule c r ≡ begun_with rule c p)
        filled = moved rule c o p r (linking h.chain after) ((i, None) ∷ loaded (putting vs h.chain)) (loaded after) h.takes.at table (me ∙ ap (λ (zs : List (ℕ × Slot T)). (p.seat.me.0, zs)) slots)

        same_steps : (pass_in r).steps ≡ (pass_in p).steps
        same_steps = ap (λ (m : View T (Line T) × List (ℕ × Slot T)). (pass_of m.0).steps) me

        low_there : (j : ℕ) → 0 < times j (i ∷ h.chain) → j < room_of c
        low_there j there = two (same_or_not j i)
          where
            two : (j ≡ i) ⊎ (j ≢ i) → j < room_of c
            two (inl e) = subst (λ (x : ℕ). x < room_of c) (sym e) h.takes.low
            two (inr ne) = h.has.low j (let s = times_else j i h.chain ne in omega arith)

        -- the first node needs no link
        pub fills_first : held'.count ≡ 0 → (nodes : Chain) → nodes ≡ record { first = i; last = i } → IsFilling rule c o r vs (record { chain = nodes; count = 1 }) × (begun_with rule c r ≡ begun_with rule c p) × ((pass_in r).steps ≤ (pass_in p).steps + 1)
        fills_first z nodes e =
            let none : h.chain ≡ [] = none_of h.chain (h.has.counted ∙ z) in (
              record {
                chain = i ∷ [];
                has = record {
                  counted = refl;
                  few = omega arith;
                  low = subst (λ (xs : List ℕ). (j : ℕ) → 0 < times j (i ∷ xs) → j < room_of c) none low_there;
                  begins = sym (ap (λ (x : Chain). x.first) e);
                  ends = sym (ap (λ (x : Chain). x.last) e);
                };
                at = subst (λ (xs : List ℕ). IsAtWith rule c o r (linking xs (putting vs (i ∷ xs))) (loaded (putting vs (i ∷ xs)))) none filled.0;
              },
              filled.1,
              (let s = same_steps in omega (arith, s)),
            )

        -- a later one is linked to the one before it
        module _ (some_yet : held'.count ≢ 0) where
          chain_is : (x : ℕ) × (xs : List ℕ) × (h.chain ≡ x ∷ xs)
          chain_is = parts_of h.chain (let a = h.has.counted in more (length h.chain) (λ z. some_yet (sym a ∙ z)))
            where
              more : (k : ℕ) → (k ≡ 0 → ⊥) → 0 < k
              more zero ne = absurd (ne refl)
              more (suc k) ne = omega arith

          links : IsAtWith rule c o r (LinkTaken after) (loaded after)
          links = subst (λ (l : Line T). IsAtWith rule c o r l (loaded after)) (ap (λ (xs : List ℕ). linking xs after) chain_is.2) filled.0

          pub may_link : AtStep (machine_with rule c) lists o r.seat.me.0 1 (write_link i held'.chain.first)
          may_link = ready_step rule c o r (LinkTaken after) (loaded after) 1 _ links (λ t. some (1, write_link i (h.has.begins t)))

          pub plain_first : held'.chain.first ≤ NULL
          plain_first =
              let e = chain_is in
              let b : first h.chain ≡ held'.chain.first = h.has.begins in
              let l = h.has.low (first h.chain) (first_in h.chain (let a : length h.chain ≡ suc (length e.1) = ap length e.2 in omega arith)) in
              let most = c.table.shared.key.capacity_in_range in
              omega arith

          module _ (s : Pass T (Line T)) (x : ℕ) (steps : Found (machine_with rule c) o r.seat.me.0 s.seat.me.0 x []) where
            -- no pass holds more nodes than there are
            pub few_held : held'.count + 1 ≤ room_of c
            few_held =
                let m = (steps (begun_with rule c r) (LinkTaken after) links.at.going).0.line.meets in
                let one = total_one (λ (l : Line T). length (held l)) m.lines m.seat (LinkTaken after) m.here in
                let out = m.good.good.told.out in
                let room = m.good.good.told.room in
                let counted = h.has.counted in
                omega (arith, one, out, room, counted)

            pub fills_more : s.seat.table_id ≡ r.seat.table_id → s.seat.me.1 ≡ r.seat.me.1
                → IsFilling rule c o s vs (record { chain = record { first = i; last = held'.chain.last }; count = held'.count + 1 }) × (begun_with rule c s ≡ begun_with rule c p) × ((pass_in s).steps ≤ (pass_in p).steps + 1)
            fills_more table' same =
                let on = goes_on (machine_with rule c) links s x [] steps table' (loaded after) (next_node after) (same ∙ links.at.has) refl (linking_busy [] after) in (
                  record {
                    chain = i ∷ h.chain;
                    has = record {
                      counted = let a = h.has.counted in omega arith;
                      few = omega arith;
                      low = low_there;
                      begins = refl;
                      ends = ap (λ (xs : List ℕ). last (i ∷ xs)) chain_is.2 ∙ ap (λ (xs : List ℕ). last xs) (sym chain_is.2) ∙ h.has.ends;
                    };
                    at = on.0;
                  },
                  on.1.0 ∙ filled.1,
                  (let same_as = same_steps in let one = on.1.1.1.steps in omega (arith, same_as, one)),
                )

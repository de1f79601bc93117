-- The values of a ring, when a slot's cell is exchanged.
use Rattle.std.proofs.Common.{◌≡◌, ◌≢◌, ℕ, zero, suc, ◌+◌, ◌-◌, ◌*◌, ◌<◌, ◌≤◌, List, [], ◌∷◌, ◌++◌, length, refl, sym, ap, ◌∙◌, lt_of_not-le, arith}
use Rattle.std.specs.Prelude.{Option as Slot, Some, None}
use mathlib.Core.Option.{Option, none, some, some-injective}
use lib.ListN.{get_elem?}
use Rattle.machine.specs.Words.{Tagged, raised}
use Rattle.machine.specs.Chains.{with_home}
use Rattle.machine.proofs.Chains.{home_here, home_else}
use Rattle.ring_machine.specs.declared.lines.Walk.{Walk}
use Rattle.ring_machine.specs.Machine.{Memory, empty_at, full_at, store_word, after_put, after_take, after_slot}
use Rattle.ring_machine.specs.Rule.{Turned, Filled}
use Rattle.ring_machine.proofs.Positions.{word_each, other_slot}
use Rattle.ring_machine.proofs.Turned.{was_put, not_taken}

module _ {A : Type 0} where
  -- elements of a list with one more at its end
  at_last : (xs : List A) (v u : A) (k : ℕ) → k ≡ length xs → get_elem? (xs ++ v ∷ []) k ≡ some u → v ≡ u
  at_last [] v u zero is e = some-injective v u e
  at_last [] v u (suc k) is e = absurd (omega (arith, is))
  at_last (x ∷ xs) v u zero is e = absurd (omega (arith, is))
  at_last (x ∷ xs) v u (suc k) is e = at_last xs v u k (omega (arith, is)) e

  at_others : (xs : List A) (v : A) (k : ℕ) → k < length xs → get_elem? (xs ++ v ∷ []) k ≡ get_elem? xs k
  at_others [] v k less = absurd (omega (arith, less))
  at_others (x ∷ xs) v zero less = refl
  at_others (x ∷ xs) v (suc k) less = at_others xs v k (omega (arith, less))

-- a slot's lap, from its tag
full_lap : (a b : ℕ) → full_at a ≡ full_at b → a ≡ b
full_lap a b e = omega (arith, e)

never_empty : (a b : ℕ) → full_at a ≡ empty_at b → ⊥
never_empty a b e = omega (arith, e)

module _ {T : Type 0} where
  module _ {n laps puts takes : ℕ} {m : Memory T} {values : List T} (t : Turned n laps puts takes m.slot) (f : Filled T n takes m values) (balance : puts ≡ takes + length values)
      (w : Walk) (x : Tagged) (low : w.at.index < n) (won : m.slot w.at.index ≡ x)
      (out : (j : ℕ) → j < n → (m.slot j).index ≢ w.cell) (others : (j : ℕ) → j < n → j ≢ w.at.index → (m.slot j).index ≢ (m.slot w.at.index).index) where
    index_is : (m.slot w.at.index).index ≡ x.index
    index_is = ap (λ (y : Tagged). y.index) won

    pub own_apart : w.cell ≢ x.index
    own_apart e = out w.at.index low (index_is ∙ sym e)

    slot_tag : x.tag ≡ (m.slot w.at.index).tag
    slot_tag = ap (λ (y : Tagged). y.tag) (sym won)

    -- the cells of the slots, after this one's was exchanged for the spare cell, which has this in it; the homes
    -- of the others stay
    module _ (home : ℕ → Option (Slot T)) (held : Slot T) (here : home w.cell ≡ some held) (stays : (j : ℕ) → j < n → j ≢ w.at.index → home (m.slot j).index ≡ m.home (m.slot j).index) (values' : List T) (takes' : ℕ) where
      abbrev m' : Memory T
      m' = record m { slot = store_word m.slot w.at.index (raised x w.cell); home = home }

      traded : ((k : ℕ) → x.tag + 1 ≡ empty_at k → held ≡ None) → ((k : ℕ) (u : T) → x.tag + 1 ≡ full_at k → get_elem? values' (k * n + w.at.index - takes') ≡ some u → held ≡ Some u)
          → ((j k : ℕ) (u : T) → j < n → j ≢ w.at.index → (m.slot j).tag ≡ full_at k → get_elem? values' (k * n + j - takes') ≡ some u → get_elem? values (k * n + j - takes) ≡ some u)
          → Filled T n takes' m' values'
      traded empty full later = record {
        empty = λ j k low'. word_each (λ i y. i < n → y.tag ≡ empty_at k → home y.index ≡ some None) m.slot w.at.index (raised x w.cell)
            (λ low'' z. here ∙ ap (λ (y : Slot T). some y) (empty k z))
            (λ i ne low'' z. stays i low'' ne ∙ f.empty i k low'' z)
            j low';
        stored = λ j k u low'. word_each (λ i y. i < n → y.tag ≡ full_at k → get_elem? values' (k * n + i - takes') ≡ some u → home y.index ≡ some (Some u)) m.slot w.at.index (raised x w.cell)
            (λ low'' z g. here ∙ ap (λ (y : Slot T). some y) (full k u z g))
            (λ i ne low'' z g. stays i low'' ne ∙ f.stored i k u low'' z (later i k u low'' ne z g))
            j low';
      }

    pub put_filled : (v : T) → w.at.tag * n + w.at.index ≡ puts → x.tag ≡ empty_at w.at.tag → Filled T n takes (after_put m w x v) (values ++ v ∷ [])
    put_filled v at e = traded (with_home m.home w.cell (some (Some v))) (Some v) (home_here m.home w.cell (some (Some v))) (λ j low' ne. home_else m.home w.cell (some (Some v)) (m.slot j).index (out j low')) (values ++ v ∷ []) takes
        (λ k z. absurd (never_empty w.at.tag k (omega (arith, z, e))))
        (λ k u z g. let same : w.at.tag ≡ k = full_lap w.at.tag k (omega (arith, z, e)) in
        let last : k * n + w.at.index - takes ≡ length values = omega (arith, at, balance, ap (λ (y : ℕ). y * n) same) in
        ap (λ (y : T). Some y) (at_last values v u (k * n + w.at.index - takes) last g))
        (λ j k u low' ne z g.
        let less : k * n + j < puts = was_put t j k low' (omega (arith, z)) in
        let le : takes ≤ k * n + j = not_taken t j k low' (omega (arith, z)) in
        sym (at_others values v (k * n + j - takes) (omega (arith, less, le, balance))) ∙ g)

    -- the value that stands at the front
    pub first_stored : (v : T) (left : List T) → values ≡ v ∷ left → w.at.tag * n + w.at.index ≡ takes → x.tag ≡ full_at w.at.tag → m.home x.index ≡ some (Some v)
    first_stored v left is at e =
        let here : w.at.tag * n + w.at.index - takes ≡ 0 = omega (arith, at) in
        ap m.home (sym index_is) ∙ f.stored w.at.index w.at.tag v low (sym slot_tag ∙ e)
        (ap (λ (k : ℕ). get_elem? values k) here ∙ ap (λ (vs : List T). get_elem? vs 0) is)

    pub empty_here : x.tag ≡ empty_at w.at.tag → m.home x.index ≡ some None
    empty_here e = ap m.home (sym index_is) ∙ f.empty w.at.index w.at.tag low (sym slot_tag ∙ e)

    pub take_filled : (v : T) (left : List T) → values ≡ v ∷ left → w.at.tag * n + w.at.index ≡ takes → x.tag ≡ full_at w.at.tag → m.home w.cell ≡ some None → Filled T n (takes + 1) (after_take m w x) left
    take_filled v left is at e spare = traded (with_home m.home x.index none) None (home_else m.home x.index none w.cell own_apart ∙ spare) (λ j low' ne. home_else m.home x.index none (m.slot j).index (λ z. others j low' ne (z ∙ sym index_is))) left (takes + 1)
        (λ k z. refl)
        (λ k u z g. absurd (omega (arith, z, e)))
        (λ j k u low' ne z g.
        let le : takes ≤ k * n + j = not_taken t j k low' (omega (arith, z)) in
        let off = other_slot n w.at.index j w.at.tag k low low' ne in
        let less : takes < k * n + j = lt_of_not-le (λ h. absurd (off (omega (arith, h, le, at)))) in
        let next : k * n + j - takes ≡ suc (k * n + j - (takes + 1)) = omega (arith, less) in
        ap (λ (i : ℕ). get_elem? values i) next ∙ ap (λ (vs : List T). get_elem? vs (suc (k * n + j - (takes + 1)))) is ∙ g)

  -- a cell that is in no slot goes or comes
  pub home_filled : {n takes : ℕ} {m : Memory T} {values : List T} → Filled T n takes m values → (c : ℕ) (x : Option (Slot T)) → ((j : ℕ) → j < n → (m.slot j).index ≢ c) → Filled T n takes (record m { home = with_home m.home c x }) values
  home_filled {m = m} f c x out = record {
    empty = λ j k low z. home_else m.home c x (m.slot j).index (out j low) ∙ f.empty j k low z;
    stored = λ j k u low z g. home_else m.home c x (m.slot j).index (out j low) ∙ f.stored j k u low z g;
  }

  -- a slot's word with another mark
  pub mark_filled : {n takes : ℕ} {m : Memory T} {values : List T} → Filled T n takes m values → (w : Walk) (x : Tagged) → x.tag ≡ (m.slot w.at.index).tag → x.index ≡ (m.slot w.at.index).index → Filled T n takes (after_slot m w x) values
  mark_filled {n} {takes} {m} {values} f w x tag index = record {
    empty = λ j k low. word_each (λ i y. i < n → y.tag ≡ empty_at k → m.home y.index ≡ some None) m.slot w.at.index x
        (λ low' z. ap m.home index ∙ f.empty w.at.index k low' (sym tag ∙ z))
        (λ i ne low' z. f.empty i k low' z)
        j low;
    stored = λ j k u low. word_each (λ i y. i < n → y.tag ≡ full_at k → get_elem? values (k * n + i - takes) ≡ some u → m.home y.index ≡ some (Some u)) m.slot w.at.index x
        (λ low' z g. ap m.home index ∙ f.stored w.at.index k u low' (sym tag ∙ z) g)
        (λ i ne low' z g. f.stored i k u low' z g)
        j low;
  }

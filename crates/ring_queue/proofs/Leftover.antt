-- The values along the slots of a closed table are the ring's.
use Rattle.std.proofs.Common.{◌≡◌, ◌≢◌, ℕ, zero, suc, ◌+◌, ◌-◌, ◌*◌, ◌<◌, ◌≤◌, Bool, true, false, cond, eqb, ltb, List, [], ◌∷◌, length, map, set, refl, sym, ap, ◌∙◌, subst, ⊎_elim, arith}
use Rattle.std.proofs.lemmas.Bool.Decides.{eqb_tells}
use Rattle.std.specs.Prelude.{slice_index, Option as Slot, Some, None}
use mathlib.Core.Option.{Option, none, some, some-injective, some-ne-none}
use lib.ListN.{get_elem?}
use Rattle.atomic_table.specs.Table.{Final, Seen}
use Rattle.atomic_table.proofs.Lists.{set_here, set_else, set_again}
use Rattle.bounded_model.specs.Machine as bounded
use Rattle.bounded_model.specs.Laws.{IsSound, Leaves}
use Rattle.machine.specs.declared.seats.View.TheVariants.{AtRoot}
use Rattle.machine.specs.Words.{Tagged}
use Rattle.machine.specs.Seats.{Acts, nothing, Rooted, Knows}
use Rattle.machine.proofs.Tests.{cases}
use Rattle.machine.proofs.SeatedEnds.{leaves}
use Rattle.ring_machine.specs.Machine.{behind, empty_at}
use Rattle.ring_machine.specs.Answers.{shape, state}
use Rattle.ring_machine.specs.Rule.{Good}
use Rattle.ring_machine.proofs.Cells.{cells_two}
use Rattle.ring_machine.proofs.Told.{few_values}
use Rattle.ring_machine.proofs.Positions.{place_behind, slot_behind, lap_before, lap_order}
use Rattle.running.specs.Rule.{Rule, line_in}
use Rattle.running.specs.Tables.{at_home}
use Rattle.ring_table.specs.Core.{shape_for}
use Rattle.ring_table.specs.Memories.{memory_of}
use Rattle.ring_table.proofs.Shapes.{state_same, legal_same}
use Rattle.ring_table.specs.Seats.{passes_of}
use Rattle.ring_queue.specs.Prelude.{Event, Line, Memory, RootView, SeatLine, View, full_at, names, place, ring_with}
use Rattle.ring_queue.specs.code.Left.{next_slot, cell_at, HasTaken, IsFront, in_front, values_from}

pub word_at : (words : List ℕ) (i n : ℕ) → get_elem? words i ≡ some n → slice_index words i ≡ n
word_at [] i n e = absurd (some-ne-none n (sym e))
word_at (w ∷ words) zero n e = some-injective w n e
word_at (w ∷ words) (suc i) n e = word_at words i n e

pub no_cell_past : {A : Type 0} (xs : List A) (i : ℕ) → length xs ≤ i → get_elem? xs i ≡ none
no_cell_past [] i h = refl
no_cell_past (x ∷ xs) zero h = absurd (omega arith)
no_cell_past (x ∷ xs) (suc i) h = no_cell_past xs i (omega arith)

is_there : {A : Type 0} (xs : List A) (i : ℕ) (a : A) → get_elem? xs i ≡ some a → i < length xs
is_there [] i a e = absurd (some-ne-none a (sym e))
is_there (x ∷ xs) zero a e = omega arith
is_there (x ∷ xs) (suc i) a e = let r = is_there xs i a e in omega arith

next_by : (b : Bool) (w : Tagged) → cond b 0 (w.index + 1) ≡ (cond b (record w { index = 0; tag = w.tag + 1 }) (record w { index = w.index + 1 })).index
next_by true w = refl
next_by false w = refl

next_is : (n : ℕ) (w : Tagged) → next_slot n w.index ≡ (behind n w).index
next_is n w = next_by (eqb (w.index + 1) n) w

-- within one round no slot comes again
once_round : (n : ℕ) (w : Tagged) (i lap k : ℕ) → w.index < n → lap * n + i ≡ place n w + suc k → suc k < n → i ≢ w.index
once_round n w i lap k low e less same =
    let e' : lap * n + w.index ≡ w.tag * n + w.index + suc k = omega (arith, e, same) in
    let later : w.tag < lap = lap_before n w.index w.tag lap low (omega (arith, e')) in
    omega (arith, e', less, lap_order n w.index w.tag lap later)

module _ {T : Type 0} where
  -- what `next` finds: no cell or nothing in it, and then a value
  module _ (n : ℕ) (words : List ℕ) (cells : List (Slot T)) (i c : ℕ) (here : c ≡ cell_at n words i) where
    values_end : (most : ℕ) (after : List (Slot T)) (o : Option (Slot T)) → get_elem? after (cell_at n words i) ≡ o → ((others : List T) → in_front o others ≡ []) → values_from n words most after i ≡ []
    values_end zero after o e ends = refl
    values_end (suc most) after o e ends =
        let others : List T = values_from n words most (set after (cell_at n words i) None) (next_slot n i) in
        ap (λ (x : Option (Slot T)). in_front x others) e ∙ ends others

    pub left_none : (most : ℕ) → length cells ≤ c → values_from n words most cells i ≡ []
    left_none most past = values_end most cells none (ap (λ (k : ℕ). get_elem? cells k) (sym here) ∙ no_cell_past cells c past) (λ _. refl)

    -- x is what `next` leaves in the cell
    module _ (x : Slot T) (is : x ≡ None) where
      pub left_empty : (most : ℕ) → get_elem? cells c ≡ some None → (values_from n words most cells i ≡ []) × (values_from n words most (set cells c x) i ≡ [])
      left_empty most e =
          let there : get_elem? cells (cell_at n words i) ≡ some None = ap (λ (k : ℕ). get_elem? cells k) (sym here) ∙ e in
          let same : set cells c x ≡ cells = ap (λ (y : Slot T). set cells c y) is ∙ set_again cells c None e in
          let ends = values_end most cells (some None) there (λ _. refl) in
          (ends, ap (λ (cs : List (Slot T)). values_from n words most cs i) same ∙ ends)

      pub left_next : (most most' next : ℕ) (v : T) → 0 < most → most' + 1 ≡ most → next ≡ next_slot n i → get_elem? cells c ≡ some (Some v) → values_from n words most cells i ≡ v ∷ values_from n words most' (set cells c x) next
      left_next zero most' next v some_left one behind e = absurd (omega (arith, some_left))
      left_next (suc most) most' next v some_left one behind e =
          let after : List (Slot T) = set cells (cell_at n words i) None in
          let others : List T = values_from n words most after (next_slot n i) in
          let fewer : most ≡ most' = omega (arith, one) in
          let left : after ≡ set cells c x = (λ j. set cells (sym here j) (sym is j)) in
          ap (λ (y : Option (Slot T)). in_front y others) (ap (λ (k : ℕ). get_elem? cells k) (sym here) ∙ e)
          ∙ (λ j. v ∷ values_from n words (fewer j) (left j) (sym behind j))

  empty_stays : (cells : List (Slot T)) (c d : ℕ) → get_elem? cells d ≡ some None → get_elem? (set cells c None) d ≡ some None
  empty_stays cells c d e = ⊎_elim
      (λ t. subst (λ (k : ℕ). get_elem? (set cells k None) d ≡ some None) t.1 (set_here cells d None (is_there cells d None e)))
      (λ t. set_else cells c d None t.1 ∙ e)
      (eqb_tells d c)

  module _ (n : ℕ) (words : List ℕ) where
    -- the slots from w on have these values, and the next of them has none
    record Has (most : ℕ) (cells : List (Slot T)) (w : Tagged) (vs : List T) : Type 0 where
      low : w.index < n
      few : length vs ≤ most
      short : length vs ≤ n
      stored : (i lap k : ℕ) (v : T) → i < n → lap * n + i ≡ place n w + k → get_elem? vs k ≡ some v → get_elem? cells (cell_at n words i) ≡ some (Some v)
      ends : length vs < most → (i lap : ℕ) → i < n → lap * n + i ≡ place n w + length vs → get_elem? cells (cell_at n words i) ≡ some None

    module _ (apart : (i j : ℕ) → i < n → j < n → j ≢ i → cell_at n words j ≢ cell_at n words i) where
      has_next : (most : ℕ) (cells : List (Slot T)) (w : Tagged) (v : T) (vs : List T) → Has (suc most) cells w (v ∷ vs) → Has most (set cells (cell_at n words w.index) None) (behind n w) vs
      has_next most cells w v vs h = record {
        low = slot_behind n w h.low;
        few = omega (arith, h.few);
        short = omega (arith, h.short);
        stored = λ i lap k u low e there.
            let e' : lap * n + i ≡ place n w + suc k = omega (arith, e, place_behind n w h.low) in
            let ne = once_round n w i lap k h.low e' (omega (arith, is_there vs k u there, h.short)) in
            set_else cells (cell_at n words w.index) (cell_at n words i) None (apart w.index i h.low low ne) ∙ h.stored i lap (suc k) u low e' there;
        ends = λ less i lap low e. empty_stays cells (cell_at n words w.index) (cell_at n words i) (h.ends (omega (arith, less)) i lap low (omega (arith, e, place_behind n w h.low)));
      }

      along : (most : ℕ) (cells : List (Slot T)) (w : Tagged) (vs : List T) → Has most cells w vs → values_from n words most cells w.index ≡ vs
      along zero cells w [] h = refl
      along zero cells w (v ∷ vs) h = absurd (omega (arith, h.few))
      along (suc most) cells w [] h =
          let others = values_from n words most (set cells (cell_at n words w.index) None) (next_slot n w.index) in
          ap (λ (x : Option (Slot T)). in_front x others) (h.ends (omega arith) w.index w.tag h.low (omega arith))
      along (suc most) cells w (v ∷ vs) h =
          let after : List (Slot T) = set cells (cell_at n words w.index) None in
          let others = values_from n words most after (next_slot n w.index) in
          ap (λ (x : Option (Slot T)). in_front x others) (h.stored w.index w.tag 0 v h.low (omega arith) refl)
          ∙ ap (λ (us : List T). v ∷ us) (ap (λ (i : ℕ). values_from n words most after i) (next_is n w) ∙ along most after (behind n w) vs (has_next most cells w v vs h))

  was_home : (o : Option (Option (Slot T))) (y : Slot T) → at_home o ≡ some y → o ≡ some (some y)
  was_home none y e = absurd (some-ne-none y (sym e))
  was_home (some x) y e = ap some e

  -- of a table that meets the ring's rule
  module _ (n laps count : ℕ) (words : List ℕ) (homes : List (Option (Slot T))) (lines : List (Line T)) (h : List (Event T)) (g : Good T n laps count (memory_of n count words homes) lines h) where
    abbrev m : Memory T
    m = memory_of n count words homes

    abbrev s : bounded.State T
    s = state n laps h

    two_cells : (i j : ℕ) → i < n → j < n → j ≢ i → cell_at n words j ≢ cell_at n words i
    two_cells i j low low' ne e =
        let two = cells_two n i j m.slot low low' ne e in
        omega (arith, two, at_most (m.slot i).index _ _ (g.once (m.slot i).index))
      where
        at_most : (c a b : ℕ) → a + b ≡ cond (ltb c count) 1 0 → a ≤ 1
        at_most c a b e = cases (λ v. a + b ≡ v → a ≤ 1) (ltb c count) 1 0 (λ _ q. omega (arith, q)) (λ _ q. omega (arith, q)) e

    value_here : (i lap k : ℕ) (v : T) → i < n → lap * n + i ≡ s.takes + k → get_elem? s.values k ≡ some v → m.home (m.slot i).index ≡ some (Some v)
    value_here i lap k v low e there =
        let up : empty_at lap < (m.slot i).tag = g.turned.put i lap low (omega (arith, e, is_there s.values k v there, g.told.balance)) in
        let down : (m.slot i).tag ≤ full_at lap = g.turned.untaken i lap low (omega (arith, e)) in
        let number : lap * n + i - s.takes ≡ k = omega (arith, e) in
        g.filled.stored i lap v low (omega (arith, up, down)) (ap (λ (x : ℕ). get_elem? s.values x) number ∙ there)

    not_below : (i lap : ℕ) → i < n → length s.values < n → lap * n + i ≡ s.takes + length s.values → empty_at lap ≤ (m.slot i).tag
    not_below i zero low less e = omega arith
    not_below i (suc lap) low less e = let r : full_at lap < (m.slot i).tag = g.turned.taken i lap low (omega (arith, e, less)) in omega (arith, r)

    none_behind : (i lap : ℕ) → length s.values < n → i < n → lap * n + i ≡ s.takes + length s.values → m.home (m.slot i).index ≡ some None
    none_behind i lap less low e =
        let down : (m.slot i).tag ≤ empty_at lap = g.turned.unput i lap low (omega (arith, e, g.told.balance)) in
        g.filled.empty i lap low (omega (arith, down, not_below i lap low less e))

    has_taken : HasTaken n s.takes words
    has_taken = record { hint = g.head; taken = g.turned.taken; untaken = g.turned.untaken }

    from_front : (cells : List (Slot T)) → ((k : ℕ) (y : Slot T) → get_elem? homes k ≡ some (some y) → get_elem? cells k ≡ some y) → (i : ℕ) → i < n → IsFront n s.takes i → values_from n words n cells i ≡ s.values
    from_front cells same i low front =
        let few = few_values g.told in
        along n words two_cells n cells (record { index = i; mark = false; second = false; tag = front.0 }) s.values (record {
          low = low;
          few = few;
          short = few;
          stored = λ j lap k v low' e there. same (m.slot j).index (Some v) (was_home (get_elem? homes (m.slot j).index) (Some v) (value_here j lap k v low' (omega (arith, e, front.1)) there));
          ends = λ less j lap low' e. same (m.slot j).index None (was_home (get_elem? homes (m.slot j).index) None (none_behind j lap less low' (omega (arith, e, front.1))));
        })

  -- what a table that was closed with the root's seat has left; n' is the ring's capacity as the code has it
  pub leaves_all : {root : SeatLine T} {ks : Acts (SeatLine T)} (rule : List (Event T) → Type 0) (n laps passes id n' : ℕ) (v : View T (SeatLine T)) (r : RootView T) (words : List ℕ) (cells : List (Slot T)) → n' ≡ n → (final : Final (Seen (Rule (ring_with T n laps passes rule)) id v) words cells) → v ≡ AtRoot r ks nothing root → IsSound (shape_for T n laps passes) r
      → (takes : ℕ) × HasTaken n' takes words × ((i : ℕ) → i < n' → IsFront n' takes i → Leaves (shape_for T n laps passes) r (values_from n' words n' cells i) × (values_from n' words n' cells i ≡ (bounded.state (shape_for T n laps passes) final.1.0.history).values))
  leaves_all rule n laps passes id n' v r words cells many final is sound =
      let rule = final.1.0 in
      let s = final.0 in
      let h : List (Event T) = rule.history in
      let c = shape_for T n laps passes in
      let lines = passes_of (map (line_in names) s.views) in
      let rooted : Rooted h r [] = subst (Knows h) is (rule.seated.each id v final.1.1).knows in
      let values : (state n laps h).values ≡ (bounded.state c h).values = ap (λ (x : bounded.State T). x.values) (sym (state_same (shape n laps) passes h)) in
      let along_words : (i : ℕ) → i < n → IsFront n (state n laps h).takes i → values_from n words n cells i ≡ (bounded.state c h).values =
      λ i low front. subst (λ (ws : List ℕ). values_from n ws n cells i ≡ (state n laps h).values) final.2 (from_front n laps (n + passes) s.words s.homes lines h rule.good cells final.4 i low front) ∙ values in
      let here : HasTaken n (state n laps h).takes words = subst (HasTaken n (state n laps h).takes) final.2 (has_taken n laps (n + passes) s.words s.homes lines h rule.good) in
      subst (λ (k : ℕ). (takes : ℕ) × HasTaken k takes words × ((i : ℕ) → i < k → IsFront k takes i → Leaves c r (values_from k words k cells i) × (values_from k words k cells i ≡ (bounded.state c h).values))) (sym many) (
        (state n laps h).takes,
        here,
        λ i low front.
            let are = along_words i low front in
            (subst (λ (vs : List T). Leaves c r vs) (sym are) (leaves c h r [] (legal_same (shape n laps) passes h rule.good.told.legal) rooted sound), are),
      )

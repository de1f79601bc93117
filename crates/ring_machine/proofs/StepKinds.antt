-- Each kind of step of the ring keeps what holds between any two steps, from any state where it holds.
-- Running code cites these.
use Rattle.std.proofs.Common.{◌≡◌, ◌≢◌, ℕ, ◌+◌, ◌<◌, ◌≤◌, true, false, cond, ltb, List, [], ◌∷◌, set, refl, sym, ap, ◌∙◌, subst, ⊎_elim, Option as Slot, Some, None, arith}
use Rattle.std.proofs.lemmas.Bool.{false≢true}
use mathlib.Core.Option.{Option, none, some}
use lib.ListN.{get_elem?}
use Rattle.bounded_model.specs.declared.history.Event.{Event}
use Rattle.bounded_model.specs.declared.history.Event.TheVariants.{Hold, Put, Take, Free, Close, Shut}
use Rattle.bounded_model.specs.Machine.{without_first}
use Rattle.machine.specs.Words.{Tagged, raised, marked, with_second, times, total}
use Rattle.machine.specs.Chains.{with_home}
use Rattle.machine.proofs.Chains.{home_here, home_else}
use Rattle.machine.proofs.Lists.{times_here}
use Rattle.machine.proofs.Sums.{total_set, total_one, total_two, at_set}
use Rattle.machine.proofs.Tests.{at_most_one}
use Rattle.ring_machine.specs.declared.lines.Walk.{Walk}
use Rattle.ring_machine.specs.declared.lines.Back.{Back}
use Rattle.ring_machine.specs.declared.lines.Back.TheVariants.{ToPut, ToClose, ToCount, ToGauge}
use Rattle.ring_machine.specs.declared.lines.Line.{Line}
use Rattle.ring_machine.specs.declared.lines.Line.TheVariants.{Idle, FetchTail, LoadTail, LoadBack, MoveTail, PutCell, PassTail, MarkBack, LoadHead, LoadFront, MoveHead, TakeCell, PassHead, Stow, ShutFront, CheckFront}
use Rattle.ring_machine.specs.Machine.{Memory, place, empty_at, full_at, cell_of, held_cells, is_home, store_word, after_fetch, after_stow, after_put, after_take, after_slot, after_tail, after_head}
use Rattle.ring_machine.specs.Answers.{state}
use Rattle.ring_machine.specs.Rule.{Progress, IsBefore, Walks, HasWalked, HasPassed, Seeks, IsFine, cells_in, Filled, Once, progress, Good}
use Rattle.ring_machine.proofs.Turned.{was_put, at_the_back, at_the_front, room_here, put_turned, take_turned, mark_turned, is_open, is_unshut, put_marked, take_marked, close_marked, shut_marked}
use Rattle.ring_machine.proofs.Cells.{cells_traded, cell_in, cells_two}
use Rattle.ring_machine.proofs.Filled.{put_filled, take_filled, home_filled, mark_filled, first_stored, empty_here, own_apart}
use Rattle.ring_machine.proofs.Told.{put_told, take_told, close_told, shut_told, front_of}

-- a ring never goes back
pub record Grows (g g' : Progress) : Type 0 where
  pub tail : g.tail ≤ g'.tail
  pub head : g.head ≤ g'.head
  pub puts : g.puts ≤ g'.puts
  pub takes : g.takes ≤ g'.takes

pub still : (g : Progress) → Grows g g
still g = record { tail = omega arith; head = omega arith; puts = omega arith; takes = omega arith }

before_later : (n most most' : ℕ) (w : Tagged) → most ≤ most' → IsBefore n most w → IsBefore n most' w
before_later n most most' w le b = record { slot = b.slot; before = omega (arith, b.before, le) }

walks_later : (n hint most hint' most' : ℕ) (w : Walk) → hint ≤ hint' → most ≤ most' → Walks n hint most w → Walks n hint' most' w
walks_later n hint most hint' most' w le le' b = record { at = before_later n most most' w.at le' b.at; from = omega (arith, b.from, le); gone = b.gone; short = b.short }

walked_later : (n most most' : ℕ) (w : Walk) → most ≤ most' → HasWalked n most w → HasWalked n most' w
walked_later n most most' w le b = record { at = before_later n most most' w.at le b.at; gone = b.gone }

passed_later : (n most most' : ℕ) (w : Walk) → most ≤ most' → HasPassed n most w → HasPassed n most' w
passed_later n most most' w le b = record { slot = b.slot; before = omega (arith, b.before, le); gone = b.gone }

module _ {T : Type 0} (n laps : ℕ) (g g' : Progress) (x : Grows g g') where
  pub seeks_later : (s : Back T) → Seeks n laps g s → Seeks n laps g' s
  seeks_later (ToPut v) f = tt
  seeks_later ToClose f = tt
  seeks_later (ToCount front) f = before_later n g.takes g'.takes front x.takes f
  seeks_later ToGauge f = tt

  -- what a pass has read stays fine
  pub fine_later : (l : Line T) → IsFine n laps g l → IsFine n laps g' l
  fine_later (Idle c a) f = tt
  fine_later (FetchTail c v) f = tt
  fine_later (LoadTail c s) f = seeks_later s f
  fine_later (LoadBack w s) f = (walks_later n g.tail g.puts g'.tail g'.puts w x.tail x.puts f.0, seeks_later s f.1)
  fine_later (MoveTail w s) f = (walked_later n g.puts g'.puts w x.puts f.0, seeks_later s f.1)
  fine_later (PutCell w v y) f = (walks_later n g.tail g.puts g'.tail g'.puts w x.tail x.puts f.0, f.1, f.2, f.3)
  fine_later (PassTail w) f = passed_later n g.puts g'.puts w x.puts f
  fine_later (MarkBack w y) f = (walks_later n g.tail g.puts g'.tail g'.puts w x.tail x.puts f.0, f.1, f.2)
  fine_later (LoadHead c s) f = tt
  fine_later (LoadFront w s) f = walks_later n g.head g.takes g'.head g'.takes w x.head x.takes f
  fine_later (MoveHead w s) f = walked_later n g.takes g'.takes w x.takes f
  fine_later (TakeCell w y) f = (walks_later n g.head g.takes g'.head g'.takes w x.head x.takes f.0, f.1, f.2)
  fine_later (PassHead w v) f = passed_later n g.takes g'.takes w x.takes f
  fine_later (Stow w a) f = tt
  fine_later (ShutFront w y) f = (walks_later n g.head g.takes g'.head g'.takes w x.head x.takes f.0, f.1, f.2)
  fine_later (CheckFront c front back) f = before_later n g.takes g'.takes front x.takes f

module _ {T : Type 0} {n laps cells : ℕ} {m : Memory T} {lines : List (Line T)} {history : List (Event T)} (q : ℕ) (l l' : Line T) (x : Good T n laps cells m lines history) (e : get_elem? lines q ≡ some l) where
  abbrev now : Progress
  now = progress T n laps m history

  fine_set : (g : Progress) → Grows now g → IsFine n laps g l' → (r : ℕ) (u : Line T) → get_elem? (set lines q l') r ≡ some u → IsFine n laps g u
  fine_set g grows f r u at = ⊎_elim
      (λ t. subst (IsFine n laps g) t.1 f)
      (λ t. fine_later n laps now g grows u (x.fine r u t.1))
      (at_set lines q r l' u at)

  once_set : cell_of l' ≡ cell_of l → Once T n cells m (set lines q l')
  once_set same c = omega (arith, x.once c, total_set (λ (u : Line T). times c (held_cells u)) lines q l l' e, ap (λ (k : ℕ). times c (k ∷ [])) same)

  -- the spare cells, after a step that may have moved some
  spares_set : (home : ℕ → Option (Slot T)) → (is_home l' ≡ true → home (cell_of l') ≡ some None) → ((r : ℕ) (u : Line T) → r ≢ q → get_elem? lines r ≡ some u → home (cell_of u) ≡ m.home (cell_of u)) → (r : ℕ) (u : Line T) → get_elem? (set lines q l') r ≡ some u → is_home u ≡ true → home (cell_of u) ≡ some None
  spares_set home mine others r u at = ⊎_elim
      (λ t. subst (λ (k : Line T). is_home k ≡ true → home (cell_of k) ≡ some None) t.1 mine)
      (λ t rests. others r u t.0 t.1 ∙ x.spares r u t.1 rests)
      (at_set lines q r l' u at)

  -- a step that moves none
  spares_stay : cell_of l' ≡ cell_of l → (is_home l' ≡ true → is_home l ≡ true) → (r : ℕ) (u : Line T) → get_elem? (set lines q l') r ≡ some u → is_home u ≡ true → m.home (cell_of u) ≡ some None
  spares_stay same rests = spares_set m.home (λ h. ap m.home same ∙ x.spares q l e (rests h)) (λ r u ne at. refl)

  -- a step that changes no word
  pub good_goes : cell_of l' ≡ cell_of l → (is_home l' ≡ true → is_home l ≡ true) → IsFine n laps now l' → Good T n laps cells m (set lines q l') history
  good_goes same rests f = record { tail = x.tail; head = x.head; turned = x.turned; marked = x.marked; filled = x.filled; spares = spares_stay same rests; once = once_set same; told = x.told; fine = fine_set now (still now) f }

  -- a hint that goes on
  pub good_tail : (w : Tagged) → cell_of l' ≡ cell_of l → (is_home l' ≡ true → is_home l ≡ true) → IsBefore n (state n laps history).puts w → place n m.tail ≤ place n w → IsFine n laps (record now { tail = place n w }) l' → Good T n laps cells (after_tail m w) (set lines q l') history
  good_tail w same rests b higher f = record {
    spares = spares_stay same rests;
    tail = record { at = b; near = omega (arith, x.tail.near, higher) };
    head = x.head;
    turned = x.turned;
    marked = x.marked;
    filled = record { empty = x.filled.empty; stored = x.filled.stored };
    once = once_set same;
    told = x.told;
    fine = fine_set (record now { tail = place n w }) (record { tail = higher; head = omega arith; puts = omega arith; takes = omega arith }) f;
  }

  pub good_head : (w : Tagged) → cell_of l' ≡ cell_of l → (is_home l' ≡ true → is_home l ≡ true) → IsBefore n (state n laps history).takes w → place n m.head ≤ place n w → IsFine n laps (record now { head = place n w }) l' → Good T n laps cells (after_head m w) (set lines q l') history
  good_head w same rests b higher f = record {
    spares = spares_stay same rests;
    tail = x.tail;
    head = record { at = b; near = omega (arith, x.head.near, higher) };
    turned = x.turned;
    marked = x.marked;
    filled = record { empty = x.filled.empty; stored = x.filled.stored };
    once = once_set same;
    told = x.told;
    fine = fine_set (record now { head = place n w }) (record { tail = omega arith; head = higher; puts = omega arith; takes = omega arith }) f;
  }

  -- the spare cell is in no slot, and no cell in two
  own_out : (j : ℕ) → j < n → (m.slot j).index ≢ cell_of l
  own_out j low z =
      let c = cell_of l in
      let there : 0 < times c (cells_in n m.slot) = subst (λ (k : ℕ). 0 < times k (cells_in n m.slot)) z (cell_in n j m.slot low) in
      let mine = total_one (λ (u : Line T). times c (held_cells u)) lines q l e in
      omega (arith, there, mine, times_here c [], x.once c, at_most_one c cells)

  others_out : (i : ℕ) → i < n → (j : ℕ) → j < n → j ≢ i → (m.slot j).index ≢ (m.slot i).index
  others_out i low j low' ne z =
      let c = (m.slot i).index in
      omega (arith, cells_two n i j m.slot low low' ne z, x.once c, at_most_one c cells)

  -- nor is that of another pass in a slot, or this one
  other_out : (r : ℕ) (u : Line T) → r ≢ q → get_elem? lines r ≡ some u → (j : ℕ) → j < n → cell_of u ≢ (m.slot j).index
  other_out r u ne at j low z =
      let c = cell_of u in
      let there : 0 < times c (cells_in n m.slot) = subst (λ (k : ℕ). 0 < times k (cells_in n m.slot)) (sym z) (cell_in n j m.slot low) in
      let theirs = total_one (λ (k : Line T). times c (held_cells k)) lines r u at in
      omega (arith, there, theirs, times_here c [], x.once c, at_most_one c cells)

  other_apart : (r : ℕ) (u : Line T) → r ≢ q → get_elem? lines r ≡ some u → cell_of u ≢ cell_of l
  other_apart r u ne at z =
      let c = cell_of l in
      let both = total_two (λ (k : Line T). times c (held_cells k)) lines q r l u ne e at in
      let theirs : times c (cell_of u ∷ []) ≡ times c (c ∷ []) = ap (λ (k : ℕ). times c (k ∷ [])) z in
      omega (arith, both, theirs, times_here c [], x.once c, at_most_one c cells)

  -- the spare cell is taken in hand, and laid back
  pub good_fetch : (c : ℕ) → c ≡ cell_of l → cell_of l' ≡ cell_of l → is_home l' ≡ false → IsFine n laps now l' → Good T n laps cells (after_fetch m c) (set lines q l') history
  good_fetch c is same away f = record {
    tail = x.tail;
    head = x.head;
    turned = x.turned;
    marked = x.marked;
    filled = home_filled x.filled c none (λ j low z. own_out j low (z ∙ is));
    spares = spares_set (with_home m.home c none) (λ h. absurd (false≢true (sym away ∙ h))) (λ r u ne at. home_else m.home c none (cell_of u) (λ z. other_apart r u ne at (z ∙ is)));
    once = once_set same;
    told = x.told;
    fine = fine_set now (still now) f;
  }

  pub good_stow : (c : ℕ) → c ≡ cell_of l → cell_of l' ≡ cell_of l → IsFine n laps now l' → Good T n laps cells (after_stow m c) (set lines q l') history
  good_stow c is same f = record {
    tail = x.tail;
    head = x.head;
    turned = x.turned;
    marked = x.marked;
    filled = home_filled x.filled c (some None) (λ j low z. own_out j low (z ∙ is));
    spares = spares_set (with_home m.home c (some None)) (λ h. ap (with_home m.home c (some None)) (same ∙ sym is) ∙ home_here m.home c (some None)) (λ r u ne at. home_else m.home c (some None) (cell_of u) (λ z. other_apart r u ne at (z ∙ is)));
    once = once_set same;
    told = x.told;
    fine = fine_set now (still now) f;
  }

  -- the spare cell for that of a slot
  once_traded : (i : ℕ) (y : Tagged) → i < n → m.slot i ≡ y → cell_of l' ≡ y.index → (c : ℕ) → times c (cells_in n (store_word m.slot i (raised y (cell_of l)))) + total (λ (u : Line T). times c (held_cells u)) (set lines q l') ≡ cond (ltb c cells) 1 0
  once_traded i y low won mine c =
      let old : times c ((m.slot i).index ∷ []) ≡ times c (y.index ∷ []) = ap (λ (w : Tagged). times c (w.index ∷ [])) won in
      let new : times c (cell_of l' ∷ []) ≡ times c (y.index ∷ []) = ap (λ (k : ℕ). times c (k ∷ [])) mine in
      omega (arith, x.once c, cells_traded c n i m.slot (raised y (cell_of l)) low, total_set (λ (u : Line T). times c (held_cells u)) lines q l l' e, old, new)

  -- and a slot with another mark
  once_marked : (i : ℕ) (y : Tagged) → i < n → y.index ≡ (m.slot i).index → cell_of l' ≡ cell_of l → (c : ℕ) → times c (cells_in n (store_word m.slot i y)) + total (λ (u : Line T). times c (held_cells u)) (set lines q l') ≡ cond (ltb c cells) 1 0
  once_marked i y low same_cell same c =
      let old : times c (y.index ∷ []) ≡ times c ((m.slot i).index ∷ []) = ap (λ (k : ℕ). times c (k ∷ [])) same_cell in
      omega (arith, x.once c, cells_traded c n i m.slot y low, total_set (λ (u : Line T). times c (held_cells u)) lines q l l' e, old, ap (λ (k : ℕ). times c (k ∷ [])) same)

  module _ (p : ℕ) (w : Walk) (y : Tagged) (won : m.slot w.at.index ≡ y) where
    tag_is : (m.slot w.at.index).tag ≡ y.tag
    tag_is = ap (λ (u : Tagged). u.tag) won

    -- where the walk stands that finds its slot as it was
    pub stands_back : IsBefore n (state n laps history).puts w.at → y.tag ≤ empty_at w.at.tag → place n w.at ≡ (state n laps history).puts
    stands_back b le = at_the_back x.turned w.at.index w.at.tag b.slot b.before (omega (arith, tag_is, le))

    pub stands_front : IsBefore n (state n laps history).takes w.at → y.tag ≤ full_at w.at.tag → place n w.at ≡ (state n laps history).takes
    stands_front b le = at_the_front x.turned w.at.index w.at.tag b.slot b.before (omega (arith, tag_is, le))

    module _ (own : w.cell ≡ cell_of l) where
      out : (j : ℕ) → j < n → (m.slot j).index ≢ w.cell
      out j low z = own_out j low (z ∙ own)

      -- the cell that a put finds is empty
      pub put_finds : IsBefore n (state n laps history).puts w.at → y.tag ≡ empty_at w.at.tag → m.home y.index ≡ some None
      put_finds b tag = empty_here x.turned x.filled x.told.balance w y b.slot won out (others_out w.at.index b.slot) tag

      -- A value is put. It is any value: what a seat carries in its cell is no part of its line
      pub good_put : (v : T) → Walks n (place n m.tail) (state n laps history).puts w → y.mark ≡ false → y.tag ≡ empty_at w.at.tag → w.at.tag < laps → cell_of l' ≡ y.index
          → IsFine n laps (record now { puts = (state n laps history).puts + 1 }) l' → Good T n laps cells (after_put m w y v) (set lines q l') (Put p (v ∷ []) (place n w.at) ∷ Hold p ∷ history)
      good_put v b unmarked tag room mine f =
          let i = w.at.index in
          let lap = w.at.tag in
          let low = b.at.slot in
          let at = stands_back b.at (omega (arith, tag)) in
          let same_tag : (m.slot i).tag ≡ empty_at lap = tag_is ∙ tag in
          let unclosed = is_open x.marked i lap low at (ap (λ (u : Tagged). u.mark) won ∙ unmarked) in
          record {
            tail = record { at = record { slot = x.tail.at.slot; before = omega (arith, x.tail.at.before) }; near = omega (arith, at, b.gone, b.from, b.short) };
            head = x.head;
            turned = put_turned x.turned i lap low (raised y w.cell) at same_tag room (omega (arith, tag));
            marked = put_marked x.marked i lap low (raised y w.cell) unclosed (ap (λ (u : Tagged). u.mark) (sym won)) (ap (λ (u : Tagged). u.second) (sym won));
            spares = spares_set (after_put m w y v).home
                (λ h. ap (after_put m w y v).home mine ∙ home_else m.home w.cell (some (Some v)) y.index (λ z. own_apart x.turned x.filled x.told.balance w y low won out (others_out i low) (sym z)) ∙ put_finds b.at tag)
                (λ r u ne at'. home_else m.home w.cell (some (Some v)) (cell_of u) (λ z. other_apart r u ne at' (z ∙ own)));
            filled = put_filled x.turned x.filled x.told.balance w y low won out (others_out i low) v at tag;
            once = subst (λ (k : ℕ). Once T n cells (record m { slot = store_word m.slot i (raised y k) }) (set lines q l')) (sym own) (once_traded i y low won mine);
            told = put_told x.told p v (place n w.at) unclosed at (room_here x.turned i lap low at same_tag);
            fine = fine_set (record now { puts = (state n laps history).puts + 1 }) (record { tail = omega arith; head = omega arith; puts = omega arith; takes = omega arith }) f;
          }

      -- The value at the front is taken
      pub record Took : Type 0 where
        pub value : T
        pub left : List T
        pub first : (state n laps history).values ≡ value ∷ left
        pub here : m.home y.index ≡ some (Some value)

      pub takes_first : IsBefore n (state n laps history).takes w.at → y.tag ≡ full_at w.at.tag → Took
      takes_first b tag =
          let i = w.at.index in
          let at = stands_front b (omega (arith, tag)) in
          let more = was_put x.turned i w.at.tag b.slot (omega (arith, tag_is, tag)) in
          let r = front_of (state n laps history).values (omega (arith, more, at, x.told.balance)) in
          record { value = r.value; left = r.left; first = r.is; here = first_stored x.turned x.filled x.told.balance w y b.slot won out (others_out i b.slot) r.value r.left r.is at tag }

      pub good_take : (v : T) (left : List T) → (state n laps history).values ≡ v ∷ left → Walks n (place n m.head) (state n laps history).takes w → y.second ≡ false → y.tag ≡ full_at w.at.tag → cell_of l' ≡ y.index → is_home l ≡ true → is_home l' ≡ false
          → IsFine n laps (record now { takes = (state n laps history).takes + 1 }) l' → Good T n laps cells (after_take m w y) (set lines q l') (Free p 1 ∷ Take p v (place n w.at) ∷ history)
      good_take v left first b unmarked tag mine rests away f =
          let i = w.at.index in
          let lap = w.at.tag in
          let low = b.at.slot in
          let at = stands_front b.at (omega (arith, tag)) in
          let same_tag : (m.slot i).tag ≡ full_at lap = tag_is ∙ tag in
          let unshut = is_unshut x.marked i lap low at (ap (λ (u : Tagged). u.second) won ∙ unmarked) in
          record {
            tail = x.tail;
            head = record { at = record { slot = x.head.at.slot; before = omega (arith, x.head.at.before) }; near = omega (arith, at, b.gone, b.from, b.short) };
            turned = take_turned x.turned i lap low (raised y w.cell) at same_tag (omega (arith, tag));
            marked = take_marked x.marked i lap low (raised y w.cell) unshut (ap (λ (u : Tagged). u.mark) (sym won)) (ap (λ (u : Tagged). u.second) (sym won));
            spares = spares_set (after_take m w y).home
                (λ h. absurd (false≢true (sym away ∙ h)))
                (λ r u ne at'. home_else m.home y.index none (cell_of u) (λ z. other_out r u ne at' i low (z ∙ sym (ap (λ (k : Tagged). k.index) won))));
            filled = subst (λ (vs : List T). Filled T n ((state n laps history).takes + 1) (after_take m w y) vs) (sym (ap (λ (vs : List T). without_first vs) first))
                (take_filled x.turned x.filled x.told.balance w y low won out (others_out i low) v left first at tag (ap m.home own ∙ x.spares q l e rests));
            once = subst (λ (k : ℕ). Once T n cells (record m { slot = store_word m.slot i (raised y k) }) (set lines q l')) (sym own) (once_traded i y low won mine);
            told = take_told x.told p v left (place n w.at) unshut first at;
            fine = fine_set (record now { takes = (state n laps history).takes + 1 }) (record { tail = omega arith; head = omega arith; puts = omega arith; takes = omega arith }) f;
          }

    -- the mark is set at the back, the second one at the front
    pub good_close : IsBefore n (state n laps history).puts w.at → y.mark ≡ false → y.tag ≤ empty_at w.at.tag → cell_of l' ≡ cell_of l → (is_home l' ≡ true → is_home l ≡ true) → IsFine n laps now l' → Good T n laps cells (after_slot m w (marked y)) (set lines q l') (Close p ∷ history)
    good_close b unmarked tag same rests f =
        let i = w.at.index in
        let lap = w.at.tag in
        let at = stands_back b tag in
        record {
          tail = x.tail;
          head = x.head;
          turned = mark_turned x.turned i lap b.slot (marked y) (ap (λ (u : Tagged). u.tag) (sym won));
          marked = close_marked x.marked i lap b.slot (marked y) at refl (ap (λ (u : Tagged). u.second) (sym won));
          spares = spares_stay same rests;
          filled = mark_filled x.filled w (marked y) (ap (λ (u : Tagged). u.tag) (sym won)) (ap (λ (u : Tagged). u.index) (sym won));
          once = once_marked i (marked y) b.slot (ap (λ (u : Tagged). u.index) (sym won)) same;
          told = close_told x.told p (is_open x.marked i lap b.slot at (ap (λ (u : Tagged). u.mark) won ∙ unmarked));
          fine = fine_set now (still now) f;
        }

    pub good_shut : IsBefore n (state n laps history).takes w.at → y.second ≡ false → y.tag ≤ full_at w.at.tag → cell_of l' ≡ cell_of l → (is_home l' ≡ true → is_home l ≡ true) → IsFine n laps now l' → Good T n laps cells (after_slot m w (with_second y)) (set lines q l') (Shut p ∷ history)
    good_shut b unmarked tag same rests f =
        let i = w.at.index in
        let lap = w.at.tag in
        let at = stands_front b tag in
        record {
          tail = x.tail;
          head = x.head;
          turned = mark_turned x.turned i lap b.slot (with_second y) (ap (λ (u : Tagged). u.tag) (sym won));
          marked = shut_marked x.marked i lap b.slot (with_second y) at refl (ap (λ (u : Tagged). u.mark) (sym won));
          spares = spares_stay same rests;
          filled = mark_filled x.filled w (with_second y) (ap (λ (u : Tagged). u.tag) (sym won)) (ap (λ (u : Tagged). u.index) (sym won));
          once = once_marked i (with_second y) b.slot (ap (λ (u : Tagged). u.index) (sym won)) same;
          told = shut_told x.told p (is_unshut x.marked i lap b.slot at (ap (λ (u : Tagged). u.second) won ∙ unmarked));
          fine = fine_set now (still now) f;
        }

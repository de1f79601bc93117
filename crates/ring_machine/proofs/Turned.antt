-- The slots of a ring that has come so far: what a slot's tag tells of a position, and what each step keeps.
use Rattle.std.proofs.Common.{◌≡◌, ◌≢◌, ℕ, zero, suc, ◌+◌, ◌*◌, ◌<◌, ◌≤◌, Bool, true, false, refl, sym, ap, ◌∙◌, lt_of_not-le, arith}
use Rattle.std.proofs.lemmas.Bool.{false≢true}
use Rattle.machine.specs.Words.{Tagged}
use Rattle.machine.proofs.Tests.{is_false}
use Rattle.ring_machine.specs.Machine.{empty_at, full_at, store_word}
use Rattle.ring_machine.specs.Rule.{Turned, Marked}
use Rattle.ring_machine.proofs.Positions.{not_before, lap_up_to, lap_before, other_slot, word_each}

module _ {n laps puts takes : ℕ} {slot : ℕ → Tagged} (t : Turned n laps puts takes slot) (i lap : ℕ) (low : i < n) where
  -- a position whose slot has a higher tag was put, or taken
  pub was_put : empty_at lap < (slot i).tag → lap * n + i < puts
  was_put h = lt_of_not-le (λ le. let r = t.unput i lap low le in omega arith)

  pub was_taken : full_at lap < (slot i).tag → lap * n + i < takes
  was_taken h = lt_of_not-le (λ le. let r = t.untaken i lap low le in omega arith)

  pub not_put : (slot i).tag ≤ empty_at lap → puts ≤ lap * n + i
  not_put h = not_before (lap * n + i) puts (λ b. let r = t.put i lap low b in omega arith)

  pub not_taken : (slot i).tag ≤ full_at lap → takes ≤ lap * n + i
  not_taken h = not_before (lap * n + i) takes (λ b. let r = t.taken i lap low b in omega arith)

  -- and one that is not beyond the back, or the front, and whose slot has no higher tag, is there
  pub at_the_back : lap * n + i ≤ puts → (slot i).tag ≤ empty_at lap → lap * n + i ≡ puts
  at_the_back before h = omega (arith, before, not_put h)

  pub at_the_front : lap * n + i ≤ takes → (slot i).tag ≤ full_at lap → lap * n + i ≡ takes
  at_the_front before h = omega (arith, before, not_taken h)

  -- an empty slot at the back: there is room
  pub room_here : lap * n + i ≡ puts → (slot i).tag ≡ empty_at lap → puts < takes + n
  room_here at e = lt_of_not-le (λ le. absurd (full lap refl le))
    where
      full : (k : ℕ) → lap ≡ k → takes + n ≤ puts → ⊥
      full zero is le = omega (arith, le, at, is, low, ap (λ (x : ℕ). x * n) is)
      full (suc k) is le = let r = t.untaken i k low (omega (arith, le, at, ap (λ (x : ℕ). x * n) is)) in omega (arith, r, e, is)

  -- a slot at the back that is not empty is still full: the ring is
  pub full_here : lap * n + i ≡ puts → (slot i).tag ≤ empty_at lap → (slot i).tag ≢ empty_at lap → takes + n ≤ puts
  full_here at le ne = full lap refl
    where
      full : (k : ℕ) → lap ≡ k → takes + n ≤ puts
      full zero is = absurd (ne (omega (arith, le, is)))
      full (suc k) is =
          let high : (slot i).tag ≤ full_at k = not_before (full_at k) (slot i).tag (λ b. absurd (ne (omega (arith, b, le, is)))) in
          let r : takes ≤ k * n + i = not_before (k * n + i) takes (λ b. let s = t.taken i k low b in omega (arith, s, high)) in
          omega (arith, r, at, ap (λ (x : ℕ). x * n) is)

  -- at the front a slot is either full or empty at this lap
  pub empty_or_full : lap * n + i ≡ takes → empty_at lap ≤ (slot i).tag
  empty_or_full at = least lap refl
    where
      least : (k : ℕ) → lap ≡ k → empty_at lap ≤ (slot i).tag
      least zero is = omega (arith, is)
      least (suc k) is = let r = t.taken i k low (omega (arith, at, low, ap (λ (x : ℕ). x * n) is)) in omega (arith, r, is)

  -- the slot at the back is filled
  pub put_turned : (x : Tagged) → lap * n + i ≡ puts → (slot i).tag ≡ empty_at lap → lap < laps → x.tag ≡ full_at lap → Turned n laps (puts + 1) takes (store_word slot i x)
  put_turned x at e room is = record {
    put = word_each (λ j w. (k : ℕ) → j < n → k * n + j < puts + 1 → empty_at k < w.tag) slot i x
        (λ k low' less. let h = lap_up_to n i k lap low (omega (arith, less, at)) in omega (arith, h, is))
        (λ j ne k low' less. t.put j k low' (let off = other_slot n i j lap k low low' ne in not_last (k * n + j) less (λ z. off (z ∙ sym at))));
    unput = word_each (λ j w. (k : ℕ) → j < n → puts + 1 ≤ k * n + j → w.tag ≤ empty_at k) slot i x
        (λ k low' le. let h = lap_before n i lap k low (omega (arith, le, at)) in omega (arith, h, is))
        (λ j ne k low' le. t.unput j k low' (omega (arith, le)));
    taken = word_each (λ j w. (k : ℕ) → j < n → k * n + j < takes → full_at k < w.tag) slot i x
        (λ k low' less. let h = t.taken i k low less in omega (arith, h, is, e))
        (λ j ne k low' less. t.taken j k low' less);
    untaken = word_each (λ j w. (k : ℕ) → j < n → takes ≤ k * n + j → w.tag ≤ full_at k) slot i x
        (λ k low' le. let h = t.untaken i k low le in omega (arith, h, is, e))
        (λ j ne k low' le. t.untaken j k low' le);
    within = word_each (λ j w. j < n → w.tag ≤ 2 * laps) slot i x (λ low'. omega (arith, is, room)) (λ j ne low'. t.within j low');
  }
    where
      not_last : (a : ℕ) → a < puts + 1 → a ≢ puts → a < puts
      not_last a less ne = lt_of_not-le (λ le. absurd (ne (omega (arith, less, le))))

  -- the slot at the front is emptied
  pub take_turned : (x : Tagged) → lap * n + i ≡ takes → (slot i).tag ≡ full_at lap → x.tag ≡ full_at lap + 1 → Turned n laps puts (takes + 1) (store_word slot i x)
  take_turned x at e is = record {
    put = word_each (λ j w. (k : ℕ) → j < n → k * n + j < puts → empty_at k < w.tag) slot i x
        (λ k low' less. let h = t.put i k low less in omega (arith, h, is, e))
        (λ j ne k low' less. t.put j k low' less);
    unput = word_each (λ j w. (k : ℕ) → j < n → puts ≤ k * n + j → w.tag ≤ empty_at k) slot i x
        (λ k low' le. let h = t.unput i k low le in omega (arith, h, is, e))
        (λ j ne k low' le. t.unput j k low' le);
    taken = word_each (λ j w. (k : ℕ) → j < n → k * n + j < takes + 1 → full_at k < w.tag) slot i x
        (λ k low' less. let h = lap_up_to n i k lap low (omega (arith, less, at)) in omega (arith, h, is))
        (λ j ne k low' less. t.taken j k low' (let off = other_slot n i j lap k low low' ne in not_last (k * n + j) less (λ z. off (z ∙ sym at))));
    untaken = word_each (λ j w. (k : ℕ) → j < n → takes + 1 ≤ k * n + j → w.tag ≤ full_at k) slot i x
        (λ k low' le. let h = lap_before n i lap k low (omega (arith, le, at)) in omega (arith, h, is))
        (λ j ne k low' le. t.untaken j k low' (omega (arith, le)));
    within = word_each (λ j w. j < n → w.tag ≤ 2 * laps) slot i x (λ low'. let h = t.within i low in omega (arith, is, e, h)) (λ j ne low'. t.within j low');
  }
    where
      not_last : (a : ℕ) → a < takes + 1 → a ≢ takes → a < takes
      not_last a less ne = lt_of_not-le (λ le. absurd (ne (omega (arith, less, le))))

  -- a word with another mark
  pub mark_turned : (x : Tagged) → x.tag ≡ (slot i).tag → Turned n laps puts takes (store_word slot i x)
  mark_turned x is = record {
    put = word_each (λ j w. (k : ℕ) → j < n → k * n + j < puts → empty_at k < w.tag) slot i x (λ k low' less. let h = t.put i k low less in omega (arith, h, is)) (λ j ne. t.put j);
    unput = word_each (λ j w. (k : ℕ) → j < n → puts ≤ k * n + j → w.tag ≤ empty_at k) slot i x (λ k low' le. let h = t.unput i k low le in omega (arith, h, is)) (λ j ne. t.unput j);
    taken = word_each (λ j w. (k : ℕ) → j < n → k * n + j < takes → full_at k < w.tag) slot i x (λ k low' less. let h = t.taken i k low less in omega (arith, h, is)) (λ j ne. t.taken j);
    untaken = word_each (λ j w. (k : ℕ) → j < n → takes ≤ k * n + j → w.tag ≤ full_at k) slot i x (λ k low' le. let h = t.untaken i k low le in omega (arith, h, is)) (λ j ne. t.untaken j);
    within = word_each (λ j w. j < n → w.tag ≤ 2 * laps) slot i x (λ low'. let h = t.within i low in omega (arith, h, is)) (λ j ne. t.within j);
  }

module _ {n puts takes : ℕ} {closed shut : Bool} {slot : ℕ → Tagged} (m : Marked n puts takes closed shut slot) (i lap : ℕ) (low : i < n) where
  -- the back is open where its slot has no mark, and the front unshut where it has no second mark
  pub is_open : lap * n + i ≡ puts → (slot i).mark ≡ false → closed ≡ false
  is_open at e = is_false closed (λ h. false≢true (sym e ∙ m.closed_marked h i lap low at))

  pub is_unshut : lap * n + i ≡ takes → (slot i).second ≡ false → shut ≡ false
  is_unshut at e = is_false shut (λ h. false≢true (sym e ∙ m.shut_marked h i lap low at))

  -- a word that keeps both marks, while the ring is open, or unshut
  pub put_marked : (x : Tagged) → closed ≡ false → x.mark ≡ (slot i).mark → x.second ≡ (slot i).second → Marked n (puts + 1) takes closed shut (store_word slot i x)
  put_marked x unclosed mark second = record {
    closed_marked = λ h. absurd (false≢true (sym unclosed ∙ h));
    marked_closed = word_each (λ j w. j < n → w.mark ≡ true → closed ≡ true) slot i x (λ low' h. m.marked_closed i low (sym mark ∙ h)) (λ j ne. m.marked_closed j);
    shut_marked = λ h. word_each (λ j w. (k : ℕ) → j < n → k * n + j ≡ takes → w.second ≡ true) slot i x (λ k low' at. second ∙ m.shut_marked h i k low at) (λ j ne. m.shut_marked h j);
    marked_shut = word_each (λ j w. j < n → w.second ≡ true → shut ≡ true) slot i x (λ low' h. m.marked_shut i low (sym second ∙ h)) (λ j ne. m.marked_shut j);
  }

  pub take_marked : (x : Tagged) → shut ≡ false → x.mark ≡ (slot i).mark → x.second ≡ (slot i).second → Marked n puts (takes + 1) closed shut (store_word slot i x)
  take_marked x unshut mark second = record {
    closed_marked = λ h. word_each (λ j w. (k : ℕ) → j < n → k * n + j ≡ puts → w.mark ≡ true) slot i x (λ k low' at. mark ∙ m.closed_marked h i k low at) (λ j ne. m.closed_marked h j);
    marked_closed = word_each (λ j w. j < n → w.mark ≡ true → closed ≡ true) slot i x (λ low' h. m.marked_closed i low (sym mark ∙ h)) (λ j ne. m.marked_closed j);
    shut_marked = λ h. absurd (false≢true (sym unshut ∙ h));
    marked_shut = word_each (λ j w. j < n → w.second ≡ true → shut ≡ true) slot i x (λ low' h. m.marked_shut i low (sym second ∙ h)) (λ j ne. m.marked_shut j);
  }

  -- the mark is set at the back, the second one at the front
  pub close_marked : (x : Tagged) → lap * n + i ≡ puts → x.mark ≡ true → x.second ≡ (slot i).second → Marked n puts takes true shut (store_word slot i x)
  close_marked x at mark second = record {
    closed_marked = λ h. word_each (λ j w. (k : ℕ) → j < n → k * n + j ≡ puts → w.mark ≡ true) slot i x (λ k low' at'. mark) (λ j ne k low' at'. absurd (other_slot n i j lap k low low' ne (at' ∙ sym at)));
    marked_closed = λ j low' h. refl;
    shut_marked = λ h. word_each (λ j w. (k : ℕ) → j < n → k * n + j ≡ takes → w.second ≡ true) slot i x (λ k low' at'. second ∙ m.shut_marked h i k low at') (λ j ne. m.shut_marked h j);
    marked_shut = word_each (λ j w. j < n → w.second ≡ true → shut ≡ true) slot i x (λ low' h. m.marked_shut i low (sym second ∙ h)) (λ j ne. m.marked_shut j);
  }

  pub shut_marked : (x : Tagged) → lap * n + i ≡ takes → x.second ≡ true → x.mark ≡ (slot i).mark → Marked n puts takes closed true (store_word slot i x)
  shut_marked x at second mark = record {
    closed_marked = λ h. word_each (λ j w. (k : ℕ) → j < n → k * n + j ≡ puts → w.mark ≡ true) slot i x (λ k low' at'. mark ∙ m.closed_marked h i k low at') (λ j ne. m.closed_marked h j);
    marked_closed = word_each (λ j w. j < n → w.mark ≡ true → closed ≡ true) slot i x (λ low' h. m.marked_closed i low (sym mark ∙ h)) (λ j ne. m.marked_closed j);
    shut_marked = λ h. word_each (λ j w. (k : ℕ) → j < n → k * n + j ≡ takes → w.second ≡ true) slot i x (λ k low' at'. second) (λ j ne k low' at'. absurd (other_slot n i j lap k low low' ne (at' ∙ sym at)));
    marked_shut = λ j low' h. refl;
  }

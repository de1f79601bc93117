-- What the words that a pass finds tell of the history, so that its answer is right.
use Rattle.std.proofs.Common.{◌≡◌, ◌≢◌, ℕ, ◌+◌, ◌*◌, ◌<◌, ◌≤◌, Bool, true, false, List, [], ◌∷◌, ◌++◌, length, sym, ap, subst, mul-le-mul_right, lt_of_not-le, arith}
use Rattle.bounded_model.specs.declared.answers.Word.TheVariants.{Next as NextWord}
use Rattle.bounded_model.specs.declared.history.Event.{Event}
use Rattle.bounded_model.specs.declared.history.Event.TheVariants.{Hold, Put, Take, TakeAll, Free, Close, Shut}
use Rattle.bounded_model.specs.Machine.{Shape}
use Rattle.bounded_model.specs.Machine as bounded
use Rattle.bounded_model.specs.Histories.{Later}
use Rattle.bounded_model.specs.Justified.{IsEmpty, IsFull, IsClosed, IsOpen, IsShut, IsUnshut, Justifies, PutSpent}
use Rattle.bounded_model.proofs.Histories.{is_nil}
use Rattle.machine.specs.Words.{Tagged}
use Rattle.ring_machine.specs.declared.lines.Line.{Line}
use Rattle.ring_machine.specs.Machine.{Memory, place, empty_at, full_at}
use Rattle.ring_machine.specs.Answers.{shape, state, HasAllPuts, HasAllValues, IsGauged}
use Rattle.ring_machine.specs.Rule.{IsBefore, Good}
use Rattle.ring_machine.proofs.Positions.{laps_small}
use Rattle.ring_machine.proofs.Turned.{was_put, at_the_back, at_the_front, full_here, not_put, empty_or_full, is_open, is_unshut}
use Rattle.ring_machine.proofs.Told.{few_values}

-- how the counts go on
module _ {T : Type 0} (c : Shape) where
  more_takes : (more h : List (Event T)) → (bounded.state c h).takes ≤ (bounded.state c (more ++ h)).takes
  more_takes [] h = omega arith
  more_takes (Hold p ∷ more) h = more_takes more h
  more_takes (Put p vs k ∷ more) h = more_takes more h
  more_takes (Take p v k ∷ more) h = let r = more_takes more h in omega arith
  more_takes (TakeAll p vs k ∷ more) h = let r = more_takes more h in omega arith
  more_takes (Free p k ∷ more) h = more_takes more h
  more_takes (Close p ∷ more) h = more_takes more h
  more_takes (Shut p ∷ more) h = more_takes more h

  pub takes_grow : {old new : List (Event T)} → Later old new → (bounded.state c old).takes ≤ (bounded.state c new).takes
  takes_grow {old} {new} later = subst (λ (h : List (Event T)). (bounded.state c old).takes ≤ (bounded.state c h).takes) (sym later.is) (more_takes later.more old)

module _ {T : Type 0} {n laps cells : ℕ} {m : Memory T} {lines : List (Line T)} {history : List (Event T)} (x : Good T n laps cells m lines history) (w : Tagged) where
  -- the slot at the back: its mark says closed, and where it is not empty the ring is full
  module _ (b : IsBefore n (state n laps history).puts w) (le : (m.slot w.index).tag ≤ empty_at w.tag) where
    back_here : place n w ≡ (state n laps history).puts
    back_here = at_the_back x.turned w.index w.tag b.slot b.before le

    pub puts_here : (state n laps history).puts ≡ place n w
    puts_here = sym back_here

    pub closed_now : (m.slot w.index).mark ≡ true → IsClosed (shape n laps) history
    closed_now h = x.marked.marked_closed w.index b.slot h

    pub open_now : (m.slot w.index).mark ≡ false → IsOpen (shape n laps) history
    open_now h = is_open x.marked w.index w.tag b.slot back_here h

    pub all_values_now : (m.slot w.index).tag ≢ empty_at w.tag → HasAllValues (shape n laps) history
    all_values_now ne =
        let full = full_here x.turned w.index w.tag b.slot back_here le ne in
        omega (arith, full, x.told.balance, x.told.held, few_values x.told)

    pub full_now : (m.slot w.index).tag ≢ empty_at w.tag → IsFull (shape n laps) history
    full_now ne = let all = all_values_now ne in omega (arith, all, x.told.held)

    -- no slot is filled more often than there are laps
    pub puts_within : (state n laps history).puts ≤ laps * n
    puts_within =
        let h : (state n laps history).puts < laps * n + 1 = lt_of_not-le (λ more.
        let low : 0 < n = omega (arith, b.slot) in
        let high = x.turned.put 0 laps low (omega (arith, more)) in
        absurd (omega (arith, high, x.turned.within 0 low))) in
        omega (arith, h)

    pub gauged_now : (closed : Bool) → (m.slot w.index).mark ≡ closed → IsGauged n laps closed (place n w) history
    gauged_now true h = (closed_now h, puts_here, omega (arith, puts_here, puts_within))
    gauged_now false h = (open_now h, puts_here, omega (arith, puts_here, puts_within))

    -- a tag near the limit means as many laps, and as many puts at least
    pub spent_now : (m.slot w.index).tag ≡ empty_at w.tag → 2 * laps ≤ (m.slot w.index).tag + 1 → Justifies (shape n laps) history (PutSpent (NextWord w.index) (m.slot w.index).tag)
    spent_now tag h =
        let small = laps_small n w.tag (omega (arith, b.slot)) in
        ((tt, omega (arith, h)), omega (arith, tag, h, small, back_here, x.told.holds))

    -- and no slot can be filled once more
    pub all_puts_now : (m.slot w.index).tag ≡ empty_at w.tag → 2 * laps ≤ (m.slot w.index).tag + 1 → HasAllPuts (shape n laps) laps history
    all_puts_now tag h =
        let last : laps * n ≤ w.tag * n = mul-le-mul_right n (omega (arith, tag, h)) in
        omega (arith, last, back_here, puts_within)

  -- the slot at the front: its second mark says shut, and where it is empty the ring is, and its mark says closed
  module _ (b : IsBefore n (state n laps history).takes w) (le : (m.slot w.index).tag ≤ full_at w.tag) where
    front_here : place n w ≡ (state n laps history).takes
    front_here = at_the_front x.turned w.index w.tag b.slot b.before le

    pub takes_here : (state n laps history).takes ≡ place n w
    takes_here = sym front_here

    pub shut_now : (m.slot w.index).second ≡ true → IsShut (shape n laps) history
    shut_now h = x.marked.marked_shut w.index b.slot h

    pub unshut_now : (m.slot w.index).second ≡ false → IsUnshut (shape n laps) history
    unshut_now h = is_unshut x.marked w.index w.tag b.slot front_here h

    -- it is full at this lap, or empty
    pub empty_tag : (m.slot w.index).tag ≢ full_at w.tag → (m.slot w.index).tag ≤ empty_at w.tag
    empty_tag ne = grind (arith, ne, le)

    back_at_front : (m.slot w.index).tag ≤ empty_at w.tag → place n w ≡ (state n laps history).puts
    back_at_front low = let r = not_put x.turned w.index w.tag b.slot low in omega (arith, r, front_here, x.told.balance)

    pub empty_now : (m.slot w.index).tag ≤ empty_at w.tag → IsEmpty (shape n laps) history
    empty_now low = is_nil (state n laps history).values (omega (arith, back_at_front low, front_here, x.told.balance))

    pub closed_at_front : (m.slot w.index).mark ≡ true → IsClosed (shape n laps) history
    closed_at_front h = x.marked.marked_closed w.index b.slot h

    pub open_at_front : (m.slot w.index).tag ≤ empty_at w.tag → (m.slot w.index).mark ≡ false → IsOpen (shape n laps) history
    open_at_front low h = is_open x.marked w.index w.tag b.slot (back_at_front low) h

    -- where it is not empty, a value stands there
    pub some_now : (m.slot w.index).tag ≢ empty_at w.tag → IsEmpty (shape n laps) history → ⊥
    some_now ne none =
        let least = empty_or_full x.turned w.index w.tag b.slot front_here in
        let high : empty_at w.tag < (m.slot w.index).tag = lt_of_not-le (λ h. absurd (ne (omega (arith, h, least)))) in
        omega (arith, was_put x.turned w.index w.tag b.slot high, front_here, x.told.balance, ap length none)

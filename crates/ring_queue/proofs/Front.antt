-- The slot at the front of a closed ring, found from the hint.
use Rattle.std.proofs.Common.{◌≡◌, ℕ, ◌+◌, ◌*◌, ◌<◌, ◌≤◌, List, lt_of_not-le, arith}
use Rattle.std.specs.Prelude.{slice_index}
use Rattle.ring_machine.proofs.Positions.{not_before}
use Rattle.ring_queue.specs.Prelude.{full_at, slot_at, tag_of}
use Rattle.ring_queue.specs.code.Left.{HasTaken, IsFront}

-- a slot of a lap that is not behind the front, and less than so many places before it, or at it
abbrev pub IsNear : ℕ → ℕ → ℕ → ℕ → ℕ → Type 0
IsNear n takes most lap slot = (lap * n + slot ≤ takes) × (takes ≤ lap * n + slot + most)

module _ {n takes : ℕ} {words : List ℕ} (has : HasTaken n takes words) where
  -- it is the front, if its slot was not taken in this lap
  pub front_here : (most lap slot tag : ℕ) → slot < n → IsNear n takes most lap slot → tag ≡ tag_of (slice_index words (slot_at n slot)) → tag ≤ 2 * lap + 1 → IsFront n takes slot
  front_here most lap slot tag low near is within =
      let up = not_before (lap * n + slot) takes (λ less. let h : full_at lap < tag_of (slice_index words (slot_at n slot)) = has.taken slot lap low less in omega (arith, h, is, within)) in
      (lap, omega (arith, up, near.0))

  -- else the next slot is not behind it
  pub front_next : (most most' lap slot lap' slot' tag : ℕ) → slot < n → IsNear n takes most lap slot → tag ≡ tag_of (slice_index words (slot_at n slot)) → 2 * lap + 1 < tag → lap' * n + slot' ≡ lap * n + slot + 1 → most ≤ most' + 1
      → IsNear n takes most' lap' slot'
  front_next most most' lap slot lap' slot' tag low near is beyond place less =
      let up : lap * n + slot < takes = lt_of_not-le (λ le. let h : tag_of (slice_index words (slot_at n slot)) ≤ full_at lap = has.untaken slot lap low le in omega (arith, h, is, beyond)) in
      (omega (arith, up, place), omega (arith, near.1, place, less))

  -- where it has come so far, it is the front
  pub front_at_last : (most lap slot : ℕ) → most ≡ 0 → IsNear n takes most lap slot → IsFront n takes slot
  front_at_last most lap slot none near = (lap, omega (arith, near.0, near.1, none))

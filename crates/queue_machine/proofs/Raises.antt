-- No exchange of the queue needs a tag above the limit, whether it is won or lost: so running code can
-- form the new word before it tries.
use Rattle.std.proofs.Common.{◌≡◌, ℕ, ◌+◌, ◌<◌, ◌≤◌, List, [], ◌∷◌, length, sym, ap, ◌∙◌, arith}
use mathlib.Core.Option.{Option}
use Rattle.bounded_model.specs.declared.history.Event.{Event}
use Rattle.machine.specs.Words.{Tagged}
use Rattle.machine.specs.Chains.{last}
use Rattle.queue_machine.specs.declared.lines.Line.{Line}
use Rattle.queue_machine.specs.Machine.{Memory, next_of}
use Rattle.queue_machine.specs.Answers.{state}
use Rattle.queue_machine.specs.Rule.{Lists, Lags, Ends, Good}
use Rattle.queue_machine.proofs.Chain.{chain_length, behind, at_end}
use Rattle.queue_machine.proofs.Linked.{no_null}
use Rattle.queue_machine.proofs.Told.{queued_length}

-- a number that is not greater is less or the same
below_or_same : (a b limit : ℕ) → a ≤ b → b ≤ limit → (a ≡ b → b < limit) → a < limit
below_or_same a b limit le within same = grind (arith, same)

module _ {T : Type 0} {n limit : ℕ} {m : Memory T} {g : Lists} {who : ℕ → Option ℕ} {lines : List (Line T)} {history : List (Event T)} (x : Good T n limit m g who lines history) where
  -- the tail's tag is the number of puts, or one less
  pub puts_passed : m.tail.tag + length g.after ≡ (state n limit history).puts
  puts_passed = omega (arith, x.linked.chained.place, x.told.head_tag, x.told.balance, x.told.listed, queued_length x.linked.chained, chain_length x.linked.chained)

  pub puts_within : (state n limit history).puts ≤ limit
  puts_within = omega (arith, x.told.ahead, x.told.cells_tag, x.numbered.cells_limit)

  -- SwingTail, SwingToLinked and SwingTailToTake
  pub swing_below : (w y : Tagged) → Lags m.tail m.next w y → w.tag < limit
  swing_below w y lags = below_or_same w.tag m.tail.tag limit lags.past.tag (omega (arith, puts_passed, puts_within)) (λ e.
      let is : next_of m m.tail.index ≡ y.index = ap (next_of m) (sym (lags.past.index e)) ∙ ap (λ (u : Tagged). u.index) (lags.follows e) in
      let one = ap length (behind x.linked.chained (λ z. lags.node (sym is ∙ z))) in
      omega (arith, one, puts_passed, puts_within))

  -- LinkNext and MarkNext
  pub ends_below : (w y : Tagged) → Ends m.tail m.next w y → y.tag < limit
  ends_below w y ends = below_or_same y.tag (m.next w.index).tag limit ends.was.tag (x.numbered.next_limit w.index) (λ e.
      let at = ends.last e in
      let is : m.next m.tail.index ≡ y = ap m.next (sym at.1) ∙ ends.was.is e in
      let end : g.after ≡ [] = at_end x.linked.chained (omega (arith, no_null x.linked)) (ap (λ (u : Tagged). u.index) is ∙ ends.null) in
      let same : m.next (last (m.tail.index ∷ g.after)) ≡ y = ap (λ (a : List ℕ). m.next (last (m.tail.index ∷ a))) end ∙ is in
      let room = (x.numbered.fresh (ap (λ (u : Tagged). u.mark) same ∙ ends.unmarked)).below in
      omega (arith, room, ap (λ (u : Tagged). u.tag) same, ap (λ (u : Tagged). u.tag) is, ap (λ (i : ℕ). (m.next i).tag) at.1))

  -- TakeHead
  pub take_below : (h : Tagged) → h.tag < m.tail.tag → h.tag < limit
  take_below h passed = omega (arith, passed, puts_passed, puts_within)

-- Where a gauge goes on.
use Rattle.std.proofs.Common.{◌≡◌, ℕ, Bool, List, [], refl, sym, subst}
use Rattle.std.specs.Prelude.{Option as Slot}
use Rattle.ring_queue.specs.Prelude.{Came, Done, Next, On, Outcome, ToGauge, fields_of, place}
use Rattle.ring_queue.specs.declared.calls.gauging.Gauge.{Gauge}
use Rattle.ring_queue.specs.declared.code.gauging.GaugeAt.{GaugeAt}
use Rattle.ring_queue.specs.code.Machine.{Answered}
use Rattle.ring_queue.specs.Calls.{RingWith, machine_of, room_of}
use Rattle.ring_queue.specs.declared.code.walking.Found.{Found}
use Rattle.ring_queue.specs.declared.code.walking.WalkAt.{WalkAt}
use Rattle.ring_queue.specs.code.Gauging.{gauge_account, gauge_line}
use Rattle.ring_queue.specs.code.Walking.{to_back}
use Rattle.ring_queue.specs.code.Steps.{WalkedTo}
use Rattle.ring_queue.proofs.Walks.{busy, LeadsTo, walk_goes, walk_ends}

module _ {T : Type 0} {D : Type 0} (c : RingWith T D) (s : GaugeAt) (r : Outcome) (has : List (ℕ × Slot T)) (came : Came (machine_of c).core (gauge_line s) r [] has) where
  abbrev pub Gauging : Next GaugeAt (Answered Gauge) → Type 0
  Gauging next = LeadsTo c (gauge_account c.table.shared.key) s r has has next

  pub gauge_goes : (to : WalkAt) → WalkedTo c (to_back ToGauge) s.at r [] has (On to) → Gauging (On (record { at = to }))
  gauge_goes to walked = walk_goes c (gauge_account c.table.shared.key) s (to_back ToGauge) s.at refl r has has came to walked (record { at = to })
      (λ l e. record { same = refl; is = e.0; busy = busy {T = T} (to_back ToGauge) to; hand = e.1; knows = e.2 })

  -- the mark is that of the slot, and the number the place of the position
  pub gauge_ends : (end : Found) → WalkedTo c (to_back ToGauge) s.at r [] has (Done end) → (closed : Bool) (used : ℕ) → closed ≡ (fields_of end.slot).mark → used ≡ place (room_of c) (fields_of end.walk.at)
      → Gauging (Done (record { kept = end.walk.spare; reply = record { closed = closed; used = used } }))
  gauge_ends end walked closed used ec eu = subst (λ (g : Gauge). Gauging (Done (record { kept = end.walk.spare; reply = g }))) (λ i. record { closed = sym ec i; used = sym eu i })
      (walk_ends c (gauge_account c.table.shared.key) s (to_back ToGauge) s.at refl r has has came end walked (Done (record { kept = end.walk.spare; reply = record { closed = (fields_of end.slot).mark; used = place (room_of c) (fields_of end.walk.at) } })) (λ l e. record { is = e.0; hand = e.1 }))

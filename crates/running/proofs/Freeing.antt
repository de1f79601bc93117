-- An operation is begun with what is free: by the acts, each pass that is in an operation is at the line of its seat.
use Rattle.std.proofs.Common.{◌≡◌, ℕ, true, false, List, map, sym, ap, ◌∙◌}
use Rattle.std.proofs.lemmas.Bool.{false≢true}
use mathlib.Core.Option.{some}
use lib.ListN.{get_elem?}
use Rattle.bounded_model.specs.declared.history.Event.{Event}
use Rattle.bounded_model.specs.declared.views.PassView.{PassView}
use Rattle.machine.specs.declared.seats.Begun.{Begun}
use Rattle.machine.specs.declared.seats.View.{View}
use Rattle.machine.specs.declared.seats.View.TheVariants.{AtPass}
use Rattle.machine.proofs.Sums.{at_map}
use Rattle.running.specs.Machine.{Names, Machine}
use Rattle.running.specs.Laws.{Lawful}
use Rattle.running.specs.Rule.{who, line_in}
use Rattle.running.specs.Acts.{IsAt, Led, played}

module _ {T L O : Type 0} {names : Names L O} {m : Machine T L O names} (lawful : Lawful m) (memory : m.core.Memory) (views : List (View T L)) (h : List (Event T)) (led : Led names m.core memory views h) where
  abbrev line : ℕ → L
  line = (played names m.core led.acts).line

  seat_of : (q : ℕ) → names.is_idle (line q) ≡ false → (j : ℕ) × (get_elem? (map (line_in names) views) j ≡ some (line q))
  seat_of q busy = let o = led.owned q in of_view o.view o.seat o.there ((led.each o.seat o.view o.there).lines q o.owns)
    where
      of_view : (v : View T L) (j : ℕ) → get_elem? views j ≡ some v → IsAt names m.core (line q) v → (j : ℕ) × (get_elem? (map (line_in names) views) j ≡ some (line q))
      of_view (AtPass p begun l) j there at = (j, at_map (line_in names) views j (AtPass p begun l) there ∙ ap (λ (k : L). some k) (sym (at.busy (sym at.idle ∙ busy))))
      of_view v j there at = absurd (false≢true (sym busy ∙ at))

  pub begins_free : (o : O) (id : ℕ) (p : PassView T) (from : Begun T L) (l : L) → get_elem? views id ≡ some (AtPass p from l) → m.core.Good memory (who views) (map (line_in names) views) h → names.is_idle l ≡ true
      → m.core.Free memory line (names.first o l)
  begins_free o id p from l mine good idle = lawful.laws.free memory (record { who = who views; lines = map (line_in names) views; history = h; seat = id; line = l; good = good; here = at_map (line_in names) views id (AtPass p from l) mine }) o line idle seat_of

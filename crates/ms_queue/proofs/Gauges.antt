-- What a gauge gives, and where it goes on.
use Rattle.std.specs.Prelude.{Option as Slot}
use Rattle.std.proofs.Common.{◌≡◌, ℕ, true, List, [], refl, sym, subst}
use Rattle.ms_queue.specs.Prelude.{Came, Done, Finding, Leads, Line, Lost, Next, On, Outcome, Seeking as Aim, ToGauge, names, next, tag_of}
use Rattle.ms_queue.specs.declared.calls.gauging.Gauge.{Gauge}
use Rattle.ms_queue.specs.declared.code.gauging.GaugeAt.{GaugeAt}
use Rattle.ms_queue.specs.declared.code.gauging.GaugeAt.TheVariants.{Seeking, CheckNext}
use Rattle.ms_queue.specs.declared.code.seeking.Seek.{Seek}
use Rattle.ms_queue.specs.declared.code.seeking.End.{End}
use Rattle.ms_queue.specs.declared.code.seeking.End.TheVariants.{Closed as EndClosed, Open}
use Rattle.ms_queue.specs.code.Gauging.{gauge_account, gauge_line}
use Rattle.ms_queue.specs.Calls.{QueueWith, limit_of, machine_of}
use Rattle.ms_queue.specs.code.Machine.{Answered}
use Rattle.ms_queue.specs.code.Steps.{Seeks, SoughtTo}
use Rattle.ms_queue.proofs.Seeks.{busy, sought_within}

-- where the code of a gauge goes on, by the way to the end of the chain
abbrev pub gauging : Next Seek End → Next GaugeAt (Answered Gauge)
gauging (On at) = On (Seeking at)
gauging (Lost at) = Lost (Seeking at)
gauging (Done (EndClosed w)) = Done (record { kept = tt; reply = record { closed = true; used = tag_of w } })
gauging (Done (Open w x)) = On (CheckNext w x)

module _ {T : Type 0} {D : Type 0} (c : QueueWith T D) where
  abbrev pub GaugesTo : GaugeAt → List (ℕ × Slot T) → Next GaugeAt (Answered Gauge) → Line T → Type 0
  GaugesTo s has to l = Leads names (gauge_account c.table.shared.key) s l has to

  abbrev pub Gauging : GaugeAt → Outcome → List (ℕ × Slot T) → Next GaugeAt (Answered Gauge) → Type 0
  Gauging s r has to = Finding (machine_of c).core (gauge_line s) r [] has (λ found came. GaugesTo s has to (next (limit_of c) (gauge_line s) found came))

  follows : (s : GaugeAt) (has : List (ℕ × Slot T)) (to : Next Seek End) (l : Line T) → Seeks c l ToGauge [] has to → GaugesTo s has (gauging to) l
  follows s has (On at) l e = record { same = refl; is = e.0; busy = busy {T = T} ToGauge at; hand = e.1; knows = e.2 }
  follows s has (Lost at) l e = record { same = refl; is = e.0; busy = busy {T = T} ToGauge at; hand = e.1; knows = e.2 }
  follows s has (Done (EndClosed w)) l e = record { is = e.0; hand = e.1 }
  follows s has (Done (Open w x)) l e = record { same = refl; is = e.0; busy = refl; hand = e.1; knows = e.2.0 }

  pub sought_gauge : {s : GaugeAt} {at : Seek} → s ≡ Seeking at → (r : Outcome) (has : List (ℕ × Slot T)) → Came (machine_of c).core (gauge_line s) r [] has → (to : Next Seek End) → ((aim : Aim T) (had has : List (ℕ × Slot T)) → SoughtTo c aim at r had has to) → Gauging s r has (gauging to)
  sought_gauge {s} {at} is r has came to sought = subst (λ (k : GaugeAt). Gauging k r has (gauging to)) (sym is)
      (sought_within c ToGauge at r [] has to (sought ToGauge [] has) (subst (λ (k : GaugeAt). Came (machine_of c).core (gauge_line k) r [] has) is came) (GaugesTo (Seeking at) has (gauging to)) (follows (Seeking at) has to))

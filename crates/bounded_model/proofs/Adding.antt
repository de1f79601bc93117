-- What one call adds after another.
use Rattle.std.proofs.Common.{◌≡◌, List, ◌++◌, refl}
use Rattle.bounded_model.specs.declared.history.Event.{Event}
use Rattle.bounded_model.specs.declared.views.PassView.{PassView}
use Rattle.bounded_model.specs.Histories.{own, Later}
use Rattle.bounded_model.specs.Justified.{Sometime}
use Rattle.bounded_model.specs.Laws.{Adds}
use Rattle.bounded_model.proofs.Histories.{Later-refl, Later-trans, own-append}

module _ {T : Type 0} where
  -- what a call adds, its pass's own events gain
  pub own-adds : {v w : PassView T} {events : List (Event T)} → Adds v w events → own w.number w.seen ≡ events ++ own v.number v.seen
  own-adds {v} {w} {events} a = rw (a.number, a.seen, own-append v.number a.between v.seen, a.own_events) refl

  pub Sometime-now : {old new : List (Event T)} {P : List (Event T) → Type 0} → Later old new → P new → Sometime old new P
  Sometime-now {old} {new} later holds = record { at = new; since = later; until = Later-refl new; holds = holds }

  pub Sometime-wider : {older old new newer : List (Event T)} {P : List (Event T) → Type 0} → Later older old → Later new newer → Sometime old new P → Sometime older newer P
  Sometime-wider a b s = record { at = s.at; since = Later-trans a s.since; until = Later-trans s.until b; holds = s.holds }

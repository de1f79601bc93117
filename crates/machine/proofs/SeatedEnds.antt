-- What the root may say at the end of a history.
use Rattle.std.proofs.Common.{refl, List}
use Rattle.bounded_model.specs.declared.history.Event.{Event}
use Rattle.bounded_model.specs.declared.views.RootView.{RootView}
use Rattle.bounded_model.specs.Machine.{Shape, state, Legal}
use Rattle.bounded_model.specs.Laws.{IsSound, Leaves}
use Rattle.bounded_model.proofs.Histories.{known_from_own}
use Rattle.bounded_model.proofs.Whole.{whole}
use Rattle.machine.specs.Seats.{Rooted}

pub leaves : {T : Type 0} (c : Shape) (h : List (Event T)) (r : RootView T) (heard : List (Event T)) → Legal c h → Rooted h r heard → IsSound c r → Leaves c r (state c h).values
leaves c h r heard legal f sound = record {
  history = h;
  legal = legal;
  begins = f.seen;
  joined = f.joined;
  given = known_from_own r.given h f.unknown;
  whole = λ nobody. whole c h r f.seen sound nobody f.joined f.unknown;
  values = refl;
}

use Rattle.std.proofs.Common.{set, sym, ap, ◌∙◌}
use Rattle.std.specs.Prelude.{Option as Slot}
use Rattle.treiber_stack.proofs.Loading.{next_value, place_gone, place_here}
use Rattle.treiber_stack.proofs.bulk.source.PlacesSource.take.Goals as goal

pub unreachable-requires : goal.unreachable-requires
unreachable-requires g c =
    let r = c.requires in
    let z = sym c.in-None.is ∙ c.take.ensures.value ∙ place_here r.0 c.args.self.now.places.now c.args.at r.1 r.2 c.index-self-at.result ∙ (next_value r.0 c.args.at r.1).3 in
    absurd cc

pub returns-clause-taken : goal.returns-clause-taken
returns-clause-taken g c vs low are =
    let places = c.args.self.now.places.now in (
      (low, sym (place_here vs places c.args.at low are c.index-self-at.result) ∙ sym c.take.ensures.value ∙ c.in-Some.is),
      ap (λ (place : Slot _). set places c.args.at place) c.take.ensures.after ∙ place_gone vs places c.args.at low are,
    )

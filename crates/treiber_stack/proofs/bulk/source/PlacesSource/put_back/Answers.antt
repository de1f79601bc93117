use Rattle.std.proofs.Common.{set, sym, ap, ◌∙◌}
use Rattle.std.specs.Prelude.{Option as Slot}
use Rattle.treiber_stack.proofs.Loading.{place_back, place_empty}
use Rattle.treiber_stack.proofs.bulk.source.PlacesSource.put_back.Goals as goal

pub unreachable-requires : goal.unreachable-requires
unreachable-requires g c =
    let r = c.requires in
    let z = sym (place_empty r.0 c.args.self.now.places.now c.args.at r.1.0 r.2 c.index-self-at.result) ∙ sym c.replace.ensures.value ∙ c.in-Some.is in
    absurd cc

pub returns-clause-back : goal.returns-clause-back
returns-clause-back g c vs next are =
    let places = c.args.self.now.places.now in
    ap (λ (place : Slot _). set places c.args.at place) c.replace.ensures.after ∙ place_back vs places c.args.at next.0 c.args.value next.1 are

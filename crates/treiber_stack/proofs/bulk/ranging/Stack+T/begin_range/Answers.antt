use Rattle.std.proofs.Common.{ℕ, sym, ap, ◌∙◌}
use Rattle.treiber_stack.specs.code.Ranging.{places_from}
use Rattle.treiber_stack.specs.Calls.{pass_in}
use Rattle.treiber_stack.proofs.RangePlaces.{in_places}
use Rattle.treiber_stack.proofs.bulk.ranging.Stack+T.begin_range.Goals as goal

pub returns : goal.returns
returns g c =
    let a = c.args in
    let put = c.put_of_places.ensures in
    let vs = put.0 in
    let starts = c.begin.ensures vs put.2 in
    ((vs, put.1, in_places a.self.now vs (pass_in a.by) c.begin.result a.values.now starts.0 (put.1 ∙ ap (λ (k : ℕ). places_from k vs) (sym starts.1))), starts.2)

use Rattle.std.proofs.Common.{List, get_or, sym, ap, ◌∙◌}
use Rattle.std.specs.Prelude.{Some}
use Rattle.treiber_stack.proofs.Loading.{copy_here}
use Rattle.treiber_stack.proofs.bulk.source.CopiesSource.take.Goals as goal

pub returns-clause-taken : goal.returns-clause-taken
returns-clause-taken g c vs low is =
    let d = c.index-self-at.result in
    ((low, copy_here vs c.args.at d low ∙ ap (λ (us : List _). Some (get_or us c.args.at d)) (sym is)), is)

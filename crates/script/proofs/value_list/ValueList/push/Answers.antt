use Rattle.std.proofs.Common.{ℕ, List, ◌∷◌, [], ◌++◌, ap, ◌∙◌}
use Rattle.script.specs.Words.{values_in}
use Rattle.script.proofs.Lists.{values_push}
use Rattle.script.proofs.value_list.ValueList.push.Goals as goal

pub returns : goal.returns
returns c =
    ap values_in c.in_ok-push.ensures.items
    ∙ values_push c.self.inside.places.items c.args.value
    ∙ ap (λ (values : List (List ℕ)). values ++ c.args.value ∷ []) c.self.view_is

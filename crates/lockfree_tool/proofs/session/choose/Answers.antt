use Rattle.std.proofs.Common.{◌≡◌, map, take, string_bytes, ap, ◌∙◌}
use Rattle.std.proofs.lemmas.List.{take_all}
use Rattle.lockfree_tool.proofs.Asked.{details_asked}
use Rattle.lockfree_tool.proofs.session.choose.Goals as goal

pub returns-clause-asked : goal.returns-clause-asked
returns-clause-asked c =
    let items = c.deref-word-items.result.now in
    let whole : take c.loop-word.word-index items ≡ items = take_all c.loop-word.word-index items c.loop-word-test.false in
    let same : map (λ word. word.now) c.loop-word.texts.items ≡ map string_bytes c.in-Ok.words.items = c.loop-word.invariant ∙ ap (λ xs. map string_bytes xs) (whole ∙ c.deref-word-items.ensures.value) in
    rw c.in-Ok.is (details_asked c.read_words.result _ _ (ap (λ xs. map (λ word. word.now) xs) c.deref.ensures.value ∙ same) c.read_words.ensures.asked)

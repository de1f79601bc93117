use Rattle.std.proofs.Common.{◌∙◌}
use Rattle.std.proofs.lemmas.List.{get_or-map, length-map}
use Rattle.std.specs.Cmp.Lexicographic.{same_text}
use Rattle.words.proofs.chosen.has_word.Goals as goal

pub returns-then-eq : goal.returns-then-eq
returns-then-eq c = λ yes.
    let words = c.args.words.now in
    let place = c.loop-word.word-index in
    let within = c.loop-word-test.true in
    let same = same_text _ c.args.wanted.now c.if-eq.ensures in
    (place, rw (length-map words (λ word. word.now)) within, get_or-map (λ word. word.now) words place _ c.args.wanted.now within ∙ same)

use Rattle.std.proofs.Common.{◌≡◌, ◌≢◌, ◌<◌, length, get_or, arith, sym, ◌∙◌}
use Rattle.std.proofs.lemmas.Str.Pattern.{starts_char}
use Rattle.script.proofs.Numbers.{refuses_plus, refuses_zero, parsed_number}
use Rattle.script.proofs.number.number_of.Goals as goal
use Rattle.script.proofs.number.number_of.Goals.{else-word-gt1-via-then-word-gt1+else-starts_with-2, else-word-gt1-via-else-word-gt1}

pub returns-then-starts_with : goal.returns-then-starts_with
returns-then-starts_with c =
    sym (refuses_plus c.args.word.now ((starts_char 43 c.args.word.now _ c.starts_with.ensures.cases (omega arith) (omega arith)).0 c.if-starts_with.true))

pub returns-then-starts_with-2 : goal.returns-then-starts_with-2
returns-then-starts_with-2 c =
    sym (refuses_zero c.args.word.now ((starts_char 48 c.args.word.now _ c.starts_with-then-word-gt1.ensures.cases (omega arith) (omega arith)).0 c.if-starts_with-2.true) (omega arith))

pub returns : goal.returns
returns c =
    let word = c.args.word.now in
    let plus = starts_char 43 word _ c.starts_with.ensures.cases (omega arith) (omega arith) in
    let no-plus : get_or word 0 0 ≢ 43 = λ h. let t = plus.1 h in let f = c.if-starts_with.false in absurd cc in
    let no-zero : get_or word 0 0 ≡ 48 → 1 < length word → ⊥ = λ h long.
    elim c.else-word-gt1.branch as (λ _. ⊥) [
      | else-word-gt1-via-then-word-gt1+else-starts_with-2 w ↦
          let t = (starts_char 48 word _ w.starts_with-then-word-gt1.ensures.cases (omega arith) (omega arith)).1 h in
          let f = w.if-starts_with-2.false in absurd cc
      | else-word-gt1-via-else-word-gt1 w ↦ omega arith
    ] in
    c.ok.ensures.value ∙ parsed_number word _ c.parse.ensures.value.0 no-plus no-zero

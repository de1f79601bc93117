use Rattle.std.proofs.Common.{rules, ◌≡◌, ◌<◌, true, false, length, sym, ap, ◌∙◌, arith}
use Rattle.script.specs.Words.{is_value}
use Rattle.script.proofs.Cuts.{shorter_cut}
use Rattle.script.proofs.Spaced.{values_more, values_wrong, values_last}
use Rattle.script.proofs.value.are_values.Goals as goal

pub returns-then-not-is_value : goal.returns-then-not-is_value
returns-then-not-is_value c =
    let is : is_value c.in-Some.word.now ≡ false = ap is_value (sym c.as_bytes.ensures.value) ∙ sym c.is_value.ensures ∙ c.if-not-is_value.true in
    sym (c.loop-word.invariant.told ∙ values_wrong c.loop-word.rest.now c.in-Some.word.now c.in-Some.after.now (sym c.in-Some.ensures) is)

pub loop-word-smaller : goal.loop-word-smaller
loop-word-smaller c =
    let shorter = shorter_cut 32 c.loop-word.rest.now c.in-Some.word.now c.in-Some.after.now (sym c.in-Some.ensures) in
    let P : length c.in-Some.after.now < length c.loop-word.rest.now = omega arith in P

pub loop-word-preserved : goal.loop-word-preserved
loop-word-preserved c =
    let is : is_value c.in-Some.word.now ≡ true = ap is_value (sym c.as_bytes.ensures.value) ∙ sym c.is_value.ensures ∙ c.if-not-is_value.false in
    record {
      told = c.loop-word.invariant.told ∙ values_more c.loop-word.rest.now c.in-Some.word.now c.in-Some.after.now (sym c.in-Some.ensures) is;
      text = search rules;
    }

pub returns : goal.returns
returns c =
    c.is_value-2.ensures ∙ ap is_value c.as_bytes-2.ensures.value ∙ sym (c.loop-word.invariant.told ∙ values_last c.loop-word.rest.now (sym c.in_default.ensures))

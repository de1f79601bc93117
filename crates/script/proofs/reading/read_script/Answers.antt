use Rattle.std.proofs.Common.{sym, ◌∙◌, arith, inr}
use Rattle.std.proofs.lemmas.Result.{err_from_is_err_and}
use Rattle.script.proofs.Scripts.{script-no_line, script-first, script-read, script-fault}
use Rattle.script.proofs.Cuts.{shorter_cut}
use Rattle.script.proofs.Splitting.{ended_cut}
use Rattle.script.proofs.reading.read_script.Goals as goal

pub returns-in_default : goal.returns-in_default
returns-in_default c = inr (script-no_line c.args.text.now (sym c.is_ended.ensures ∙ c.if-not-is_ended.false) (sym c.in_default.ensures))

pub returns-in_default-first_line : goal.returns-in_default-first_line
returns-in_default-first_line c = inr (script-first c.args.text.now c.in-Some.first.now c.in-Some.rest.now _ (sym c.is_ended.ensures ∙ c.if-not-is_ended.false) (sym c.in-Some.ensures) (sym c.in_default-first_line.ensures))

pub lines_of-requires-clause-ended : goal.lines_of-requires-clause-ended
lines_of-requires-clause-ended c = ended_cut c.args.text.now c.in-Some.first.now c.in-Some.rest.now (sym c.in-Some.ensures) (sym c.is_ended.ensures ∙ c.if-not-is_ended.false)

pub lines_of-requires-clause-short : goal.lines_of-requires-clause-short
lines_of-requires-clause-short c = omega (arith, shorter_cut 10 c.args.text.now c.in-Some.first.now c.in-Some.rest.now (sym c.in-Some.ensures))

pub returns-in_err-lines : goal.returns-in_err-lines
returns-in_err-lines c =
    let p = err_from_is_err_and c.from_residual.result c.from_residual.ensures.1 in
    rw (p.1, p.2) (script-fault c.args.text.now c.in-Some.first.now c.in-Some.rest.now _ c.in_err-lines.field-0.0 (sym c.is_ended.ensures ∙ c.if-not-is_ended.false) (sym c.in-Some.ensures) (sym c.in-Some-first_line.ensures) c.in_err-lines.ensures)

pub returns : goal.returns
returns c = script-read c.args.text.now c.in-Some.first.now c.in-Some.rest.now _ _ (sym c.is_ended.ensures ∙ c.if-not-is_ended.false) (sym c.in-Some.ensures) (sym c.in-Some-first_line.ensures) c.in_ok-lines.ensures

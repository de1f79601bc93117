use Rattle.std.proofs.Common.{string_bytes}
use Rattle.std.proofs.lemmas.Result.{err_from_is_err_and}
use Rattle.script.specs.View.{head_view}
use Rattle.script_replay.proofs.Outcomes.{read_fault, read_only, read_unwritten, read_output}
use Rattle.script_replay.proofs.Tracing.{read_traced}
use Rattle.script_replay.proofs.replaying.output_for.Goals as goal

pub returns-in_err-script-clause-fault : goal.returns-in_err-script-clause-fault
returns-in_err-script-clause-fault g c =
    let p = err_from_is_err_and c.from_residual-in_err-script.result c.from_residual-in_err-script.ensures.1 in
    rw (p.1, p.2) (read_fault (g.R.Read.remaining c.args.reader.now) c.in_ok-text.text.items c.deref.result.now c.in_err-script.field-0.0 c.in_ok-text.ensures.all c.deref.ensures.value c.in_err-script.ensures.fault)

pub returns-in_err-script-clause-only : goal.returns-in_err-script-clause-only
returns-in_err-script-clause-only g c =
    let p = err_from_is_err_and c.from_residual-in_err-script.result c.from_residual-in_err-script.ensures.1 in
    rw (p.1, p.2) (read_only (g.R.Read.remaining c.args.reader.now) c.in_ok-text.text.items c.deref.result.now c.in_err-script.field-0.0 c.in_ok-text.ensures.all c.deref.ensures.value c.in_err-script.ensures.only)

pub returns-in_err-script-clause-unwritten : goal.returns-in_err-script-clause-unwritten
returns-in_err-script-clause-unwritten g c =
    let p = err_from_is_err_and c.from_residual-in_err-script.result c.from_residual-in_err-script.ensures.1 in
    rw (p.1, p.2) (read_unwritten c.in_err-script.field-0.0)

pub returns-clause-output : goal.returns-clause-output
returns-clause-output g c =
    let script = c.in_ok-script.script in
    read_output (g.R.Read.remaining c.args.reader.now) c.in_ok-text.text.items c.deref.result.now (string_bytes c.in_ok-answer.field-0) (head_view script.header) script.lines.items c.in_ok-text.ensures.all c.deref.ensures.value c.in_ok-script.ensures.script c.in_ok-answer.ensures.output

pub returns-clause-traced : goal.returns-clause-traced
returns-clause-traced g c =
    let script = c.in_ok-script.script in
    read_traced (g.R.Read.remaining c.args.reader.now) c.in_ok-text.text.items c.deref.result.now (string_bytes c.in_ok-answer.field-0) (head_view script.header) script.lines.items _ _ c.in_ok-text.ensures.all c.deref.ensures.value c.in_ok-script.ensures.script c.in_ok-answer.ensures.traced

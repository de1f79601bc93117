use Rattle.std.proofs.Common.{rules, ◌++◌, refl, take, Err}
use Rattle.std.specs.Io.KnownBytes.{Consumes, IsAtEnd}
use Rattle.std.proofs.KnownBytes.{Consumes-trans, Consumes-kept}
use Rattle.std.proofs.lemmas.Result.{err_from_is_err_and}
use Rattle.audit.specs.declared.faults.ReadFault.TheVariants.{Device, TooLong}
use Rattle.audit.specs.Lines.{bytes_of}
use Rattle.audit.proofs.LinesSoFar.{fault-after, not-at-end}
use Rattle.audit.proofs.OneReading.{accepts-file}
use Rattle.audit.proofs.message_file.read_messages.Goals as goal

pub returns-in-Ok-eq0-clause-accepts : goal.returns-in-Ok-eq0-clause-accepts
returns-in-Ok-eq0-clause-accepts g c =
    let before = g.R.Read.remaining c.args.reader.now in
    let after = g.R.Read.remaining c.read.new.self in
    let took : Consumes before after (bytes_of c.loop.lines) = search rules in
    let end : IsAtEnd after = search rules in
    accepts-file before after c.loop.lines.sender c.finish.result (bytes_of c.loop.lines) took (λ _. end) c.finish.ensures

pub returns-in_err-read-in-Ok-clause-bytes : goal.returns-in_err-read-in-Ok-clause-bytes
returns-in_err-read-in-Ok-clause-bytes g c =
    let p = err_from_is_err_and c.from_residual.result c.from_residual.ensures.1 in
    let took = Consumes-trans _ _ _ _ _ c.loop.invariant.0 c.in-Ok.ensures.bytes.0 in
    (bytes_of c.loop.lines ++ take c.in-Ok.count c.read.new.buf, took, rw (p.1, p.2) c.in_err-read-in-Ok.ensures.err)

pub returns-in_err-read-in-Ok-clause-end : goal.returns-in_err-read-in-Ok-clause-end
returns-in_err-read-in-Ok-clause-end g c =
    let p = err_from_is_err_and c.from_residual.result c.from_residual.ensures.1 in
    rw (p.1, p.2) (λ e. absurd (not-at-end _ c.in_err-read-in-Ok.ensures.within e))

pub returns-in_err-read-in-Ok-clause-accepts : goal.returns-in_err-read-in-Ok-clause-accepts
returns-in_err-read-in-Ok-clause-accepts g c =
    let p = err_from_is_err_and c.from_residual.result c.from_residual.ensures.1 in
    let took = Consumes-trans _ _ _ _ _ c.loop.invariant.0 c.in-Ok.ensures.bytes.0 in
    rw (p.1, p.2)
    (accepts-file _ _ c.args.sender (Err c.in_err-read-in-Ok.field-0.0) _ took (λ e. absurd (not-at-end _ c.in_err-read-in-Ok.ensures.within e)) c.in_err-read-in-Ok.ensures.err)

pub returns-in-Err-2-clause-bytes : goal.returns-in-Err-2-clause-bytes
returns-in-Err-2-clause-bytes g c =
    let lines = c.loop.lines in
    (bytes_of lines, Consumes-kept _ _ _ _ c.loop.invariant.0 c.in-Err.ensures.bytes, fault-after Device _ lines.messages.items lines.begun lines.sound refl)

pub returns-clause-bytes : goal.returns-clause-bytes
returns-clause-bytes g c =
    let lines = c.loop.lines in
    (bytes_of lines, c.loop.invariant.0, fault-after TooLong _ lines.messages.items lines.begun lines.sound refl)

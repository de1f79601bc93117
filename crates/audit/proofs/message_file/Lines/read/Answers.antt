use Rattle.std.proofs.Common.{◌++◌, sym, ap, subst, ◌∙◌, append_assoc, take, drop, ◌+◌, take-append-drop}
use Rattle.std.proofs.lemmas.List.{drop_more}
use Rattle.std.proofs.lemmas.Result.{err_from_is_err_and}
use Rattle.audit.specs.Lines.{bytes_of}
use Rattle.audit.specs.MessageFile.{IsFirstFault}
use Rattle.audit.proofs.message_file.Lines.read.Goals as goal

pub returns-in_err-read_byte-clause-err : goal.returns-in_err-read_byte-clause-err
returns-in_err-read_byte-clause-err c =
    let bytes = c.args.bytes.now in
    let i = c.loop-byte.byte-index in
    let old = bytes_of c.args.self.now in
    let all = ap (λ l. l ++ drop i bytes) c.loop-byte.invariant.0 ∙ append_assoc old (take i bytes) (drop i bytes) ∙ ap (λ l. old ++ l) (take-append-drop i bytes) in
    let next = ap (λ l. bytes_of c.loop-byte.self ++ l) (sym (drop_more bytes i 0 c.loop-byte-test.true)) in
    let p = err_from_is_err_and c.from_residual.result c.from_residual.ensures.1 in
    rw (p.1, p.2) (subst (IsFirstFault c.in_err-read_byte.field-0.0) (next ∙ all) (c.in_err-read_byte.ensures.err (drop (i + 1) bytes)))

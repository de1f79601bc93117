use Rattle.std.proofs.Common.{rules, ◌≡◌, length, sym, subst, Err}
use Rattle.std.proofs.lemmas.Result.{err_from_is_err_and}
use Rattle.audit.specs.declared.faults.ReadFault.{ReadFault}
use Rattle.audit.specs.Reading.{ReachesEnd}
use Rattle.file_relay.specs.Inputs.{IsRead}
use Rattle.file_relay.proofs.Readers.{has-fault, is-read, no-room}
use Rattle.file_relay.proofs.inputs.read_input.Goals as goal

pub returns-in_err-messages-clause-fault : goal.returns-in_err-messages-clause-fault
returns-in_err-messages-clause-fault g c =
    let p = err_from_is_err_and c.from_residual.result c.from_residual.ensures.1 in
    let told = c.in_err-messages.ensures in
    rw (p.1, p.2)
    (has-fault g.R.Read.remaining c.args.reader c.read_messages.new.reader told.bytes.0 c.in_err-messages.field-0.0 told.bytes.1
    (λ e. told.end (subst (λ (f : ReadFault). ReachesEnd (Err f)) (sym e) tt)) told.bytes.2 told.accepts)

pub returns-in_err-push-clause-fault : goal.returns-in_err-push-clause-fault
returns-in_err-push-clause-fault g c =
    let p = err_from_is_err_and c.from_residual-in_err-push.result c.from_residual-in_err-push.ensures.1 in
    let told = c.in_ok-messages.ensures in
    let read = is-read g.R.Read.remaining _ c.args.reader c.read_messages.new.reader c.in_ok-messages.messages.items told.bytes.0 told.bytes.1 (told.end tt) told.bytes.2.0 told.bytes.2.1 in
    rw (p.1, p.2) (no-room g.R.Read.remaining c.args.reader _ c.in_ok-messages.messages.items read)

pub returns-clause-read : goal.returns-clause-read
returns-clause-read g c =
    let told = c.in_ok-messages.ensures in
    let read = is-read g.R.Read.remaining _ c.args.reader c.read_messages.new.reader c.in_ok-messages.messages.items told.bytes.0 told.bytes.1 (told.end tt) told.bytes.2.0 told.bytes.2.1 in
    let place : c.len.result ≡ length c.args.inputs.now.items = search rules in
    (c.in_ok-messages.messages, c.in_ok-push.ensures.items, subst (λ s. IsRead g.R.Read.remaining s c.args.reader c.in_ok-messages.messages.items) place read)

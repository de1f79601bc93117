use Rattle.std.proofs.Common.{rules, sym, subst₂}
use Rattle.audit.specs.Reading.{AreLines}
use Rattle.audit.proofs.LinesSoFar.{AreLines-ended}
use Rattle.audit.proofs.message_file.Lines.end_line.Goals as goal

pub invariant_of-self-2 : goal.invariant_of-self-2
invariant_of-self-2 c =
    let old = c.args.self.now in
    let ended = AreLines-ended old.sender old.messages.items old.begun _ old.sound (search rules) (search rules) (search rules) (search rules) in
    record { sound = subst₂ (AreLines old.sender) (sym (c.in_ok-push.ensures.items)) (sym c.clear.ensures) ended }

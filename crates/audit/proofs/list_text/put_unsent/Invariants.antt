-- The lines so far went out.
use Rattle.std.proofs.Common.{take, codes}
use Rattle.std.specs.List.{flat_map}
use Rattle.audit.specs.Output.{Sends, sent}
use Rattle.audit.specs.Texts.{message_line}
use Rattle.audit.proofs.list_text.put_unsent.Given as goal

abbrev pub invariant-loop-messages : goal.invariant-loop-messages
invariant-loop-messages g l =
    Sends (flat_map (λ messages. flat_map (message_line (codes "unsent")) messages.items) (take l.messages-index l.unsent)) (sent (g.W.Write.contents l.initial.writer) l.initial.progress.written) (sent (g.W.Write.contents l.writer) l.progress.written)

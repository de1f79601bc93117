-- The lines so far went out.
use Rattle.std.proofs.Common.{take}
use Rattle.std.specs.List.{flat_map}
use Rattle.audit.specs.Output.{Sends, sent}
use Rattle.audit.specs.Texts.{message_line}
use Rattle.audit.proofs.list_text.put_messages.Given as goal

abbrev pub invariant-loop-message : goal.invariant-loop-message
invariant-loop-message g l =
    Sends (flat_map (message_line l.word) (take l.message-index l.messages)) (sent (g.W.Write.contents l.initial.writer) l.initial.progress.written) (sent (g.W.Write.contents l.writer) l.progress.written)

-- The lines so far went out.
use Rattle.std.proofs.Common.{take}
use Rattle.std.specs.List.{flat_map}
use Rattle.audit.specs.Output.{Sends, sent}
use Rattle.audit.specs.Texts.{take_line}
use Rattle.audit.proofs.list_text.put_delivered.Given as goal

abbrev pub invariant-loop-taken : goal.invariant-loop-taken
invariant-loop-taken g l =
    Sends (flat_map take_line (take l.taken-index l.delivered)) (sent (g.W.Write.contents l.initial.writer) l.initial.progress.written) (sent (g.W.Write.contents l.writer) l.progress.written)

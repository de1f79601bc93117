-- The parts so far went out.
use Rattle.std.proofs.Common.{take}
use Rattle.std.specs.List.{flat_map}
use Rattle.audit.specs.Output.{Sends, sent}
use Rattle.audit.proofs.output.put_all.Given as goal

abbrev pub invariant-loop-part : goal.invariant-loop-part
invariant-loop-part g l =
    Sends (flat_map (λ part. part.now) (take l.part-index l.parts)) (sent (g.W.Write.contents l.initial.writer) l.initial.progress.written) (sent (g.W.Write.contents l.writer) l.progress.written)

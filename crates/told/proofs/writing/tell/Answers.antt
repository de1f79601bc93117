use Rattle.std.proofs.Common.{ℕ, List, ap, ◌∙◌, Bor}
use Rattle.std.proofs.lemmas.List.{take_rest}
use Rattle.told.proofs.Sending.{Sent, Sent-more, Sent-same}
use Rattle.told.proofs.writing.tell.Goals as goal
use Rattle.told.proofs.writing.tell.Goals.{in-Ok-write, in-Err-write}

pub loop-preserved : goal.loop-preserved
loop-preserved g c =
    let now : Bor (List ℕ) → List ℕ = λ b. b.now in
    let contents = g.W.Write.contents in
    elim c.match-write.branch as (λ _. Sent (contents c.args.writer.now) (contents c.write.new.self) c.args.bytes.now c.match-write.rest.now) [
      | in-Ok-write w ↦ Sent-more _ _ _ _ c.loop.rest.now _ w.in-Ok-write.count c.loop.invariant w.in-Ok-write.ensures.bound w.in-Ok-write.ensures.bytes (ap now w.rest-is ∙ take_rest c.loop.rest.now w.in-Ok-write.count)
      | in-Err-write w ↦ Sent-same _ _ _ _ c.loop.rest.now _ c.loop.invariant w.in-Err-write.ensures.bytes (ap now w.rest-is)
    ]

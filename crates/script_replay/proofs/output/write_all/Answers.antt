use Rattle.std.proofs.Common.{ℕ, List, length, sym, subst, arith}
use Rattle.std.proofs.lemmas.List.{take_all}
use Rattle.std.specs.Io.KnownBytes.{Appends}
use Rattle.script_replay.proofs.output.write_all.Goals as goal

-- a text that went out whole is a front of itself
pub returns-in-Whole-clause-front : goal.returns-in-Whole-clause-front
returns-in-Whole-clause-front g c =
    let bytes = c.args.bytes.now in
    let went = λ (out : List ℕ). Appends (g.W.Write.contents c.args.writer.now) (g.W.Write.contents c.tell.new.writer) out in
    (length bytes, subst went (sym (take_all (length bytes) bytes (omega arith))) c.in-Whole.ensures)

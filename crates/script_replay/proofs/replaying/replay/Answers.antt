use Rattle.std.proofs.Common.{string_bytes}
use Rattle.script_replay.proofs.Outcomes.{wrote_ok, wrote_err}
use Rattle.script_replay.proofs.replaying.replay.Goals as goal

pub returns-clause-replies : goal.returns-clause-replies
returns-clause-replies g c =
    wrote_ok c.write_all.result (g.R.Read.remaining c.args.reader.now) (g.W.Write.contents c.args.writer.now) (g.W.Write.contents c.write_all.new.writer) (string_bytes c.in_ok-output.output) c.as_bytes.result.now c.in_ok-output.ensures.output c.as_bytes.ensures.value c.write_all.ensures.all

pub returns-clause-front : goal.returns-clause-front
returns-clause-front g c =
    wrote_err c.write_all.result (g.R.Read.remaining c.args.reader.now) (g.W.Write.contents c.args.writer.now) (g.W.Write.contents c.write_all.new.writer) (string_bytes c.in_ok-output.output) c.as_bytes.result.now c.in_ok-output.ensures.output c.as_bytes.ensures.value c.write_all.ensures.front

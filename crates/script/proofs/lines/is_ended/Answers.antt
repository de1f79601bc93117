use Rattle.std.proofs.Common.{arith}
use Rattle.script.proofs.Cuts.{ends_with_last}
use Rattle.script.proofs.lines.is_ended.Goals as goal

pub returns-in-len1-up : goal.returns-in-len1-up
returns-in-len1-up c = ends_with_last c.args.text.now 0 (omega arith)

use Rattle.std.proofs.Common.{sym}
use Rattle.script.proofs.Ascii.{no_text-no_head}
use Rattle.script.proofs.reading.first_line.Goals as goal

pub returns-in_default : goal.returns-in_default
returns-in_default c = sym (no_text-no_head c.args.text.now c.in_default.ensures.cases.0)

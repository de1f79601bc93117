use Rattle.std.proofs.Common.{sym}
use Rattle.script.specs.Reading.{split_lines}
use Rattle.script.proofs.Ascii.{no_text-no_line}
use Rattle.script.proofs.reading.line_before.Goals as goal

pub returns-in_default : goal.returns-in_default
returns-in_default c = sym (no_text-no_line c.args.order c.args.text.now (split_lines c.args.after.now) c.in_default.ensures.cases.0)

use Rattle.std.proofs.Common.{sym, ap, ◌∙◌}
use Rattle.script.specs.declared.line.Line.{Line}
use Rattle.script.specs.Reading.{split_lines, is_in_place}
use Rattle.script.proofs.Splitting.{finish_in_place}
use Rattle.script.proofs.reading.is_in_place.Goals as goal

pub returns-in-Finish : goal.returns-in-Finish
returns-in-Finish c =
    c.is_empty.ensures
    ∙ sym (finish_in_place c.args.after.now)
    ∙ ap (λ (line : Line). is_in_place line (split_lines c.args.after.now)) (sym c.in-Finish.is)

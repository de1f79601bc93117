-- What the definitions see of a script that was read.
use Rattle.std.specs.Prelude.{ℕ, List}
use Rattle.tagged_index.specs.declared.limit.Limits.{Limits}
use Rattle.tagged_index.specs.Limits.{capacity_of, tag_limit_of}
use Rattle.script.specs.declared.header.Header.{Header}
use Rattle.script.specs.declared.line.Line.{Line}
use Rattle.script.specs.declared.reading.Script.{Script}
use Rattle.script.specs.Script.{Head}

abbrev pub limits_view : Limits → ℕ × ℕ
limits_view limits = (capacity_of limits, tag_limit_of limits)

abbrev pub head_view : Header → Head
head_view header = record { order = header.order; capacity = capacity_of header.limits; tag_limit = tag_limit_of header.limits }

abbrev pub script_view : Script → Head × List Line
script_view script = (head_view script.header, script.lines.items)

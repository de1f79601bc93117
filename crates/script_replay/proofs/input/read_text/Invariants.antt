use Rattle.std.proofs.Common.{◌≤◌, vec_len}
use Rattle.std.specs.Io.KnownBytes.{Consumes}
use Rattle.script.specs.declared.reading.TheConstants.{MAX_SCRIPT_LEN}
use Rattle.script_replay.proofs.input.read_text.Given as goal

-- what was read so far
abbrev pub invariant-loop : goal.invariant-loop
invariant-loop g l = record {
  read : Consumes (g.R.Read.remaining l.fn.reader) (g.R.Read.remaining l.reader) l.text.items;
  short : vec_len l.text ≤ MAX_SCRIPT_LEN;
}

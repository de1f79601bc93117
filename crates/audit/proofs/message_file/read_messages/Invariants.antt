-- The bytes that the reader has given were taken in.
use Rattle.std.proofs.Common.{◌≡◌}
use Rattle.std.specs.Io.KnownBytes.{Consumes}
use Rattle.audit.specs.Lines.{bytes_of}
use Rattle.audit.proofs.message_file.read_messages.Given as goal

abbrev pub invariant-loop : goal.invariant-loop
invariant-loop g l = Consumes (g.R.Read.remaining l.initial.reader) (g.R.Read.remaining l.reader) (bytes_of l.lines) × (l.lines.sender ≡ l.sender)

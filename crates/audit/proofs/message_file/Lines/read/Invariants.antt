-- The bytes so far were taken in.
use Rattle.std.proofs.Common.{◌≡◌, ◌++◌, take}
use Rattle.audit.specs.Lines.{bytes_of}
use Rattle.audit.proofs.message_file.Lines.read.Given as goal

abbrev pub invariant-loop-byte : goal.invariant-loop-byte
invariant-loop-byte l = (bytes_of l.self ≡ bytes_of l.initial.self ++ take l.byte-index l.bytes) × (l.self.sender ≡ l.initial.self.sender)

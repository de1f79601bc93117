-- The bytes that have been taken in.
use Rattle.std.specs.Prelude.{ℕ, List, ◌++◌}
use Rattle.audit.specs.declared.message_file.Lines.{Lines}
use Rattle.audit.specs.MessageFile.{text_of}
use Rattle.audit.specs.Reading.{texts}

abbrev pub bytes_of : Lines → List ℕ
bytes_of l = text_of (texts l.messages.items) ++ l.begun

-- What reading a message file answers.
use Rattle.std.specs.Prelude.{◌≡◌, ℕ, ◌≤◌, List, [], length, map, All, Result, Ok, Err, Vec}
use Rattle.std.specs.declared.alloc.Global.{Global}
use Rattle.relay.specs.declared.messages.Message.{Message}
use Rattle.relay.specs.Messages.{IsInput}
use Rattle.audit.specs.declared.message_file.TheConstants.{MAX_LINES}
use Rattle.audit.specs.declared.faults.ReadFault.{ReadFault}
use Rattle.audit.specs.declared.faults.ReadFault.TheVariants.{NoMemory, Device, LineTooLong, NoFinalNewline, TooMany, TooLong}
use Rattle.audit.specs.MessageFile.{IsLine, IsMessageFile, IsFirstFault}

-- the lines that these messages hold
abbrev pub texts : List Message → List (List ℕ)
texts messages = map (λ m. m.text.items) messages

-- the messages of the lines that have ended, and the line that has begun
pub record AreLines (sender : ℕ) (messages : List Message) (begun : List ℕ) : Type 0 where
  pub input : IsInput sender messages
  pub each : All IsLine (texts messages)
  pub last : IsLine begun
  pub few : length messages ≤ MAX_LINES
  pub none_after : length messages ≡ MAX_LINES → begun ≡ []

-- the bytes that were read are the file of these messages, or hold this fault
abbrev pub Answers : ℕ → List ℕ → Result (Vec Message Global) ReadFault → Type 0
Answers sender bytes (Ok messages) = IsMessageFile bytes (texts messages.items) × IsInput sender messages.items
Answers sender bytes (Err fault) = IsFirstFault fault bytes

-- answers that come at the end of the file
abbrev pub ReachesEnd : Result (Vec Message Global) ReadFault → Type 0
ReachesEnd (Ok messages) = Unit {0}
ReachesEnd (Err NoFinalNewline) = Unit {0}
ReachesEnd (Err _) = ⊥

-- these lines, or a fault that is not the file's
abbrev pub ReadsAll : List (List ℕ) → Result (Vec Message Global) ReadFault → Type 0
ReadsAll lines (Ok messages) = texts messages.items ≡ lines
ReadsAll lines (Err NoMemory) = Unit {0}
ReadsAll lines (Err Device) = Unit {0}
ReadsAll lines (Err TooLong) = Unit {0}
ReadsAll lines (Err (LineTooLong n)) = ⊥
ReadsAll lines (Err NoFinalNewline) = ⊥
ReadsAll lines (Err TooMany) = ⊥

-- What readers gave.
use Rattle.std.specs.Prelude.{◌≡◌, ℕ, ◌+◌, List, [], ◌∷◌, ◌++◌, length, Option, IfSome, Vec, Err}
use Rattle.std.specs.declared.alloc.Global.{Global}
use Rattle.relay.specs.declared.messages.Message.{Message}
use Rattle.relay.specs.Messages.{IsInput}
use Rattle.audit.specs.declared.faults.ReadFault.{ReadFault}
use Rattle.audit.specs.declared.faults.ReadFault.TheVariants.{NoFinalNewline}
use Rattle.audit.specs.MessageFile.{IsMessageFile, IsFirstFault}
use Rattle.audit.specs.Reading.{texts, ReadsAll}

-- if the reader's bytes are known, they are the file of these messages, and the messages are this sender's input
pub record IsRead {R : Type 0} (remaining : R → Option (List ℕ)) (sender : ℕ) (reader : R) (messages : List Message) : Type 0 where
  pub text : List ℕ
  pub told : IfSome (remaining reader) (λ bytes. bytes ≡ text)
  pub file : IsMessageFile text (texts messages)
  pub input : IsInput sender messages

-- each reader gave the input of the sender of its place, from this sender on
abbrev pub AreRead : {R : Type 0} → (R → Option (List ℕ)) → ℕ → List R → List (Vec Message Global) → Type 0
AreRead remaining sender [] [] = Unit {0}
AreRead remaining sender [] (messages ∷ inputs) = ⊥
AreRead remaining sender (reader ∷ readers) [] = ⊥
AreRead remaining sender (reader ∷ readers) (messages ∷ inputs) = IsRead remaining sender reader messages.items × AreRead remaining (sender + 1) readers inputs

-- the fault is the first of the bytes that the reader gave; if they end within a line, it gave all
-- that it had
-- the fault is none of the file's if the reader had a message file
pub record HasFault {R : Type 0} (remaining : R → Option (List ℕ)) (reader : R) (fault : ReadFault) : Type 0 where
  pub front : List ℕ
  pub rest : List ℕ
  pub told : IfSome (remaining reader) (λ bytes. bytes ≡ front ++ rest)
  pub first : IsFirstFault fault front
  pub end : fault ≡ NoFinalNewline → rest ≡ []
  pub outside : (lines : List (List ℕ)) → IfSome (remaining reader) (λ bytes. IsMessageFile bytes lines → ReadsAll lines (Err fault))

-- the readers before the one of this number, from 1, gave message files, and that one has the fault
pub record IsFileFault {R : Type 0} (remaining : R → Option (List ℕ)) (readers : List R) (number : ℕ) (fault : ReadFault) : Type 0 where
  pub before : List R
  pub reader : R
  pub after : List R
  pub inputs : List (Vec Message Global)
  pub all : readers ≡ before ++ reader ∷ after
  pub number_is : number ≡ length before + 1
  pub read : AreRead remaining 0 before inputs
  pub has : HasFault remaining reader fault

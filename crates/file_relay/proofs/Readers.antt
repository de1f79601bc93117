-- Readers that were read, one after another.
use Rattle.std.proofs.Common.{◌≡◌, ℕ, suc, ◌+◌, List, [], ◌∷◌, ◌++◌, length, Option, None, Some, IfSome, refl, sym, ap, subst, ◌∙◌, append-nil, arith, Vec, Err}
use Rattle.std.specs.declared.alloc.Global.{Global}
use Rattle.std.specs.Io.KnownBytes.{Consumes, IsAtEnd}
use Rattle.relay.specs.declared.messages.Message.{Message}
use Rattle.relay.specs.Messages.{IsInput}
use Rattle.audit.specs.declared.faults.ReadFault.{ReadFault}
use Rattle.audit.specs.declared.faults.ReadFault.TheVariants.{NoMemory, NoFinalNewline}
use Rattle.audit.specs.MessageFile.{IsMessageFile, IsFirstFault}
use Rattle.audit.specs.Reading.{texts, ReadsAll}
use Rattle.file_relay.specs.Inputs.{AreRead, HasFault, IsRead}

-- a reader that is at its end gave all that it had
gave-all : (a b : Option (List ℕ)) (bytes : List ℕ) → Consumes a b bytes → IsAtEnd b → IfSome a (λ xs. xs ≡ bytes)
gave-all None b bytes p q = tt
gave-all (Some x) None bytes p q = absurd p
gave-all (Some x) (Some y) bytes p q = p ∙ ap (λ l. bytes ++ l) q ∙ append-nil bytes

module _ {R : Type 0} (remaining : R → Option (List ℕ)) where
  pub is-read : (sender : ℕ) (reader after : R) (messages : List Message) (bytes : List ℕ) → Consumes (remaining reader) (remaining after) bytes
      → IsAtEnd (remaining after) → IsMessageFile bytes (texts messages) → IsInput sender messages → IsRead remaining sender reader messages
  is-read sender reader after messages bytes took end file input =
      record { text = bytes; told = gave-all _ _ bytes took end; file = file; input = input }

  -- what a reader did not give is nothing where it is at its end
  not-given : (a b : Option (List ℕ)) (bytes : List ℕ) (fault : ReadFault) → Consumes a b bytes → (fault ≡ NoFinalNewline → IsAtEnd b)
      → (rest : List ℕ) × IfSome a (λ xs. xs ≡ bytes ++ rest) × (fault ≡ NoFinalNewline → rest ≡ [])
  not-given None b bytes fault p q = ([], tt, λ _. refl)
  not-given (Some x) None bytes fault p q = absurd p
  not-given (Some x) (Some y) bytes fault p q = (y, p, q)

  pub has-fault : (reader after : R) (bytes : List ℕ) (fault : ReadFault) → Consumes (remaining reader) (remaining after) bytes → (fault ≡ NoFinalNewline → IsAtEnd (remaining after))
      → IsFirstFault fault bytes → ((lines : List (List ℕ)) → IfSome (remaining reader) (λ text. IsMessageFile text lines → ReadsAll lines (Err fault)))
      → HasFault remaining reader fault
  has-fault reader after bytes fault took end first outside =
      let (rest, told, nothing) = not-given (remaining reader) (remaining after) bytes fault took end in
      record { front = bytes; rest = rest; told = told; first = first; end = nothing; outside = outside }

  -- at the end of a file no memory is left
  at-end : (bytes : List ℕ) (lines : List (List ℕ)) → IsMessageFile bytes lines → IsFirstFault NoMemory bytes
  at-end bytes lines file = record {
    lines = lines;
    begun = [];
    more = [];
    whole = simp append-nil file.whole;
    each = file.each;
    last = record { short = omega arith; plain = λ k d l. absurd (omega arith) };
    few = file.few;
    shown = tt;
  }

  no-fault-of : (a : Option (List ℕ)) (lines : List (List ℕ)) → IfSome a (λ text. IsMessageFile text lines → ReadsAll lines (Err NoMemory))
  no-fault-of None lines = tt
  no-fault-of (Some text) lines = λ _. tt

  pub no-room : (reader : R) (sender : ℕ) (messages : List Message) → IsRead remaining sender reader messages → HasFault remaining reader NoMemory
  no-room reader sender messages read = record {
    front = read.text;
    rest = [];
    told = subst (λ l. IfSome (remaining reader) (λ bytes. bytes ≡ l)) (sym (append-nil read.text)) read.told;
    first = at-end read.text (texts messages) read.file;
    end = λ _. refl;
    outside = no-fault-of (remaining reader);
  }

  pub as-many : (sender : ℕ) (readers : List R) (inputs : List (Vec Message Global)) → AreRead remaining sender readers inputs → length inputs ≡ length readers
  as-many sender [] [] read = refl
  as-many sender [] (m ∷ ms) read = absurd read
  as-many sender (r ∷ rs) [] read = absurd read
  as-many sender (r ∷ rs) (m ∷ ms) read = ap suc (as-many (sender + 1) rs ms read.1)

  pub one-more : (sender : ℕ) (readers : List R) (inputs : List (Vec Message Global)) (reader : R) (messages : Vec Message Global) → AreRead remaining sender readers inputs
      → IsRead remaining (sender + length inputs) reader messages.items → AreRead remaining sender (readers ++ reader ∷ []) (inputs ++ messages ∷ [])
  one-more sender [] [] reader messages read next = (subst (λ s. IsRead remaining s reader messages.items) (omega arith) next, tt)
  one-more sender [] (m ∷ ms) reader messages read next = absurd read
  one-more sender (r ∷ rs) [] reader messages read next = absurd read
  one-more sender (r ∷ rs) (m ∷ ms) reader messages read next =
      (read.0, one-more (sender + 1) rs ms reader messages read.1 (subst (λ s. IsRead remaining s reader messages.items) (omega arith) next))

  pub next-more : (readers : List R) (inputs : List (Vec Message Global)) (reader : R) (messages : Vec Message Global) → AreRead remaining 0 readers inputs
      → IsRead remaining (length inputs) reader messages.items → AreRead remaining 0 (readers ++ reader ∷ []) (inputs ++ messages ∷ [])
  next-more readers inputs reader messages read next =
      one-more 0 readers inputs reader messages read (subst (λ s. IsRead remaining s reader messages.items) (omega arith) next)

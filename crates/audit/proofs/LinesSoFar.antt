-- What a step of reading keeps of the lines so far.
use Rattle.std.proofs.Common.{◌≡◌, ◌≢◌, ℕ, ◌+◌, ◌<◌, List, [], ◌∷◌, ◌++◌, length, All, refl, sym, subst, zero, suc, append-nil, arith, length-append, Err}
use Rattle.std.proofs.lemmas.List.{map-append, length-map}
use Rattle.std.proofs.lemmas.List.Elements.{All-append}
use Rattle.relay.specs.declared.messages.Message.{Message}
use Rattle.relay.specs.Messages.{GoOnFrom}
use Rattle.audit.specs.declared.message_file.TheConstants.{MAX_LINES}
use Rattle.audit.specs.declared.faults.ReadFault.{ReadFault}
use Rattle.audit.specs.declared.faults.ReadFault.TheVariants.{NoMemory, Device, LineTooLong, NoFinalNewline, TooMany, TooLong}
use Rattle.audit.specs.MessageFile.{IsLine, text_of, Shows, IsFirstFault}
use Rattle.audit.specs.Reading.{texts, AreLines, ReachesEnd}

GoOnFrom-snoc : (sender seq : ℕ) (ms : List Message) (m : Message) → GoOnFrom sender seq ms → m.sender ≡ sender → m.seq ≡ seq + length ms → GoOnFrom sender seq (ms ++ m ∷ [])
GoOnFrom-snoc sender seq [] m h s e = (s, omega arith, tt)
GoOnFrom-snoc sender seq (n ∷ ms) m h s e = (h.0, h.1, GoOnFrom-snoc sender (seq + 1) ms m h.2 s (omega arith))

IsLine-nil : IsLine []
IsLine-nil = record { short = omega arith; plain = λ k d l. absurd (omega arith) }

one : (line : List ℕ) → IsLine line → All IsLine (line ∷ [])
one line h zero d l = h
one line h (suc k) d l = absurd (omega arith)

-- the line has ended
pub AreLines-ended : (sender : ℕ) (ms : List Message) (begun : List ℕ) (m : Message) → AreLines sender ms begun → length ms < MAX_LINES
    → m.sender ≡ sender → m.seq ≡ length ms → m.text.items ≡ begun → AreLines sender (ms ++ m ∷ []) []
AreLines-ended sender ms begun m h room s e t = record {
  input = GoOnFrom-snoc sender 0 ms m h.input s (omega arith);
  each = simp map-append (All-append IsLine (texts ms) (m.text.items ∷ []) h.each (one (m.text.items) (subst IsLine (sym t) h.last)));
  last = IsLine-nil;
  few = omega (arith, length-append ms (m ∷ []));
  none_after = λ _. refl;
}

-- a fault of the reader comes after bytes that are well so far
pub fault-after : (fault : ReadFault) (sender : ℕ) (ms : List Message) (begun : List ℕ) → AreLines sender ms begun → Shows fault (texts ms) begun []
    → IsFirstFault fault (text_of (texts ms) ++ begun)
fault-after fault sender ms begun h shown = record {
  lines = texts ms;
  begun = begun;
  more = [];
  whole = sym (append-nil (text_of (texts ms) ++ begun));
  each = h.each;
  last = h.last;
  few = omega (arith, length-map {A = Message} {B = List ℕ}, h.few);
  shown = shown;
}

-- a fault that is not the end's leaves the end open
pub not-at-end : (fault : ReadFault) → fault ≢ NoFinalNewline → ReachesEnd (Err fault) → ⊥
not-at-end NoMemory h e = e
not-at-end Device h e = e
not-at-end (LineTooLong n) h e = e
not-at-end NoFinalNewline h e = h refl
not-at-end TooMany h e = e
not-at-end TooLong h e = e

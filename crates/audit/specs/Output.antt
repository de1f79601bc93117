-- What a call that writes a text does to its writer.
use Rattle.std.specs.Prelude.{◌≡◌, ℕ, ◌+◌, ◌<◌, List, ◌++◌, length, Option, Result, Ok, Err}
use Rattle.std.specs.Io.KnownBytes.{Appends}
use Rattle.std.specs.Io.Iter.{u64_saturate}
use Rattle.audit.specs.declared.faults.AuditFault.{AuditFault}
use Rattle.audit.specs.declared.faults.AuditFault.TheVariants.{Write}

-- what has gone out: the writer's bytes, if they are known, and how many of them this call wrote
pub record Sent : Type 0 where
  pub bytes : Option (List ℕ)
  pub count : ℕ

abbrev pub sent : Option (List ℕ) → ℕ → Sent
sent bytes count = record { bytes = bytes; count = count }

-- these bytes went out, and the count of all that went out rose by theirs; it stays at the largest `u64`
pub record Sends (out : List ℕ) (before after : Sent) : Type 0 where
  pub bytes : Appends before.bytes after.bytes out
  pub count : after.count ≡ u64_saturate (before.count + length out)

-- the bytes that went out are the first of the text, and not all of it
pub record Stops (text : List ℕ) (before after : Sent) : Type 0 where
  pub out : List ℕ
  pub rest : List ℕ
  pub front : text ≡ out ++ rest
  pub some : 0 < length rest
  pub sends : Sends out before after

-- the text went out; or the writer failed, and the fault says how many bytes had gone out
abbrev pub Puts : {T : Type 0} → List ℕ → Sent → Sent → Result T AuditFault → Type 0
Puts text before after (Ok _) = Sends text before after
Puts text before after (Err (Write n)) = Stops text before after × (n ≡ after.count)

-- the text went out; or the writer failed after the first n bytes of the text
abbrev pub Writes : List ℕ → Option (List ℕ) → Option (List ℕ) → Result (Unit {0}) AuditFault → Type 0
Writes text before after (Ok _) = Appends before after text
Writes text before after (Err (Write n)) = Stops text (sent before 0) (sent after n)

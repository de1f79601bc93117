-- What is known after a script was read from a reader whose bytes are known.
use Rattle.std.proofs.Common.{◌≡◌, ◌≢◌, ℕ, List, Option, Some, None, Result, Ok, Err, ap, subst, ◌∙◌, inl}
use Rattle.std.specs.Prelude.{IfErr, IfOk, IfSome, OnOk}
use Rattle.script_replay.specs.declared.fault.ReplayFault.{ReplayFault}
use Rattle.script_replay.specs.declared.fault.ReplayFault.TheVariants.{Output}
use Rattle.script.specs.declared.fault.ScriptFault.{ScriptFault}
use Rattle.script.specs.declared.fault.ScriptFault.TheVariants.{NoMemory, NoFinalNewline, BadLine}
use Rattle.script.specs.declared.line.Line.{Line}
use Rattle.script.specs.Faults.{IsAccepted, IsTextFault}
use Rattle.script.specs.Script.{Head, IsScript}
use Rattle.script.proofs.Laws.{same_script}
use Rattle.script_replay.specs.Faults.{replay_fault_of}
use Rattle.std.specs.Io.KnownBytes.{Appends}
use Rattle.told.specs.Writing.{AppendsFront}
use Rattle.script_replay.specs.Outcome.{IsFaultOf, IsOutputFor, IsOutputOf, IsOutside, Wrote, WroteFront}

-- the text that was read is all of the known bytes
pub known_text : (known : Option (List ℕ)) (read text : List ℕ) (P : List ℕ → Type 0) → IfSome known (λ bytes. read ≡ bytes) → text ≡ read → P text → IfSome known P
known_text None read text P all same holds = tt
known_text (Some bytes) read text P all same holds = subst P (same ∙ all) holds

fault_is : (text : List ℕ) (fault : ScriptFault) → IsTextFault fault text → IsFaultOf (replay_fault_of fault) text
fault_is text NoMemory is = tt
fault_is text NoFinalNewline is = is
fault_is text (BadLine number) is = is

outside_is : (text : List ℕ) (fault : ScriptFault) → (IsAccepted text → fault ≡ NoMemory) → IsAccepted text → IsOutside (replay_fault_of fault)
outside_is text fault only accepted = inl (ap replay_fault_of (only accepted))

pub read_fault : (known : Option (List ℕ)) (read text : List ℕ) (fault : ScriptFault) → IfSome known (λ bytes. read ≡ bytes) → text ≡ read → IsTextFault fault text → IfSome known (λ bytes. IsFaultOf (replay_fault_of fault) bytes)
read_fault known read text fault all same is = known_text known read text (IsFaultOf (replay_fault_of fault)) all same (fault_is text fault is)

pub read_only : (known : Option (List ℕ)) (read text : List ℕ) (fault : ScriptFault) → IfSome known (λ bytes. read ≡ bytes) → text ≡ read → (IsAccepted text → fault ≡ NoMemory) → IfSome known (λ bytes. IsAccepted bytes → IsOutside (replay_fault_of fault))
read_only known read text fault all same only = known_text known read text (λ bytes. IsAccepted bytes → IsOutside (replay_fault_of fault)) all same (outside_is text fault only)

pub read_unwritten : (fault : ScriptFault) → replay_fault_of fault ≢ Output
read_unwritten NoMemory e = absurd cc
read_unwritten NoFinalNewline e = absurd cc
read_unwritten (BadLine number) e = absurd cc

output_is : (text output : List ℕ) (head : Head) (lines : List Line) → IsScript text head lines → IsOutputOf head lines output → IsOutputFor text output
output_is text output head lines is said = record {
  accepted = (head, lines, is);
  output_is = λ other more also.
      let same = same_script text head other lines more is also in
      subst (λ (ls : List Line). IsOutputOf other ls output) same.1 (subst (λ (h : Head). IsOutputOf h lines output) same.0 said);
}

pub read_output : (known : Option (List ℕ)) (read text output : List ℕ) (head : Head) (lines : List Line) → IfSome known (λ bytes. read ≡ bytes) → text ≡ read → IsScript text head lines → IsOutputOf head lines output → IfSome known (λ bytes. IsOutputFor bytes output)
read_output known read text output head lines all same is said = known_text known read text (λ bytes. IsOutputFor bytes output) all same (output_is text output head lines is said)

-- what was written for a text
wrote : (known old new : Option (List ℕ)) (output bytes : List ℕ) → IfSome known (λ text. IsOutputFor text output) → bytes ≡ output → Appends old new bytes → IfSome known (λ text. Wrote text old new)
wrote None old new output bytes is same out = tt
wrote (Some text) old new output bytes is same out = record { output = output; is = is; went_out = subst (λ (bs : List ℕ). Appends old new bs) same out }

wrote_front : (known old new : Option (List ℕ)) (output bytes : List ℕ) → IfSome known (λ text. IsOutputFor text output) → bytes ≡ output → AppendsFront old new bytes → IfSome known (λ text. WroteFront text old new)
wrote_front None old new output bytes is same out = tt
wrote_front (Some text) old new output bytes is same out = record { output = output; is = is; went_out = subst (λ (bs : List ℕ). AppendsFront old new bs) same out }

pub wrote_ok : {A E : Type 0} (r : Result A E) (known old new : Option (List ℕ)) (output bytes : List ℕ) → IfSome known (λ text. IsOutputFor text output) → bytes ≡ output → OnOk r (Appends old new bytes) → OnOk r (IfSome known (λ text. Wrote text old new))
wrote_ok (Ok x) known old new output bytes is same out = wrote known old new output bytes is same out
wrote_ok (Err e) known old new output bytes is same out = tt

pub wrote_err : {A : Type 0} (r : Result A ReplayFault) (known old new : Option (List ℕ)) (output bytes : List ℕ) → IfSome known (λ text. IsOutputFor text output) → bytes ≡ output → AppendsFront old new bytes → IfErr r (λ fault. fault ≡ Output → IfSome known (λ text. WroteFront text old new))
wrote_err (Ok x) known old new output bytes is same out = tt
wrote_err (Err e) known old new output bytes is same out = λ at. wrote_front known old new output bytes is same out

-- a value of which more is known
pub if_ok : {A E : Type 0} (r : Result A E) (P Q : A → Type 0) → IfOk r P → ((x : A) → P x → Q x) → IfOk r Q
if_ok (Ok x) P Q known more = more x known
if_ok (Err e) P Q known more = tt

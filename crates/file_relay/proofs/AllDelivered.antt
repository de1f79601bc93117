-- What readers gave is within the limits of a relay, and all of it is delivered where no worker is to stop early.
use Rattle.std.proofs.Common.{◌≡◌, ℕ, zero, suc, ◌+◌, ◌*◌, ◌<◌, ◌≤◌, ◌==◌, Bool, true, false, cond, List, [], ◌∷◌, ◌++◌, length, count_by, refl, sym, ap, subst, ◌∙◌, append-nil, arith, Option, Result, Ok, Err, OnOk, IfErr}
use Rattle.std.specs.Prelude.{filter}
use Rattle.std.specs.List.{AllByRecursion as Every}
use Rattle.std.proofs.lemmas.List.Sorted.{length_permutation}
use Rattle.std.proofs.lemmas.List.Sums.{length-filter}
use Rattle.relay.specs.declared.messages.Message.{Message}
use Rattle.relay.specs.declared.outcome.Relayed.{Relayed}
use Rattle.relay.specs.declared.outcome.Taken.{Taken}
use Rattle.relay.specs.Messages.{AreInputsFrom}
use Rattle.relay.specs.Promises.{Lists, LosesNothing, IsAmple, Relays, IsTooSmall, list_of, ended_up, messages_of, sent_by, total}
use Rattle.audit.specs.declared.message_file.TheConstants.{MAX_LINES}
use Rattle.audit.specs.Reading.{texts}
use Rattle.audit.proofs.Delivered.{AreTaken, audit-all}
use Rattle.relay_args.specs.declared.args.RelayArgs.{RelayArgs}
use Rattle.relay_args.specs.declared.ranges.TheConstants.{MAX_FILES}
use Rattle.file_relay.specs.Inputs.{AreRead}
use Rattle.file_relay.specs.Outcome.{GrowsByFront, outcome_text}
use Rattle.told.specs.Writing.{Written}
use Rattle.relay_args.specs.declared.args.Kind.{Kind}
use Rattle.relay_args.specs.declared.args.Kind.TheVariants.{Queue, Stack, Ring}
use Rattle.relay_args.specs.declared.ranges.TheConstants.{MAX_CONSUMERS}
use Rattle.file_relay.specs.Relaying.{AreReady, FromReaders, IsRelayed, RelaysInputs, limit_of, passes_for, plan_of, shape_for}
use Rattle.file_relay.specs.Measuring.{MeasuresInputs, Streams}
use Rattle.file_relay.specs.declared.tool_fault.ToolFault.{ToolFault}
use Rattle.file_relay.specs.declared.tool_fault.ToolFault.TheVariants.{Output}
use Rattle.std.specs.Io.KnownBytes.{Appends}

-- ---- what readers gave

length-texts : (messages : List Message) → length (texts messages) ≡ length messages
length-texts [] = refl
length-texts (m ∷ ms) = ap suc (length-texts ms)

module _ {R : Type 0} (remaining : R → Option (List ℕ)) where
  few-messages : (sender : ℕ) (readers : List R) (inputs : Lists) → AreRead remaining sender readers inputs → total inputs ≤ length readers * MAX_LINES
  few-messages sender [] [] read = omega arith
  few-messages sender [] (l ∷ ls) read = absurd read
  few-messages sender (r ∷ rs) [] read = absurd read
  few-messages sender (r ∷ rs) (l ∷ ls) read = omega (arith, read.0.file.few, length-texts l.items, few-messages (sender + 1) rs ls read.1)

  are-inputs : (sender : ℕ) (readers : List R) (inputs : Lists) → AreRead remaining sender readers inputs → AreInputsFrom sender inputs
  are-inputs sender [] [] read = tt
  are-inputs sender [] (l ∷ ls) read = absurd read
  are-inputs sender (r ∷ rs) [] read = absurd read
  are-inputs sender (r ∷ rs) (l ∷ ls) read = (read.0.input, are-inputs (sender + 1) rs ls read.1)

  one-each : (sender : ℕ) (readers : List R) (inputs : Lists) → AreRead remaining sender readers inputs → length inputs ≡ length readers
  one-each sender [] [] read = refl
  one-each sender [] (l ∷ ls) read = absurd read
  one-each sender (r ∷ rs) [] read = absurd read
  one-each sender (r ∷ rs) (l ∷ ls) read = ap suc (one-each (sender + 1) rs ls read.1)

  pub are-ready : (readers : List R) (inputs : Lists) → AreRead remaining 0 readers inputs → length readers ≤ MAX_FILES → AreReady inputs
  are-ready readers inputs read few = record {
    numbered = are-inputs 0 readers inputs read;
    files = let long = one-each 0 readers inputs read in omega (arith, long, few);
    few = let messages = few-messages 0 readers inputs read in omega (arith, messages, few);
  }

  -- what was done with the inputs, where no reader was at fault
  pub from-readers : {A : Type 0} (readers : List R) (inputs : Lists) (Comes : Lists → Result A ToolFault → Type 0) (result : Result A ToolFault)
      → AreRead remaining 0 readers inputs → IfErr result (λ fault. fault ≡ Output) → Comes inputs result → FromReaders remaining readers Comes result
  from-readers readers inputs Comes (Ok done) read fault comes = (inputs, read, comes)
  from-readers readers inputs Comes (Err cause) read fault comes =
      subst (λ f. FromReaders remaining readers Comes (Err f)) (sym fault) (inputs, read, subst (λ f. Comes inputs (Err f)) fault comes)

-- ---- containers suffice for a relay

-- no tag can meet the limit
ample-for : (kind : Kind) (n : ℕ) → n ≤ MAX_FILES * MAX_LINES → 2 * n < limit_of kind
ample-for Queue n few = omega (arith, few)
ample-for Stack n few = omega (arith, few)
ample-for Ring n few = omega (arith, few)

-- there is a pass for each worker, and one more
pub passes-for : (kind : Kind) (files consumers : ℕ) → files ≤ MAX_FILES → consumers ≤ MAX_CONSUMERS → files + consumers < passes_for kind
passes-for Queue files consumers few some = omega (arith, few, some)
passes-for Stack files consumers few some = omega (arith, few, some)
passes-for Ring files consumers few some = omega (arith, few, some)

-- ---- all is delivered

kept-or-not : {X Y : Type 0} (b : Bool) (x : X) (y : Y) (xs : List X) (ys : List Y) → length xs ≡ length ys → length (cond b (x ∷ xs) xs) ≡ length (cond b (y ∷ ys) ys)
kept-or-not true x y xs ys long = ap suc long
kept-or-not false x y xs ys long = long

as-many : (s : ℕ) (taken : List Taken) → length (sent_by s (messages_of taken)) ≡ length (filter (λ t. t.message.sender == s) taken)
as-many s [] = refl
as-many s (t ∷ ts) = kept-or-not (t.message.sender == s) t.message t (sent_by s (messages_of ts)) (filter (λ t. t.message.sender == s) ts) (as-many s ts)

none-unsent : (s : ℕ) (lists : Lists) → Every (λ l. l.items ≡ []) lists → list_of s lists ≡ []
none-unsent s [] none = refl
none-unsent zero (l ∷ ls) none = none.0
none-unsent (suc s) (l ∷ ls) none = none-unsent s ls none.1

module _ (r : Relayed) where
  -- a sender's messages were taken where none is left or unsent
  taken-are : (inputs : Lists) → LosesNothing inputs r → r.left.items ≡ [] → Every (λ l. l.items ≡ []) r.unsent.items
      → (s : ℕ) → count_by (λ t. t.message.sender == s) r.delivered.items ≡ length (list_of s inputs)
  taken-are inputs kept left unsent s =
      let taken = sent_by s (messages_of r.delivered.items) in
      let rest : ended_up s r ≡ taken = rw (none-unsent s r.unsent.items unsent, left) (append-nil (taken ++ []) ∙ append-nil taken) in
      let long = length_permutation (list_of s inputs) (ended_up s r) (kept s) in
      sym (length-filter (λ t. t.message.sender == s) r.delivered.items) ∙ sym (as-many s r.delivered.items) ∙ ap length (sym rest) ∙ long

  are-taken : (sender : ℕ) (inputs : Lists) → ((k : ℕ) → count_by (λ t. t.message.sender == sender + k) r.delivered.items ≡ length (list_of k inputs))
      → AreTaken sender r.delivered.items inputs
  are-taken sender [] each = tt
  are-taken sender (l ∷ ls) each = (
    subst (λ s. count_by (λ t. t.message.sender == s) r.delivered.items ≡ length l.items) (omega arith) (each 0),
    are-taken (sender + 1) ls (λ k. subst (λ s. count_by (λ t. t.message.sender == s) r.delivered.items ≡ length (list_of k ls)) (omega arith) (each (suc k))),
  )

  pub is-relayed : (args : RelayArgs) (inputs : Lists) → Relays (shape_for args) (plan_of args) inputs r → ¬ (IsTooSmall (plan_of args) args.capacity (total inputs))
      → total inputs ≤ MAX_FILES * MAX_LINES → IsRelayed args inputs r
  is-relayed args inputs relays fits few =
      let ample : IsAmple (shape_for args) inputs = ample-for args.kind (total inputs) few in
      record {
        relays = relays;
        fits = fits;
        all = λ stops.
            let unsent = relays.all_sent ample stops.close_after in
            let left = relays.none_left ample stops.take stops.shut_after in
            let each = taken-are inputs relays.all_there left unsent in
            audit-all r left inputs relays.lists unsent
            (are-taken 0 inputs (λ k. subst (λ s. count_by (λ t. t.message.sender == s) r.delivered.items ≡ length (list_of k inputs)) (omega arith) (each k)));
      }

-- ---- the outcome was written, or a front of it

pub was-written : (args : RelayArgs) (writer : Written) (inputs : Lists) (relayed : Relayed) (result : Result (Unit {0}) ToolFault) → IsRelayed args inputs relayed
    → OnOk result (Appends writer.old writer.new (outcome_text args.list relayed)) → IfErr result (λ fault. fault ≡ Output)
    → GrowsByFront (outcome_text args.list relayed) writer.old writer.new → RelaysInputs args writer inputs result
was-written args writer inputs relayed (Ok done) is all fault front = (relayed, is, all)
was-written args writer inputs relayed (Err cause) is all fault front = subst (λ f. RelaysInputs args writer inputs (Err f)) (sym fault) (relayed, is, front)

-- and where it was to be told of, that fault is all that came of it
pub was-not-told : {R : Type 0} (remaining : R → Option (List ℕ)) (readers : List R) (args : RelayArgs) (streams : Streams) (inputs : Lists)
    (result : Result (Unit {0}) ToolFault) (fault : ToolFault) → AreRead remaining 0 readers inputs → IfErr result (λ fault. fault ≡ Output)
    → RelaysInputs args streams.output inputs result → result ≡ Err fault → FromReaders remaining readers (MeasuresInputs args streams) (Err fault)
was-not-told remaining readers args streams inputs result fault read out relays was =
    from-readers remaining readers inputs (MeasuresInputs args streams) (Err fault) read (rw was at out) (rw was at relays)

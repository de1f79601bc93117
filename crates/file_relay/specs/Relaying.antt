-- What is written for a relay, and what a relay of files does.
use Rattle.std.specs.Prelude.{◌≡◌, ℕ, ◌*◌, ◌≤◌, List, length, Option, None, Result, Ok, Err}
use Rattle.std.specs.Io.KnownBytes.{Appends}
use Rattle.bounded_model.specs.declared.history.Order.{Order}
use Rattle.bounded_model.specs.declared.history.Order.TheVariants.{Fifo, Lifo}
use Rattle.bounded_model.specs.declared.container.TheConstants.{MAX_PASSES}
use Rattle.bounded_model.specs.Machine.{Shape}
use Rattle.tagged_index.specs.declared.word.TheConstants.{MAX_TAG}
use Rattle.relay.specs.declared.faults.RelayFault.{RelayFault}
use Rattle.relay.specs.declared.faults.RelayFault.TheVariants.{NoMemory, NoPass, NoThread, TooSmall}
use Rattle.relay.specs.declared.outcome.Plan.{Plan}
use Rattle.relay.specs.declared.outcome.Relayed.{Relayed}
use Rattle.relay.specs.Messages.{AreInputsFrom}
use Rattle.relay.specs.Promises.{Lists, Relays, IsTooSmall, total}
use Rattle.audit.specs.declared.message_file.TheConstants.{MAX_LINES}
use Rattle.audit.specs.Delivered.{full_audit}
use Rattle.audit.specs.Texts.{audit_text}
use Rattle.relay_args.specs.declared.args.Kind.{Kind}
use Rattle.relay_args.specs.declared.args.Kind.TheVariants.{Queue, Stack, Ring}
use Rattle.relay_args.specs.declared.args.RelayArgs.{RelayArgs}
use Rattle.file_relay.specs.declared.tool_fault.ToolFault.{ToolFault}
use Rattle.file_relay.specs.declared.tool_fault.ToolFault.TheVariants.{File, Relay, Output}
use Rattle.file_relay.specs.Inputs.{AreRead, IsFileFault}
use Rattle.file_relay.specs.Outcome.{GrowsByFront, outcome_text}
use Rattle.told.specs.Writing.{Written}
use Rattle.relay_args.specs.declared.ranges.TheConstants.{MAX_FILES, MAX_RELAY_PASSES}
use Rattle.ring_queue.specs.declared.life.limits.TheConstants.{MAX_LAPS}

-- in which order a container of this kind gives values back
abbrev pub order_of : Kind → Order
order_of Queue = Fifo
order_of Stack = Lifo
order_of Ring = Fifo

-- its largest limit of tags: a ring's slot has two for each lap
abbrev pub limit_of : Kind → ℕ
limit_of Queue = MAX_TAG
limit_of Stack = MAX_TAG
limit_of Ring = 2 * MAX_LAPS

-- how many passes it is made for: a ring for those of the largest relay
abbrev pub passes_for : Kind → ℕ
passes_for Queue = MAX_PASSES
passes_for Stack = MAX_PASSES
passes_for Ring = MAX_RELAY_PASSES

-- a container of the kind and the capacity that were asked for, with its largest limit of tags
abbrev pub shape_for : RelayArgs → Shape
shape_for args = record { order = order_of args.kind; capacity = args.capacity; limit = limit_of args.kind; passes = passes_for args.kind }

-- what a relay's workers are told
abbrev pub plan_of : RelayArgs → Plan
plan_of args = record { consumers = args.consumers; take = args.take; close_after = args.close_after; shut_after = args.shut_after }

-- no worker is to stop early
pub record StopsNowhere (args : RelayArgs) : Type 0 where
  pub take : args.take ≡ None
  pub close_after : args.close_after ≡ None
  pub shut_after : args.shut_after ≡ None

-- inputs that a relay takes: from sender 0 on, at most the most files, with at most the most messages that these hold
pub record AreReady (inputs : Lists) : Type 0 where
  pub numbered : AreInputsFrom 0 inputs
  pub files : length inputs ≤ MAX_FILES
  pub few : total inputs ≤ MAX_FILES * MAX_LINES

-- these inputs were relayed, with this outcome; if no worker was to stop early, each line of its audit says that all
-- messages read were delivered
pub record IsRelayed (args : RelayArgs) (inputs : Lists) (relayed : Relayed) : Type 0 where
  pub relays : Relays (shape_for args) (plan_of args) inputs relayed
  pub fits : ¬ (IsTooSmall (plan_of args) args.capacity (total inputs))
  pub all : StopsNowhere args → audit_text relayed ≡ full_audit inputs

-- why a relay of these inputs has no outcome: unless memory ran out, `TooSmall` comes exactly if it is too small, and a
-- pass is never refused
abbrev pub IsCause : RelayArgs → Lists → RelayFault → Type 0
IsCause args inputs TooSmall = IsTooSmall (plan_of args) args.capacity (total inputs)
IsCause args inputs NoThread = ¬ (IsTooSmall (plan_of args) args.capacity (total inputs))
IsCause args inputs NoPass = ⊥
IsCause args inputs NoMemory = Unit {0}

-- what a relay of inputs does to a writer: it writes their outcome
abbrev pub RelaysInputs : RelayArgs → Written → Lists → Result (Unit {0}) ToolFault → Type 0
RelaysInputs args writer inputs (Ok _) =
    (relayed : Relayed) × IsRelayed args inputs relayed
    × Appends writer.old writer.new (outcome_text args.list relayed)
RelaysInputs args writer inputs (Err Output) =
    (relayed : Relayed) × IsRelayed args inputs relayed
    × GrowsByFront (outcome_text args.list relayed) writer.old writer.new
RelaysInputs args writer inputs (Err (Relay cause)) = IsCause args inputs cause
RelaysInputs args writer inputs (Err (File number cause)) = ⊥

-- what comes of readers: what comes of the inputs that they gave, or one of them is at fault
abbrev pub FromReaders : {R A : Type 0} → (R → Option (List ℕ)) → List R
    → (Lists → Result A ToolFault → Type 0) → Result A ToolFault → Type 0
FromReaders remaining readers Comes (Ok done) =
    (inputs : Lists) × AreRead remaining 0 readers inputs × Comes inputs (Ok done)
FromReaders remaining readers Comes (Err Output) =
    (inputs : Lists) × AreRead remaining 0 readers inputs × Comes inputs (Err Output)
FromReaders remaining readers Comes (Err (Relay cause)) =
    (inputs : Lists) × AreRead remaining 0 readers inputs × Comes inputs (Err (Relay cause))
FromReaders remaining readers Comes (Err (File number cause)) =
    IsFileFault remaining readers number cause

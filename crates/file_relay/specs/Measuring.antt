-- What a relay of files does that is measured.
use Rattle.std.specs.Prelude.{ℕ, Result, Ok, Err}
use Rattle.std.specs.Io.KnownBytes.{Appends}
use Rattle.relay.specs.declared.outcome.Relayed.{Relayed}
use Rattle.relay.specs.Promises.{Lists}
use Rattle.file_relay.specs.declared.stats.Stats.{Stats}
use Rattle.file_relay.specs.declared.tool_fault.ToolFault.{ToolFault}
use Rattle.relay_args.specs.declared.args.RelayArgs.{RelayArgs}
use Rattle.file_relay.specs.Outcome.{outcome_text}
use Rattle.told.specs.Writing.{WentOut, Written}
use Rattle.told.specs.declared.writing.Told.{Told}
use Rattle.file_relay.specs.Relaying.{IsRelayed, RelaysInputs}
use Rattle.file_relay.specs.Stats.{IsStatsOf, stats_text}

-- the stats of this outcome were told to a writer, whole or up to a write that failed; no number of tries is stated
pub record Tells (args : RelayArgs) (relayed : Relayed) (said : Told) (errors : Written) : Type 0 where
  pub puts : ℕ
  pub takes : ℕ
  pub stats : Stats
  pub of : IsStatsOf args relayed puts takes stats
  pub went_out : WentOut said errors.old errors.new (stats_text stats)

-- what is known of the bytes of a run's output and of its errors
pub record Streams : Type 0 where
  pub output : Written
  pub errors : Written

-- what a measured relay of inputs does to these streams
abbrev pub MeasuresInputs : RelayArgs → Streams → Lists → Result Told ToolFault → Type 0
MeasuresInputs args streams inputs (Ok said) =
    (relayed : Relayed) × IsRelayed args inputs relayed
    × Appends streams.output.old streams.output.new (outcome_text args.list relayed)
    × Tells args relayed said streams.errors
MeasuresInputs args streams inputs (Err fault) = RelaysInputs args streams.output inputs (Err fault)

-- The lines so far, and those that are still to come.
use Rattle.std.proofs.Common.{◌≡◌, ◌++◌, drop, string_bytes}
use Rattle.file_relay.specs.Stats.{consumer_lines}
use Rattle.file_relay.proofs.stats.push_consumers.Given as goal

abbrev pub invariant-loop-consumer : goal.invariant-loop-consumer
invariant-loop-consumer l =
    string_bytes l.text ++ consumer_lines l.consumer-counter (drop l.consumer-counter l.took)
    ≡ string_bytes l.fn.text ++ consumer_lines 0 l.took

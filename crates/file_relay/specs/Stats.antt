-- The stats of a relay beside its outcome.
use Rattle.std.specs.Prelude.{◌≡◌, ℕ, ◌+◌, ◌-◌, ◌*◌, ◌/◌, ◌==◌, ◌&&◌, max, Bool, false, not, cond, is_some, List, [], ◌∷◌, ◌++◌, length, map, codes, count_by, decimal, Option, None, Some, Vec}
use Rattle.std.specs.List.{range_with_len}
use Rattle.std.specs.declared.alloc.Global.{Global}
use Rattle.relay.specs.declared.messages.Message.{Message}
use Rattle.relay.specs.declared.outcome.Relayed.{Relayed}
use Rattle.relay.specs.declared.outcome.Taken.{Taken}
use Rattle.relay_args.specs.declared.args.RelayArgs.{RelayArgs}
use Rattle.file_relay.specs.declared.stats.Stats.{Stats}

-- ---- what is counted

-- how many messages each consumer took, from the first consumer on
abbrev pub took_each : ℕ → List Taken → List ℕ
took_each consumers delivered = map (λ k. count_by (λ t. t.consumer == k) delivered) (range_with_len 0 consumers)

abbrev pub has_some : Vec Message Global → Bool
has_some messages = not (length messages.items == 0)

-- 1 if the first producer stopped because it closed the container, and not at a refused put
abbrev pub first_closed : Option ℕ → List (Vec Message Global) → ℕ
first_closed close_after [] = 0
first_closed close_after (messages ∷ others) = cond (is_some close_after && has_some messages) 1 0

-- how many producers ended at a put that was refused for good: those that have messages left over
abbrev pub ended_puts : RelayArgs → List (Vec Message Global) → ℕ
ended_puts args unsent = count_by has_some unsent - first_closed args.close_after unsent

abbrev pub is_met : Option ℕ → ℕ → Bool
is_met None count = false
is_met (Some most) count = most == count

-- 1 if the first consumer stopped because it shut the container, and not at a refused take
abbrev pub first_shut : RelayArgs → List ℕ → ℕ
first_shut args [] = 0
first_shut args (count ∷ others) = cond (is_met args.shut_after count && not (is_met args.take count)) 1 0

-- how many consumers ended at a take that was refused for good: those that took less than their share
abbrev pub ended_takes : RelayArgs → List ℕ → ℕ
ended_takes args took = count_by (λ count. not (is_met args.take count)) took - first_shut args took

-- the stats of a relay in which these puts and takes were tried: a put that was tried was made, or it ended its
-- producer, or the container was full; and so for takes
pub record IsStatsOf (args : RelayArgs) (relayed : Relayed) (puts takes : ℕ) (stats : Stats) : Type 0 where
  pub delivered : stats.delivered ≡ length relayed.delivered.items
  pub took : stats.took.items ≡ took_each args.consumers relayed.delivered.items
  pub full : stats.full ≡ puts - (length relayed.delivered.items + length relayed.left.items + ended_puts args relayed.unsent.items)
  pub empty : stats.empty ≡ takes - (length relayed.delivered.items + ended_takes args (took_each args.consumers relayed.delivered.items))

-- ---- the text

abbrev pub time_line : ℕ → Option ℕ → List ℕ
time_line delivered None = codes "messages " ++ decimal delivered ++ codes " nanoseconds unknown per second unknown\n"
time_line delivered (Some time) =
    codes "messages " ++ decimal delivered ++ codes " nanoseconds " ++ decimal time ++ codes " per second " ++ decimal (delivered * 1_000_000_000 / max time 1) ++ codes "\n"

-- a line for each consumer, from this one on
abbrev pub consumer_lines : ℕ → List ℕ → List ℕ
consumer_lines consumer [] = []
consumer_lines consumer (count ∷ counts) =
    codes "consumer " ++ decimal consumer ++ codes " took " ++ decimal count ++ codes "\n" ++ consumer_lines (consumer + 1) counts

abbrev pub refused_line : Stats → List ℕ
refused_line stats = codes "refused full " ++ decimal stats.full ++ codes " empty " ++ decimal stats.empty ++ codes "\n"

abbrev pub stats_text : Stats → List ℕ
stats_text stats = time_line stats.delivered stats.nanoseconds ++ consumer_lines 0 stats.took.items ++ refused_line stats

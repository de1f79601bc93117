-- The ranges of what a relay of files is given.
use Rattle.std.specs.Prelude.{◌≤◌, ℕ, IfSome}
use Rattle.tagged_index.specs.declared.limit.TheConstants.{MAX_CAPACITY}
use Rattle.relay_args.specs.declared.args.Kind.{Kind}
use Rattle.relay_args.specs.declared.args.Kind.TheVariants.{Queue, Stack, Ring}
use Rattle.relay_args.specs.declared.args.RelayArgs.{RelayArgs}
use Rattle.relay_args.specs.declared.ranges.TheConstants.{MAX_CONSUMERS, MAX_COUNT, MAX_RING_CAPACITY}

-- the greatest capacity of a container of this kind
abbrev pub most_of : Kind → ℕ
most_of Queue = MAX_CAPACITY
most_of Stack = MAX_CAPACITY
most_of Ring = MAX_RING_CAPACITY

-- how a relay is run: each value lies in its range
pub record IsInRange (args : RelayArgs) : Type 0 where
  pub some_capacity : 1 ≤ args.capacity
  pub capacity : args.capacity ≤ most_of args.kind
  pub some_consumers : 1 ≤ args.consumers
  pub consumers : args.consumers ≤ MAX_CONSUMERS
  pub take : IfSome args.take (λ count. count ≤ MAX_COUNT)
  pub close_after : IfSome args.close_after (λ count. count ≤ MAX_COUNT)
  pub shut_after : IfSome args.shut_after (λ count. count ≤ MAX_COUNT)

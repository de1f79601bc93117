-- The numbers count from 0 exactly where the rest count from here.
use Rattle.std.proofs.Common.{◌↔◌, map, drop}
use Rattle.relay.specs.Messages.{CountsFrom}
use Rattle.audit.proofs.checks.is_numbered.Given as goal

abbrev pub invariant-loop-place : goal.invariant-loop-place
invariant-loop-place l = CountsFrom 0 (map (λ t. t.number) l.delivered) ↔ CountsFrom l.place (map (λ t. t.number) (drop l.place l.delivered))

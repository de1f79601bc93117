-- The digits of the rest, and then those that stand at the end, are the number's.
use Rattle.std.proofs.Common.{◌≡◌, ◌+◌, ◌^◌, ◌<◌, ◌++◌, length, drop, decimal}
use Rattle.audit.specs.declared.digits.TheConstants.{MAX_DIGITS}
use Rattle.audit.proofs.digits.Digits.of.Given as goal

abbrev pub invariant-loop-rest : goal.invariant-loop-rest
invariant-loop-rest l = (l.start < MAX_DIGITS) × (length l.bytes ≡ MAX_DIGITS) × (l.rest < 10 ^ (l.start + 1)) × (decimal l.rest ++ drop (l.start + 1) l.bytes ≡ decimal l.number)

abbrev pub decreases-loop-rest : goal.decreases-loop-rest
decreases-loop-rest l = l.rest

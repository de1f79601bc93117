use Rattle.std.proofs.Common.{◌≡◌, ◌-◌, ◌^◌, ◌++◌}
use Rattle.std.specs.List.{range_with_len}
use Rattle.bounded_model.specs.Gathers.{did, put_of}
use Rattle.examples.proofs.closing.put_until_closed.Given as goal

-- the numbers so far were put
abbrev pub invariant-loop-count : goal.invariant-loop-count
invariant-loop-count g l = g.C.Container.is_pass l.fn.container l.pass × (did put_of (g.C.Container.pass l.pass) ≡ did put_of (g.C.Container.pass l.fn.by) ++ range_with_len 0 l.count)

abbrev pub decreases-loop-count : goal.decreases-loop-count
decreases-loop-count g l = 2 ^ 64 - l.count

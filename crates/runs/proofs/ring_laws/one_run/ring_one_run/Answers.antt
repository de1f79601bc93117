use Rattle.ring_table.specs.Core.{ring_on}
use Rattle.step_core.specs.ring.Object.{object}
use Rattle.runs.specs.ring.Bounded.{call_in}
use Rattle.runs.specs.ring.Linearizable.{answer_at}
use Rattle.runs.proofs.ring.Rings.{linearizable}
use Rattle.runs.proofs.OneRun.{one_run}
use Rattle.runs.proofs.ring_laws.one_run.ring_one_run.Goals as goal

pub returns : goal.returns
returns g c n laps passes some_slot kept r left all = one_run (ring_on _ n laps passes) call_in answer_at (object n laps) kept r left all (linearizable n laps passes all.run.acts some_slot all.run.allowed all.run.fresh)

use Rattle.ring_table.specs.Core.{ring_on}
use Rattle.runs.proofs.Link.{shows_all}
use Rattle.runs.specs.ring.Machine.{cell_ring}
use Rattle.runs.specs.ring.Bounded.{call_at}
use Rattle.runs.proofs.ring.Running.{running}
use Rattle.runs.proofs.ring.Rings.{meets}
use Rattle.runs.proofs.ring_laws.bounds.ring_acts_are_a_schedule.Goals as goal

pub returns : goal.returns
returns g c = record {
  shows = λ n laps passes numbers acts low allowed. shows_all (ring_on _ n laps passes) (cell_ring n laps passes) call_at (running n laps passes) numbers acts low allowed;
  meets = λ n laps passes numbers acts some_slot low allowed fresh. meets n laps passes some_slot numbers acts low allowed fresh;
}

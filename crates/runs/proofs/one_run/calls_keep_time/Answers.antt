use Rattle.runs.proofs.OneRun.{keeps_time}
use Rattle.runs.proofs.one_run.calls_keep_time.Goals as goal

pub returns : goal.returns
returns g c limits = keeps_time (g.M.Machine.machine limits)

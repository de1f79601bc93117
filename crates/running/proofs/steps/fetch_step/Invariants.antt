use Rattle.running.specs.Going.{Brought}
use Rattle.running.proofs.steps.fetch_step.Given as goal

abbrev pub ghosts-load_as : goal.ghosts-load_as
ghosts-load_as g a = let m = g.M.Machine.machine a.table.now.key in record {
  told = λ _ me n me'. Brought m a.line.now n me me';
}

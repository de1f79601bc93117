use Rattle.running.specs.Going.{Returned}
use Rattle.running.proofs.steps.stow_step.Given as goal

abbrev pub ghosts-load_as : goal.ghosts-load_as
ghosts-load_as g a = let m = g.M.Machine.machine a.table.now.key in record {
  told = λ _ me n me'. Returned m a.line.now n me me';
}

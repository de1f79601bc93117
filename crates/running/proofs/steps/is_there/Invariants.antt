use Rattle.std.proofs.Common.{[]}
use Rattle.index_list.proofs.Allowed.{Kept}
use Rattle.running.specs.Going.{Did}
use Rattle.running.proofs.steps.is_there.Given as goal

abbrev pub ghosts-load_as : goal.ghosts-load_as
ghosts-load_as g a = let m = g.M.Machine.machine a.table.now.key in record {
  told = λ _ me. Kept a.about.1 (λ v. Did m a.line.now a.about.1 [] me.0 v) me;
}

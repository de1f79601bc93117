use Rattle.std.proofs.Common.{◌≡◌, ◌+◌, ◌≤◌}
use Rattle.machine.specs.Seats.{Looks, pass_of}
use Rattle.running.specs.Going.{Peeked}
use Rattle.running.specs.Rule.{HasTied}
use Rattle.running.proofs.seats.peek.Given as goal

abbrev pub ghosts-load_as : goal.ghosts-load_as
ghosts-load_as g a = let m = g.M.Machine.machine a.table.now.key in record {
  told = λ _ me found me'. Looks m.core.shape me.0 me'.0 × (me'.1 ≡ me.1) × ((pass_of me'.0).steps ≤ (pass_of me.0).steps + 1) × Peeked m me.0 a.about found × (HasTied m me.0 → HasTied m me'.0);
}

use Rattle.std.proofs.Common.{ℕ}
use Rattle.atomic_table.specs.Table.{Step}
use Rattle.index_list.specs.Kinds.{write_link}
use Rattle.index_list.specs.Results.{Made}
use Rattle.index_list.proofs.Allowed.{Stored}
use Rattle.index_list.proofs.links.store_link.Given as goal

abbrev pub ghosts-store_as : goal.ghosts-store_as
ghosts-store_as g a = let host = g.P.ListHost in let key = a.table.now.key in let l = a.about.0 in let i : ℕ = a.about.1 in record {
  told = λ (x : Step _) me _. Stored (λ v. (found : ℕ) × Made host.layout (host.host key) (g.P.TableRule.holds key) a.line.now a.seat.now.id l (write_link i x.first) (host.layout.link l i) found x.first me.0 v) me;
}

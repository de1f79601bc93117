use Rattle.std.proofs.Common.{ℕ}
use Rattle.index_list.specs.Kinds.{write_link}
use Rattle.index_list.specs.Results.{Made}
use Rattle.index_list.proofs.Allowed.{Kept}
use Rattle.index_list.proofs.links.keep_link.Given as goal

abbrev pub ghosts-load_as : goal.ghosts-load_as
ghosts-load_as g a = let host = g.P.ListHost in let key = a.table.now.key in let l = a.about.0 in let i : ℕ = a.about.1 in let x : ℕ = a.about.2 in record {
  told = λ _ me. Kept x (λ v. (found : ℕ) × Made host.layout (host.host key) (g.P.TableRule.holds key) a.line.now a.seat.now.id l (write_link i x) (host.layout.link l i) found x me.0 v) me;
}

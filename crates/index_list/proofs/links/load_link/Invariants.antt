use Rattle.index_list.specs.Kinds.{place, read_link}
use Rattle.index_list.specs.Results.{Made}
use Rattle.index_list.proofs.Allowed.{Loaded}
use Rattle.index_list.proofs.links.load_link.Given as goal

abbrev pub ghosts-load_as : goal.ghosts-load_as
ghosts-load_as g a = let host = g.P.ListHost in let key = a.table.now.key in record {
  told = λ _ me. Loaded (λ n v. Made host.layout (host.host key) (g.P.TableRule.holds key) a.line.now a.seat.now.id a.about.0 (read_link a.about.1) (place host.layout a.about.0 (read_link a.about.1)) n n me.0 v) me;
}

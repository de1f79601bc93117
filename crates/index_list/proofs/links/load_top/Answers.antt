use Rattle.std.proofs.Common.{ℕ, sym, subst}
use Rattle.index_list.specs.Kinds.{place, read_top}
use Rattle.index_list.specs.Results.{Made}
use Rattle.index_list.proofs.Allowed.{loads_at}
use Rattle.index_list.proofs.Exchanged.{read}
use Rattle.index_list.proofs.links.load_top.Goals as goal

pub load_as-word-requires-clause-allowed : goal.load_as-word-requires-clause-allowed
load_as-word-requires-clause-allowed g c = let host = g.P.ListHost in let a = c.args in let key = a.table.now.key in let holds = g.P.TableRule.holds key in let laws = g.met.P.ListHost.laws key in let me = a.seat.now.me in
    loads_at holds _ (place host.layout a.list read_top) _ a.seat.now.id c.top.ensures me (λ n v. Made host.layout (host.host key) holds a.line.now a.seat.now.id a.list read_top (place host.layout a.list read_top) n n me.0 v)
    (read host.layout (host.host key) holds _ laws a.line.now a.list a.seat.now.id c.requires.list.0 me read_top laws.reads_top c.requires.may)

pub returns-clause-step : goal.returns-clause-step
returns-clause-step g c = let host = g.P.ListHost in let a = c.args in let told = c.load_as-word.ensures.told in
    (told.unmoved, subst (λ (n : ℕ). Made host.layout (host.host a.table.now.key) (g.P.TableRule.holds a.table.now.key) a.line.now a.seat.now.id a.list read_top (host.layout.top a.list) n n a.seat.now.me.0 c.load_as-word.new.seat.me.0) (sym c.from_word.ensures) told.said)

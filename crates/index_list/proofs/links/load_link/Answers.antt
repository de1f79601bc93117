use Rattle.index_list.specs.Kinds.{place, read_link}
use Rattle.index_list.specs.Results.{Made}
use Rattle.index_list.proofs.Allowed.{loads_at}
use Rattle.index_list.proofs.Exchanged.{read}
use Rattle.index_list.proofs.links.load_link.Goals as goal

pub load_as-requires-clause-allowed : goal.load_as-requires-clause-allowed
load_as-requires-clause-allowed g c = let host = g.P.ListHost in let a = c.args in let key = a.table.now.key in let holds = g.P.TableRule.holds key in let laws = g.met.P.ListHost.laws key in let me = a.seat.now.me in
    loads_at holds _ (place host.layout a.list (read_link a.index)) _ a.seat.now.id c.link-at.ensures me (λ n v. Made host.layout (host.host key) holds a.line.now a.seat.now.id a.list (read_link a.index) (place host.layout a.list (read_link a.index)) n n me.0 v)
    (read host.layout (host.host key) holds _ laws a.line.now a.list a.seat.now.id c.requires.list.0 me (read_link a.index) (laws.reads_link a.index) c.requires.may)

pub returns-clause-step : goal.returns-clause-step
returns-clause-step g c = (c.load_as.ensures.told.unmoved, c.load_as.ensures.told.said)

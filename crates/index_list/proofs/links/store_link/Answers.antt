use Rattle.std.proofs.Common.{ℕ}
use Rattle.index_list.specs.Kinds.{write_link}
use Rattle.index_list.specs.Results.{Made}
use Rattle.index_list.proofs.Allowed.{stores_at}
use Rattle.index_list.proofs.Exchanged.{written}
use Rattle.index_list.proofs.links.store_link.Goals as goal

pub store_as-requires-clause-allowed : goal.store_as-requires-clause-allowed
store_as-requires-clause-allowed g c = let host = g.P.ListHost in let a = c.args in let key = a.table.now.key in let holds = g.P.TableRule.holds key in let l : ℕ = a.list in let i : ℕ = a.index in let me = a.seat.now.me in
    stores_at holds _ (host.layout.link l i) _ a.seat.now.id c.link-word.ensures me a.next (λ v. (found : ℕ) × Made host.layout (host.host key) holds a.line.now a.seat.now.id l (write_link i a.next) (host.layout.link l i) found a.next me.0 v)
    (written host.layout (host.host key) holds _ (g.met.P.ListHost.laws key) a.line.now l a.seat.now.id c.requires.list.0 me i a.next c.requires.may)

pub returns-clause-step : goal.returns-clause-step
returns-clause-step g c = (c.store_as.ensures.told.unmoved, c.store_as.ensures.told.said)

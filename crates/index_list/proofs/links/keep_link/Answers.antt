use Rattle.std.proofs.Common.{ℕ}
use Rattle.std.proofs.lemmas.Bool.{eqb-true, eqb-false}
use Rattle.index_list.specs.Kinds.{write_link}
use Rattle.index_list.specs.Results.{Made}
use Rattle.index_list.proofs.Allowed.{keeps_stored_at}
use Rattle.index_list.proofs.Exchanged.{written}
use Rattle.index_list.proofs.links.keep_link.Goals as goal

pub load_as-found-requires-clause-allowed : goal.load_as-found-requires-clause-allowed
load_as-found-requires-clause-allowed g c = let host = g.P.ListHost in let a = c.args in let key = a.table.now.key in let holds = g.P.TableRule.holds key in let l : ℕ = a.list in let i : ℕ = a.index in let me = a.seat.now.me in
    keeps_stored_at holds _ (host.layout.link l i) _ a.seat.now.id c.link-at.ensures me a.next (λ v. (found : ℕ) × Made host.layout (host.host key) holds a.line.now a.seat.now.id l (write_link i a.next) (host.layout.link l i) found a.next me.0 v)
    (written host.layout (host.host key) holds _ (g.met.P.ListHost.laws key) a.line.now l a.seat.now.id c.requires.list.0 me i a.next c.requires.may)

pub returns-clause-step : goal.returns-clause-step
returns-clause-step g c is = let k = c.load_as-found.ensures.told.hit (eqb-true c.load_as-found.result c.args.next is) in (k.unmoved, k.said)

pub returns-clause-other : goal.returns-clause-other
returns-clause-other g c is = c.load_as-found.ensures.told.miss (eqb-false c.load_as-found.result c.args.next is)

use Rattle.std.proofs.Common.{◌≢◌, ℕ, sym, ◌∙◌}
use Rattle.std.proofs.lemmas.Bool.{false≢true}
use Rattle.tagged_index.specs.Fields.{fields_of}
use Rattle.index_list.specs.Kinds.{exchange}
use Rattle.index_list.specs.Results.{Made, Changed}
use Rattle.index_list.proofs.Allowed.{tries_at}
use Rattle.index_list.proofs.Exchanged.{won, missed}
use Rattle.index_list.proofs.changes.exchange_top.Goals as goal

pub try_as-requires-clause-allowed : goal.try_as-requires-clause-allowed
try_as-requires-clause-allowed g c = let host = g.P.ListHost in let a = c.args in let r = c.requires in let key = a.table.now.key in let holds = g.P.TableRule.holds key in let laws = g.met.P.ListHost.laws key in let l : ℕ = a.list in let w : ℕ = a.seen in let me = a.seat.now.me in
    tries_at holds _ (host.layout.top l) _ a.seat.now.id c.top-at.ensures me w a.new (Changed host.layout (host.host key) holds a.line.now a.seat.now.id l w a.change me)
    (λ n v. Made host.layout (host.host key) holds a.line.now a.seat.now.id l (exchange (fields_of w) a.change) (host.layout.top l) n n me.0 v)
    (won host.layout (host.host key) holds _ laws a.line.now l a.seat.now.id r.list.0 me w a.new a.change r.may r.new r.sound r.slots)
    (missed host.layout (host.host key) holds _ laws a.line.now l a.seat.now.id r.list.0 me w a.change r.may)

pub returns-clause-won : goal.returns-clause-won
returns-clause-won g c h = c.try_as.ensures.told.2.hit (c.try_as.ensures.told.1.0 h)

pub returns-clause-lost : goal.returns-clause-lost
returns-clause-lost g c h =
    let told = c.try_as.ensures.told in
    let other : told.0 ≢ c.args.seen = λ e. absurd (false≢true (sym h ∙ told.1.1 e)) in
    let miss = told.2.miss other in
    record { found = miss.found; other = miss.other; unmoved = miss.unmoved; step = miss.said }

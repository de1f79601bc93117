use Rattle.std.proofs.Common.{ℕ}
use Rattle.tagged_index.specs.Fields.{fields_of}
use Rattle.index_list.specs.Kinds.{exchange}
use Rattle.index_list.specs.Results.{Made, Changed}
use Rattle.index_list.proofs.Allowed.{Lost, Tried}
use Rattle.index_list.proofs.changes.exchange_top.Given as goal

abbrev pub ghosts-try_as : goal.ghosts-try_as
ghosts-try_as g a = let host = g.P.ListHost in let key = a.table.now.key in let holds = g.P.TableRule.holds key in let id = a.seat.now.id in let l = a.about.0 in let w : ℕ = a.about.1 in let c = a.about.3 in record {
  told = λ _ me. Tried w (Changed host.layout (host.host key) holds a.line.now id l w c me)
      (Lost w (λ n v. Made host.layout (host.host key) holds a.line.now id l (exchange (fields_of w) c) (host.layout.top l) n n me.0 v) me);
}

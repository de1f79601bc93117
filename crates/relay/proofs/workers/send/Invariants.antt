use Rattle.std.proofs.Common.{◌≡◌, ◌≤◌, ◌+◌, ℕ, length, Some}
use Rattle.relay.proofs.Working.{Producing}
use Rattle.relay.proofs.workers.send.Given as goal

abbrev pub invariant-loop-last : goal.invariant-loop-last
invariant-loop-last g l =
    record {
      of : g.C.Shared.is_pass l.site.container l.pass;
      number : (g.C.Shared.pass l.pass).number ≡ l.place;
      most : (m : ℕ) → l.last ≡ Some m → l.put ≤ m;
      long : l.put + length l.rest.items ≡ length l.fn.job.list.items;
      producing : Producing (g.C.Shared.pass l.pass) l.fn.job.list.items l.rest.items l.put;
    }

abbrev pub decreases-loop-last : goal.decreases-loop-last
decreases-loop-last g l = length l.rest.items

use Rattle.std.proofs.Common.{◌≡◌, ◌+◌, ◌-◌, ◌≤◌, vec_len, vec_capacity}
use Rattle.relay.specs.Rooms.{most_taken}
use Rattle.relay.specs.Workers.{moves_of}
use Rattle.relay.proofs.Working.{Consuming, Within}
use Rattle.relay.proofs.workers.receive.Given as goal

abbrev pub invariant-loop-last : goal.invariant-loop-last
invariant-loop-last g l =
    record {
      of : g.C.Shared.is_pass l.site.container l.pass;
      number : (g.C.Shared.pass l.pass).number ≡ l.site.orders.producers + l.place;
      room : most_taken l.site.orders.take l.site.orders.messages ≤ vec_capacity l.taken;
      within : Within l.site.orders (l.site.orders.producers + l.place) (vec_len l.taken);
      consuming : Consuming (g.C.Shared.pass l.pass) (moves_of l.site.orders.producers l.taken.items);
    }

abbrev pub decreases-loop-last : goal.decreases-loop-last
decreases-loop-last g l = (l.site.orders.messages + 1) - vec_len l.taken

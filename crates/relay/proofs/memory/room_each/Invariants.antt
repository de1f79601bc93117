-- There is room for each consumer so far.
use Rattle.std.proofs.Common.{◌≡◌, All, vec_len, vec_items}
use Rattle.relay.specs.Rooms.{IsRoomFor}
use Rattle.relay.proofs.memory.room_each.Given as goal

abbrev pub invariant-loop : goal.invariant-loop
invariant-loop l =
    record {
      len : vec_len l.rooms ≡ l.counter;
      each : All (IsRoomFor l.most) (vec_items l.rooms);
    }

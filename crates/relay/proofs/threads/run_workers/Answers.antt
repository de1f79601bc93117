use Rattle.relay.proofs.Crossing.{passed_send, passed_sync}
use Rattle.relay.proofs.threads.run_workers.Goals as goal

pub scoped-requires : goal.scoped-requires
scoped-requires g c =
    let bounds = c.type_bounds in
    record {
      at = λ a. (c.requires.ready, (c.requires.room, (passed_send _ _ _ bounds.send-C-Pass, passed_sync _ _ _ bounds.sync-C, passed_sync _ _ _ bounds.sync-G, passed_sync _ _ _ bounds.sync-R)));
    }

-- Above all lists so far.
use Rattle.std.proofs.Common.{◌<◌, All, take}
use Rattle.relay.proofs.merge.bound.Given as goal

abbrev pub invariant-loop-list : goal.invariant-loop-list
invariant-loop-list l = All (λ m. All (λ t. t.number < l.most) m.items) (take l.list-index l.lists)

use Rattle.std.proofs.Common.{◌≡◌, ◌≤◌, ◌-◌, replicate, vec_len}
use Rattle.player.specs.declared.place.Place.TheVariants.{Nobody}
use Rattle.player.proofs.place.Places.new.Given as goal

abbrev pub invariant-loop-of : goal.invariant-loop-of
invariant-loop-of g l = record {
  nobody : l.of.items ≡ replicate (vec_len l.of) Nobody;
  few : vec_len l.of ≤ 26;
}

abbrev pub decreases-loop-of : goal.decreases-loop-of
decreases-loop-of g l = 26 - vec_len l.of

use Rattle.std.proofs.Common.{inl, refl, rules}
use Rattle.lockfree_c.specs.declared.held.Held.TheVariants.{Producer, Consumer}
use Rattle.lockfree_c.proofs.spsc.make_ends.Goals as goal

pub returns : goal.returns
returns c = let p = c.in-Ok.sends in let d = c.in-Ok.receives in inl (refl, (p, d, (search rules), (search rules), (search rules)))

use Rattle.std.proofs.Common.{[], ap}
use Rattle.std.proofs.lemmas.Bool.{eqb-true, eqb-false}
use mathlib.Core.Logic.{dite}
use native.Mathlib.Decide.{ℕ_discrete}
use Rattle.index_list.proofs.Allowed.{keeps_stored}
use Rattle.running.specs.Rule.{Rule}
use Rattle.running.specs.Going.{Did}
use Rattle.running.proofs.Made.{store_law}
use Rattle.running.proofs.Going.{steps_so}
use Rattle.running.proofs.steps.is_there.Goals as goal

pub load_as-found-requires-clause-allowed : goal.load_as-found-requires-clause-allowed
load_as-found-requires-clause-allowed g c = let a = c.args in let m = g.M.Machine.machine a.table.now.key in let me = a.seat.now.me in
    keeps_stored (Rule m) _ a.at a.seat.now.id a.new me (λ v. Did m a.operation.now a.new [] me.0 v)
    (λ s. store_law (g.met.M.Lawful.lawful a.table.now.key) a.operation.now me.0 a.seat.now.id a.at a.new c.requires.access c.requires.plain s)

pub returns-clause-seat : goal.returns-clause-seat
returns-clause-seat g c = (c.load_as-found.ensures.seat.0, dite (ℕ_discrete c.load_as-found.result c.args.new) (λ e. (c.load_as-found.ensures.told.hit e).unmoved) (λ ne. ap (λ m. m.1) (c.load_as-found.ensures.told.miss ne)))

pub returns-clause-steps : goal.returns-clause-steps
returns-clause-steps g c is = λ begun l going. steps_so (g.met.M.Lawful.lawful c.args.table.now.key) going (c.load_as-found.ensures.told.hit (eqb-true c.load_as-found.result c.args.new is)).said

pub returns-clause-other : goal.returns-clause-other
returns-clause-other g c is = c.load_as-found.ensures.told.miss (eqb-false c.load_as-found.result c.args.new is)

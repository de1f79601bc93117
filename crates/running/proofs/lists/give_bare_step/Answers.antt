use Rattle.std.proofs.Common.{Bool, true, [], ◌∙◌, refl, subst, sym}
use Rattle.machine.proofs.Tests.{either_way}
use Rattle.running.specs.Lists.{Rests}
use Rattle.running.proofs.Listing.{no_change, none_carried, missed, unmoved}
use Rattle.running.proofs.lists.give_bare_step.Goals as goal

pub try_give-requires-clause-may : goal.try_give-requires-clause-may
try_give-requires-clause-may g c = (c.requires.access, tt)

pub try_give-requires-clause-slots : goal.try_give-requires-clause-slots
try_give-requires-clause-slots g c = let a = c.args in let me = a.seat.now.me in
    ([], subst (λ (b : Bool). Rests (g.M.Machine.machine c.args.table.now.key) g.M.ListMachine.lists b a.operation.now me.0 []) (sym c.requires.carries) refl, (me.1, refl))

pub returns-clause-seat : goal.returns-clause-seat
returns-clause-seat g c = let t = c.try_give in (
  t.ensures.seat.0,
  either_way t.result
      (λ h. let won = t.ensures.won h in sym (no_change won.slots _ _ (won.moves.1 ∙ none_carried _ c.requires.carries) won.moves.0))
      (λ h. (t.ensures.lost h).unmoved),
)

pub returns-clause-won : goal.returns-clause-won
returns-clause-won g c h = let won = c.try_give.ensures.won h in unmoved (g.met.M.Lawful.lawful c.args.table.now.key) g.M.ListMachine.lists true won (won.moves.1 ∙ none_carried _ c.requires.carries)

pub returns-clause-lost : goal.returns-clause-lost
returns-clause-lost g c h = (missed (g.met.M.Lawful.lawful c.args.table.now.key) g.M.ListMachine.lists (c.try_give.ensures.lost h)).1

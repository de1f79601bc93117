use Rattle.std.proofs.Common.{◌≡◌, List, [], ◌∷◌, ◌++◌, length, refl, arith, sym, ◌∙◌, append-nil}
use Rattle.std.specs.Vec.Iter.{into_iter_items}
use Rattle.bounded_model.specs.Plain.{plain_replies, list_after_all}
use Rattle.bounded_model.proofs.Showing.{runs}
use Rattle.bounded_model.proofs.plain_list.PlainList.run.Goals as goal

nothing_left : {X : Type 0} (l : List X) → length l ≡ 0 → l ≡ []
nothing_left [] h = refl
nothing_left (x ∷ xs) h = absurd (omega arith)

pub returns-clause-machine : goal.returns-clause-machine
returns-clause-machine g c =
    let none = c.in-None.ensures.steps in
    let empty : into_iter_items c.loop-command.command-iterator ≡ [] = nothing_left _ (sym c.loop-command.invariant.long ∙ none.0) in
    let list : c.loop-command.self ≡ list_after_all c.args.self.now c.args.commands.items = rw empty at c.loop-command.invariant.list in
    let given : c.loop-command.replies.items ++ [] ≡ plain_replies c.args.self.now c.args.commands.items = rw empty at c.loop-command.invariant.replies in
    rw (list, ← append-nil c.loop-command.replies.items, given) (runs c.args.self.now c.args.commands.items)

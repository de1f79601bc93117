use Rattle.std.proofs.Common.{◌≡◌, ◌+◌, Bool, true, false, not, refl, ap, sym, subst, ◌∙◌}
use Rattle.atomic_table.specs.Table.{turned}
use Rattle.tagged_index.specs.declared.word.TheConstants.{NULL}
use Rattle.running.specs.Code.{Came}
use Rattle.running.specs.declared.code.Next.TheVariants.{On, Lost, Done}
use Rattle.treiber_stack.specs.code.Folding.{nodes_of, folding, fold_line, fold_slots, front_of, gone, HasReadToFold, FoldTold}
use Rattle.treiber_stack.specs.Calls.{room_of, limit_of, machine_of}
use Rattle.treiber_stack.specs.declared.bulk.folding.Batch.{Batch}
use Rattle.treiber_stack.specs.declared.bulk.folding.Walk.{Walk}
use Rattle.treiber_stack.specs.declared.bulk.folding.FoldAt.{FoldAt}
use Rattle.treiber_stack.specs.declared.bulk.folding.FoldAt.TheVariants.{TakeAll, LoadToTurn, LoadToFold, GiveBack}
use Rattle.treiber_stack.specs.declared.bulk.folding.FoldStop.TheVariants.{Yields, Ended}
use Rattle.treiber_stack.specs.declared.code.giving.Chain.{Chain}
use Rattle.treiber_stack.specs.declared.code.giving.Give.TheVariants.{Load}
use Rattle.treiber_stack.proofs.Folds.{Folding, refused, gave_fold}
use Rattle.treiber_stack.proofs.Walking.{yields_more, tells_more, yields_last, tells_last}
use Rattle.treiber_stack.proofs.Turning.{won_down, won_up, turn_goes, turn_ends}
use Rattle.treiber_stack.proofs.bulk.folding.FoldAtCodeStackLineOperationStackedFoldStop2.next.Goals as goal

by_not : (b : Bool) → not b ≡ false → b ≡ true
by_not true e = refl
by_not false e = sym e

pub returns-in-Some-clause-leads : goal.returns-in-Some-clause-leads
returns-in-Some-clause-leads g c = refused c.args.on.now c.in-Load.is c.args.outcome c.args.seat.now.me.1 c.in-Some.why c.from_word-top.result c.from_word-top.ensures c.in-Some.ensures

pub returns-in-On-clause-leads : goal.returns-in-On-clause-leads
returns-in-On-clause-leads g c = let b = c.in-GiveBack.batch in gave_fold c.args.on.now c.in-GiveBack.is c.requires.knows c.args.outcome c.args.seat.now.me.1 (On c.in-On.at) (c.in-On.ensures (folding b (nodes_of b)) c.args.seat.now.me.1)

pub returns-in-Lost-clause-leads : goal.returns-in-Lost-clause-leads
returns-in-Lost-clause-leads g c = let b = c.in-GiveBack.batch in gave_fold c.args.on.now c.in-GiveBack.is c.requires.knows c.args.outcome c.args.seat.now.me.1 (Lost c.in-Lost.at) (c.in-Lost.ensures (folding b (nodes_of b)) c.args.seat.now.me.1)

pub returns-in-Done-clause-leads : goal.returns-in-Done-clause-leads
returns-in-Done-clause-leads g c = let b = c.in-GiveBack.batch in gave_fold c.args.on.now c.in-GiveBack.is c.requires.knows c.args.outcome c.args.seat.now.me.1 (Done tt) (c.in-Done.ensures (folding b (nodes_of b)) c.args.seat.now.me.1)

pub returns-in-First-clause-leads : goal.returns-in-First-clause-leads
returns-in-First-clause-leads g c =
    let stack = c.args.on.now in
    let r = c.args.outcome in
    let had = c.args.seat.now.me.1 in
    let a = c.in-TakeAll in
    let index = c.index-index.result in
    let b : Batch g.row.T.Denot = record { front = a.front; number = c.tag-number.result; taken = c.of-taken.result } in
    let walk : Walk g.row.T.Denot = record { first = index; index = index; count = 0; held = c.of.result } in
    subst (λ (s : FoldAt g.row.T.Denot). Folding stack s r had had (On (LoadToFold b walk))) (sym (a.is ∙ ap (λ f. TakeAll f a.top) c.in-First.is))
    (won_down stack r had (by_not r.won c.if-not-outcome.false) a.top index c.index-index.ensures.field b c.tag-number.ensures.field (ap (λ s. s.me.1) c.of-taken.ensures) c.in-First.is walk refl refl refl (ap (λ s. s.me.1) c.of.ensures))

pub returns-in-Last-clause-leads : goal.returns-in-Last-clause-leads
returns-in-Last-clause-leads g c =
    let stack = c.args.on.now in
    let r = c.args.outcome in
    let had = c.args.seat.now.me.1 in
    let a = c.in-TakeAll in
    let index = c.index-index.result in
    let b : Batch g.row.T.Denot = record { front = a.front; number = c.tag-number.result; taken = c.of-taken.result } in
    subst (λ (s : FoldAt g.row.T.Denot). Folding stack s r had had (On (LoadToTurn b NULL index))) (sym (a.is ∙ ap (λ f. TakeAll f a.top) c.in-Last.is))
    (won_up stack r had (by_not r.won c.if-not-outcome.false) a.top index c.index-index.ensures.field b c.tag-number.ensures.field (ap (λ s. s.me.1) c.of-taken.ensures) c.in-Last.is)

pub returns-then-below-eq-NULL-clause-leads : goal.returns-then-below-eq-NULL-clause-leads
returns-then-below-eq-NULL-clause-leads g c =
    let stack = c.args.on.now in
    let r = c.args.outcome in
    let had = c.args.seat.now.me.1 in
    let a = c.in-TurnLink in
    let knows = subst (HasReadToFold (room_of stack) (limit_of stack)) a.is c.requires.knows in
    let walk : Walk g.row.T.Denot = record { first = a.index; index = a.index; count = 0; held = c.of-then-below-eq-NULL.result } in
    subst (λ (s : FoldAt g.row.T.Denot). Folding stack s r had had (On (LoadToFold a.batch walk))) (sym a.is)
    (turn_ends stack a.batch a.field-1 a.index r had a.below knows.0 knows.1 knows.2 c.if-below-eq-NULL.true walk refl refl refl (ap (λ s. s.me.1) c.of-then-below-eq-NULL.ensures))

pub returns-else-below-eq-NULL-clause-leads : goal.returns-else-below-eq-NULL-clause-leads
returns-else-below-eq-NULL-clause-leads g c =
    let stack = c.args.on.now in
    let r = c.args.outcome in
    let had = c.args.seat.now.me.1 in
    let a = c.in-TurnLink in
    let knows = subst (HasReadToFold (room_of stack) (limit_of stack)) a.is c.requires.knows in
    subst (λ (s : FoldAt g.row.T.Denot). Folding stack s r had had (On (LoadToTurn a.batch a.index a.below))) (sym a.is)
    (turn_goes stack a.batch a.field-1 a.index r had a.below knows.0 knows.1 knows.2 c.if-below-eq-NULL.false)

pub returns-then-next-eq-NULL-clause-leads : goal.returns-then-next-eq-NULL-clause-leads
returns-then-next-eq-NULL-clause-leads g c =
    let stack = c.args.on.now in
    let r = c.args.outcome in
    let had = c.args.seat.now.me.1 in
    let has = c.turn.new.self.me.1 in
    let a = c.in-LoadToFold in
    let x = c.move_out-value.result in
    let e = c.move_out-value.ensures in
    let knows = subst (HasReadToFold (room_of stack) (limit_of stack)) a.is c.requires.knows in
    let came = subst (λ (s : FoldAt g.row.T.Denot). Came (machine_of stack).core (fold_line s) r (fold_slots s) had) a.is c.requires.came in
    let out = ap (λ m. m.1) c.turn.ensures.2 ∙ ap (λ m. turned m.1) e.out in
    let chain : Chain = record { first = a.walk.first; last = a.walk.index } in
    subst (λ (s : FoldAt g.row.T.Denot). Folding stack s r had has (Done (Yields x (GiveBack a.batch chain (a.walk.count + 1) Load)))) (sym a.is)
    (yields_last stack a.batch a.walk knows r had has x e.value out came.0 came.1 c.if-next-eq-NULL.true chain refl (a.walk.count + 1) refl)

pub returns-then-next-eq-NULL-clause-told : goal.returns-then-next-eq-NULL-clause-told
returns-then-next-eq-NULL-clause-told g c =
    let stack = c.args.on.now in
    let r = c.args.outcome in
    let had = c.args.seat.now.me.1 in
    let has = c.turn.new.self.me.1 in
    let a = c.in-LoadToFold in
    let x = c.move_out-value.result in
    let e = c.move_out-value.ensures in
    let knows = subst (HasReadToFold (room_of stack) (limit_of stack)) a.is c.requires.knows in
    let came = subst (λ (s : FoldAt g.row.T.Denot). Came (machine_of stack).core (fold_line s) r (fold_slots s) had) a.is c.requires.came in
    let out = ap (λ m. m.1) c.turn.ensures.2 ∙ ap (λ m. turned m.1) e.out in
    let chain : Chain = record { first = a.walk.first; last = a.walk.index } in
    subst (λ (s : FoldAt g.row.T.Denot). FoldTold (room_of stack) (limit_of stack) (front_of s) (gone s) (Yields x (GiveBack a.batch chain (a.walk.count + 1) Load))) (sym a.is)
    (tells_last stack a.batch a.walk knows r had has x e.value out came.0 came.1 c.if-next-eq-NULL.true chain refl (a.walk.count + 1) refl)

pub returns-else-next-eq-NULL-clause-told : goal.returns-else-next-eq-NULL-clause-told
returns-else-next-eq-NULL-clause-told g c =
    let stack = c.args.on.now in
    let r = c.args.outcome in
    let had = c.args.seat.now.me.1 in
    let has = c.turn.new.self.me.1 in
    let a = c.in-LoadToFold in
    let x = c.move_out-value.result in
    let e = c.move_out-value.ensures in
    let knows = subst (HasReadToFold (room_of stack) (limit_of stack)) a.is c.requires.knows in
    let came = subst (λ (s : FoldAt g.row.T.Denot). Came (machine_of stack).core (fold_line s) r (fold_slots s) had) a.is c.requires.came in
    let out = ap (λ m. m.1) c.turn.ensures.2 ∙ ap (λ m. turned m.1) e.out in
    let walk : Walk g.row.T.Denot = record { first = a.walk.first; index = r.word; count = a.walk.count + 1; held = c.of-in-LoadToFold.result } in
    subst (λ (s : FoldAt g.row.T.Denot). FoldTold (room_of stack) (limit_of stack) (front_of s) (gone s) (Yields x (LoadToFold a.batch walk))) (sym a.is)
    (tells_more stack a.batch a.walk knows r had has x e.value out came.0 came.1 walk refl refl refl (ap (λ s. s.me.1) c.of-in-LoadToFold.ensures) c.if-next-eq-NULL.false)

pub returns-else-next-eq-NULL-clause-leads : goal.returns-else-next-eq-NULL-clause-leads
returns-else-next-eq-NULL-clause-leads g c =
    let stack = c.args.on.now in
    let r = c.args.outcome in
    let had = c.args.seat.now.me.1 in
    let has = c.turn.new.self.me.1 in
    let a = c.in-LoadToFold in
    let x = c.move_out-value.result in
    let e = c.move_out-value.ensures in
    let knows = subst (HasReadToFold (room_of stack) (limit_of stack)) a.is c.requires.knows in
    let came = subst (λ (s : FoldAt g.row.T.Denot). Came (machine_of stack).core (fold_line s) r (fold_slots s) had) a.is c.requires.came in
    let out = ap (λ m. m.1) c.turn.ensures.2 ∙ ap (λ m. turned m.1) e.out in
    let walk : Walk g.row.T.Denot = record { first = a.walk.first; index = r.word; count = a.walk.count + 1; held = c.of-in-LoadToFold.result } in
    subst (λ (s : FoldAt g.row.T.Denot). Folding stack s r had has (Done (Yields x (LoadToFold a.batch walk)))) (sym a.is)
    (yields_more stack a.batch a.walk knows r had has x e.value out came.0 came.1 walk refl refl refl (ap (λ s. s.me.1) c.of-in-LoadToFold.ensures) c.if-next-eq-NULL.false)

pub returns-in-Done-clause-told : goal.returns-in-Done-clause-told
returns-in-Done-clause-told g c =
    let stack = c.args.on.now in
    let a = c.in-GiveBack in
    let knows = subst (HasReadToFold (room_of stack) (limit_of stack)) a.is c.requires.knows in
    subst (λ (s : FoldAt g.row.T.Denot). FoldTold (room_of stack) (limit_of stack) (front_of s) (gone s) (Ended a.batch a.count)) (sym a.is) (refl, knows.2)

use Rattle.std.proofs.Common.{ℕ, sym, subst}
use Rattle.std.specs.Prelude.{Ok, Err}
use Rattle.running.specs.declared.code.Next.TheVariants.{On, Lost, Done}
use Rattle.treiber_stack.specs.code.Refusing.{RefusesTake}
use Rattle.treiber_stack.specs.Calls.{room_of, limit_of}
use Rattle.treiber_stack.specs.code.Taking.{giving, HasReadToTake}
use Rattle.treiber_stack.specs.declared.code.taking.TakeAt.{TakeAt}
use Rattle.treiber_stack.specs.declared.code.taking.TakeAt.TheVariants.{GiveBack}
use Rattle.stack_machine.specs.declared.lines.Taking.TheVariants.{One}
use Rattle.treiber_stack.proofs.Takes.{Leading, gave_take}
use Rattle.treiber_stack.proofs.code.taking.TakeAtCodeStackLineOperationStackedAnsweredAnswer2.next.Goals as goal

pub returns-in-Some-clause-leads : goal.returns-in-Some-clause-leads
returns-in-Some-clause-leads g c =
    let stack = c.args.on.now in
    let refuses = subst (λ (w : ℕ). RefusesTake g.row.T.Denot (limit_of stack) w c.in-Some.why) c.from_word-top.ensures c.in-Some.ensures in
    subst (λ (s : TakeAt g.row.T.Denot). Leading stack s c.args.outcome c.args.seat.now.me.1 (Done (record { kept = tt; reply = Err c.in-Some.why }))) (sym c.in-Load.is)
    (λ kept. record { is = refuses One; hand = kept })

pub returns-in-On-clause-leads : goal.returns-in-On-clause-leads
returns-in-On-clause-leads g c =
    let stack = c.args.on.now in
    let t = c.in-GiveBack.taken in
    let low = subst (HasReadToTake (room_of stack) (limit_of stack)) c.in-GiveBack.is c.requires.knows in
    subst (λ (s : TakeAt g.row.T.Denot). Leading stack s c.args.outcome c.args.seat.now.me.1 (On (GiveBack t c.in-On.at))) (sym c.in-GiveBack.is)
    (gave_take stack t c.in-GiveBack.at c.args.outcome c.args.seat.now.me.1 low (On c.in-On.at) (c.in-On.ensures (giving t) c.args.seat.now.me.1))

pub returns-in-Lost-clause-leads : goal.returns-in-Lost-clause-leads
returns-in-Lost-clause-leads g c =
    let stack = c.args.on.now in
    let t = c.in-GiveBack.taken in
    let low = subst (HasReadToTake (room_of stack) (limit_of stack)) c.in-GiveBack.is c.requires.knows in
    subst (λ (s : TakeAt g.row.T.Denot). Leading stack s c.args.outcome c.args.seat.now.me.1 (Lost (GiveBack t c.in-Lost.at))) (sym c.in-GiveBack.is)
    (gave_take stack t c.in-GiveBack.at c.args.outcome c.args.seat.now.me.1 low (Lost c.in-Lost.at) (c.in-Lost.ensures (giving t) c.args.seat.now.me.1))

pub returns-in-Done-clause-leads : goal.returns-in-Done-clause-leads
returns-in-Done-clause-leads g c =
    let stack = c.args.on.now in
    let t = c.in-GiveBack.taken in
    let low = subst (HasReadToTake (room_of stack) (limit_of stack)) c.in-GiveBack.is c.requires.knows in
    subst (λ (s : TakeAt g.row.T.Denot). Leading stack s c.args.outcome c.args.seat.now.me.1 (Done (record { kept = tt; reply = Ok (t.value, t.number) }))) (sym c.in-GiveBack.is)
    (gave_take stack t c.in-GiveBack.at c.args.outcome c.args.seat.now.me.1 low (Done tt) (c.in-Done.ensures (giving t) c.args.seat.now.me.1))

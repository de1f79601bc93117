use Rattle.std.proofs.Common.{sym, subst}
use Rattle.std.specs.Prelude.{Err}
use Rattle.running.specs.declared.code.Next.TheVariants.{On, Lost, Done}
use Rattle.treiber_stack.specs.Calls.{room_of, limit_of}
use Rattle.treiber_stack.specs.code.Putting.{refusing, HasReadToPut}
use Rattle.treiber_stack.specs.declared.code.putting.PutAt.{PutAt}
use Rattle.treiber_stack.specs.declared.code.putting.PutAt.TheVariants.{GiveBack}
use Rattle.treiber_stack.proofs.Puts.{LeadingPut, gave_put}
use Rattle.treiber_stack.proofs.code.putting.PutAtCodeStackLineOperationStackedAnsweredAnswer2.next.Goals as goal

pub returns-in-On-clause-leads : goal.returns-in-On-clause-leads
returns-in-On-clause-leads g c =
    let stack = c.args.on.now in
    let a = c.in-GiveBack in
    let low = subst (HasReadToPut (room_of stack) (limit_of stack)) a.is c.requires.knows in
    subst (λ (s : PutAt g.row.T.Denot). LeadingPut stack s c.args.outcome c.args.seat.now.me.1 (On (GiveBack a.why a.index c.in-On.at))) (sym a.is)
    (gave_put stack a.why a.index a.at c.args.outcome c.args.seat.now.me.1 low (On c.in-On.at) (c.in-On.ensures (refusing a.why a.index) c.args.seat.now.me.1))

pub returns-in-Lost-clause-leads : goal.returns-in-Lost-clause-leads
returns-in-Lost-clause-leads g c =
    let stack = c.args.on.now in
    let a = c.in-GiveBack in
    let low = subst (HasReadToPut (room_of stack) (limit_of stack)) a.is c.requires.knows in
    subst (λ (s : PutAt g.row.T.Denot). LeadingPut stack s c.args.outcome c.args.seat.now.me.1 (Lost (GiveBack a.why a.index c.in-Lost.at))) (sym a.is)
    (gave_put stack a.why a.index a.at c.args.outcome c.args.seat.now.me.1 low (Lost c.in-Lost.at) (c.in-Lost.ensures (refusing a.why a.index) c.args.seat.now.me.1))

pub returns-in-Done-clause-leads : goal.returns-in-Done-clause-leads
returns-in-Done-clause-leads g c =
    let stack = c.args.on.now in
    let a = c.in-GiveBack in
    let low = subst (HasReadToPut (room_of stack) (limit_of stack)) a.is c.requires.knows in
    subst (λ (s : PutAt g.row.T.Denot). LeadingPut stack s c.args.outcome c.args.seat.now.me.1 (Done (record { kept = tt; reply = Err a.why }))) (sym a.is)
    (gave_put stack a.why a.index a.at c.args.outcome c.args.seat.now.me.1 low (Done tt) (c.in-Done.ensures (refusing a.why a.index) c.args.seat.now.me.1))

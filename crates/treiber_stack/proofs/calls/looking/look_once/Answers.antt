use Rattle.std.proofs.Common.{ℕ, eqb, [], sym, ap, refl, ◌∙◌, subst}
use Rattle.stack_machine.specs.declared.lines.Answer.TheVariants.{Look as Answer}
use Rattle.stack_machine.specs.declared.lines.Line.TheVariants.{LoadTopToLook}
use Rattle.stack_machine.specs.Machine.{ends}
use Rattle.tagged_index.specs.declared.word.TheConstants.{NULL}
use Rattle.stack_table.specs.declared.operation.Operation.{Operation}
use Rattle.stack_table.specs.declared.operation.Operation.TheVariants.{Look as First}
use Rattle.stack_table.proofs.Laws.{lawful}
use Rattle.running.proofs.Ways.{started, ends_so}
use Rattle.running.specs.Going.{Ended}
use Rattle.treiber_stack.specs.code.Steps.{IsAtWith}
use Rattle.treiber_stack.specs.Calls.{begun_with, machine_with, room_of, limit_of}
use Rattle.treiber_stack.proofs.Gives.{ready_step}
use Rattle.treiber_stack.proofs.calls.looking.look_once.Goals as goal

pub load_top_step-top-requires-clause-access : goal.load_top_step-top-requires-clause-access
load_top_step-top-requires-clause-access g c =
    let stack = c.args.on.now in
    let by = c.args.by in
    let at = subst (λ (o : Operation _). IsAtWith g.D.Tie.rule stack o by LoadTopToLook []) (sym c.requires.named) (started (lawful (room_of stack) (limit_of stack) g.D.Tie.rule g.D.Tie.is_tie) stack.table.shared.table_id First by c.requires.pass (λ h e effect. absurd effect)) in
    ready_step g.D.Tie.rule stack c.args.look.now by LoadTopToLook [] _ _ at refl

pub returns : goal.returns
returns g c =
    let stack = c.args.on.now in
    let by = c.args.by in
    let s = c.load_top_step-top in
    let at = subst (λ (o : Operation _). IsAtWith g.D.Tie.rule stack o by LoadTopToLook []) (sym c.requires.named) (started (lawful (room_of stack) (limit_of stack) g.D.Tie.rule g.D.Tie.is_tie) stack.table.shared.table_id First by c.requires.pass (λ h e effect. absurd effect)) in
    let e = ends_so (machine_with g.D.Tie.rule stack) at (record by { seat = s.new.seat }) s.result [] s.ensures.steps s.ensures.seat.0 (ends (Answer (eqb c.index.result NULL))) (s.ensures.seat.1 ∙ c.requires.pass.rests.slots) (ap (λ (i : ℕ). ends (Answer (eqb i NULL))) (sym c.index.ensures.field)) refl in
    record {
      of = e.0;
      ended = subst (λ (o : Operation _). Ended (machine_with g.D.Tie.rule stack) o s.new.seat.me.0 (begun_with g.D.Tie.rule stack by) (ends (Answer (eqb c.index.result NULL)))) c.requires.named e.1;
      line = e.2;
    }

use Rattle.std.proofs.Common.{ℕ, Bool, [], refl, sym, ap, ◌∙◌, subst}
use Rattle.bounded_model.specs.declared.views.Answered.TheVariants.{Gauge as GaugeAnswered}
use Rattle.bounded_model.specs.declared.views.PassView.{PassView}
use Rattle.bounded_model.specs.Laws.{Answers}
use Rattle.stack_machine.specs.declared.lines.Answer.TheVariants.{Gauge as Answer}
use Rattle.stack_machine.specs.declared.lines.Line.TheVariants.{LoadTopToGauge}
use Rattle.stack_machine.specs.Machine.{ends}
use Rattle.stack_table.specs.declared.operation.Operation.TheVariants.{Gauge as First}
use Rattle.stack_table.proofs.Laws.{lawful}
use Rattle.running.proofs.Ways.{started, begun_is, ends_so}
use Rattle.tagged_index.specs.Fields.{tag_of}
use Rattle.treiber_stack.specs.Calls.{GaugeGives, machine_with, room_of, limit_of, pass_in}
use Rattle.treiber_stack.specs.code.Steps.{as_pass}
use Rattle.treiber_stack.proofs.Gauges.{gauge_gives}
use Rattle.treiber_stack.proofs.Gives.{ready_step}
use Rattle.treiber_stack.proofs.life.stack.Stack.gauge.Goals as goal

pub load_top_step-top-requires-clause-access : goal.load_top_step-top-requires-clause-access
load_top_step-top-requires-clause-access g c = let stack = c.args.self.now in
    ready_step g.D.Tie.rule stack First c.args.by.pass LoadTopToGauge [] _ _ (started (lawful (room_of stack) (limit_of stack) g.D.Tie.rule g.D.Tie.is_tie) stack.table.shared.table_id First c.args.by.pass c.requires.on (λ h e effect. absurd effect)) refl

pub returns : goal.returns
returns g c =
    let stack = c.args.self.now in
    let id = stack.table.shared.table_id in
    let s = c.load_top_step-top in
    let closed : Bool = c.is_marked.result in
    let used : ℕ = c.tag.result in
    let e = ends_so (machine_with g.D.Tie.rule stack) (started (lawful (room_of stack) (limit_of stack) g.D.Tie.rule g.D.Tie.is_tie) id First c.args.by.pass c.requires.on (λ h e effect. absurd effect)) (record c.args.by.pass { seat = s.new.seat }) s.result [] s.ensures.steps s.ensures.seat.0 (ends (Answer closed used)) (s.ensures.seat.1 ∙ c.requires.on.rests.slots) (ap (λ (b : Bool). ends (Answer b (tag_of s.result))) (sym c.is_marked.ensures) ∙ ap (λ (k : ℕ). ends (Answer closed k)) (sym c.tag.ensures.field)) refl in
    let at_rest = begun_is (machine_with g.D.Tie.rule stack) id c.args.by.pass c.requires.on in
    let back = pass_in (as_pass (record c.args.by.pass { seat = s.new.seat })) in
    record {
      of = record { on = e.0; keeps = tt };
      gives = subst (λ (v : PassView _). GaugeGives (room_of stack) (limit_of stack) v back (record { closed = closed; used = used })) at_rest (gauge_gives g.D.Tie.rule stack closed used e.1);
      answered = subst (λ (v : PassView _). Answers v back (GaugeAnswered closed used)) at_rest e.1.answered;
      line = e.2;
    }

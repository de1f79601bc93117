use Rattle.std.proofs.Common.{ap, sym, subst, ◌∙◌}
use Rattle.bounded_model.specs.declared.views.PassView.{PassView}
use Rattle.bounded_model.specs.Machine.{Legal}
use Rattle.bounded_model.specs.Laws.{IsAtRest}
use Rattle.machine.proofs.SeatedCalls.{note_view}
use Rattle.running.specs.Rule.{MayCut, line_in}
use Rattle.running.proofs.Going.{rests_view, rests_still}
use Rattle.running.proofs.passes.make_note.Goals as goal

pub split_seat-seat-requires-clause-may : goal.split_seat-seat-requires-clause-may
split_seat-seat-requires-clause-may g c = subst (MayCut (g.M.Machine.machine c.args.table.now.key)) (sym c.requires.pass.rests.view) tt

pub returns-clause-pass : goal.returns-clause-pass
returns-clause-pass g c =
    let m = g.M.Machine.machine c.args.table.now.key in
    let e = c.split_seat-seat.ensures in
    let v = note_view g.M.Machine.names.shares (g.M.Machine.names.quiet (line_in g.M.Machine.names c.args.by.now.seat.me.0)) c.args.by.now.seat.me.0 c.split_seat-seat.new.seat.me.0 c.split_seat-seat.result.me.0 c.requires.pass.rests.view (ap (λ m. m.0) e.left) (ap (λ m. m.0) e.right) in (
      record {
        table = e.table.0 ∙ c.requires.pass.table;
        rests = record { view = rests_view m (line_in g.M.Machine.names c.args.by.now.seat.me.0) c.split_seat-seat.new.seat.me.0 v.pass; slots = ap (λ m. m.1) e.left ∙ c.requires.pass.rests.slots; rests = subst (IsAtRest m.core.shape) (sym v.same) c.requires.pass.rests.rests; tied = subst (λ (p : PassView _). m.rule p.seen) (sym v.same) c.requires.pass.rests.tied };
      },
      v.same,
    )

pub returns-clause-gives : goal.returns-clause-gives
returns-clause-gives g c =
    let m = g.M.Machine.machine c.args.table.now.key in
    let e = c.split_seat-seat.ensures in
    let v = note_view g.M.Machine.names.shares (g.M.Machine.names.quiet (line_in g.M.Machine.names c.args.by.now.seat.me.0)) c.args.by.now.seat.me.0 c.split_seat-seat.new.seat.me.0 c.split_seat-seat.result.me.0 c.requires.pass.rests.view (ap (λ m. m.0) e.left) (ap (λ m. m.0) e.right) in
    (record { table = e.table.1 ∙ c.requires.pass.table; view = v.note; slots = ap (λ m. m.1) e.right; legal = subst (Legal m.core.shape) (sym v.told) c.requires.pass.rests.rests.legal; tied = subst m.rule (sym v.told) c.requires.pass.rests.tied }, v.told)

pub returns-clause-lines : goal.returns-clause-lines
returns-clause-lines g c =
    let m = g.M.Machine.machine c.args.table.now.key in
    let e = c.split_seat-seat.ensures in
    let v = note_view g.M.Machine.names.shares (g.M.Machine.names.quiet (line_in g.M.Machine.names c.args.by.now.seat.me.0)) c.args.by.now.seat.me.0 c.split_seat-seat.new.seat.me.0 c.split_seat-seat.result.me.0 c.requires.pass.rests.view (ap (λ m. m.0) e.left) (ap (λ m. m.0) e.right) in
    rests_still m c.args.by.now.seat.me.0 c.split_seat-seat.new.seat.me.0 c.requires.pass.rests.view v.pass

pub returns-clause-acts : goal.returns-clause-acts
returns-clause-acts g c =
    let m = g.M.Machine.machine c.args.table.now.key in
    let e = c.split_seat-seat.ensures in
    let v = note_view g.M.Machine.names.shares (g.M.Machine.names.quiet (line_in g.M.Machine.names c.args.by.now.seat.me.0)) c.args.by.now.seat.me.0 c.split_seat-seat.new.seat.me.0 c.split_seat-seat.result.me.0 c.requires.pass.rests.view (ap (λ m. m.0) e.left) (ap (λ m. m.0) e.right) in
    v.acts

use Rattle.std.proofs.Common.{ap, sym, subst, ◌∙◌}
use Rattle.bounded_model.specs.declared.views.PassView.{PassView}
use Rattle.bounded_model.specs.Laws.{IsAtRest}
use Rattle.running.specs.Rule.{HasTied, line_in}
use Rattle.machine.proofs.SeatedCalls.{meet_view}
use Rattle.running.proofs.Acts.{pass_takes}
use Rattle.running.proofs.Going.{rests_view, rests_still}
use Rattle.running.proofs.Tied.{both_tied, left_tied, pass_tied, tied_pass}
use Rattle.running.proofs.Uniting.{unites_passes, looks_passes, cuts_passes}
use Rattle.running.proofs.passes.meet.Goals as goal

pub join_seats-requires-clause-empty : goal.join_seats-requires-clause-empty
join_seats-requires-clause-empty g c = c.requires.second.rests.slots

pub join_seats-requires-clause-may : goal.join_seats-requires-clause-may
join_seats-requires-clause-may g c =
    let m = g.M.Machine.machine c.args.table.now.key in
    unites_passes m c.args.first.now.seat.me.0 c.args.second.seat.me.0 c.requires.first.rests.view c.requires.second.rests.view

pub look_round-requires-clause-may : goal.look_round-requires-clause-may
look_round-requires-clause-may g c =
    looks_passes (g.M.Machine.machine c.args.table.now.key) c.args.first.now.seat.me.0 c.args.second.seat.me.0 c.join_seats.new.seat.me.0 c.requires.first.rests.view c.requires.second.rests.view (ap (λ m. m.0) c.join_seats.ensures.both)

pub split_seat-seat-requires-clause-may : goal.split_seat-seat-requires-clause-may
split_seat-seat-requires-clause-may g c =
    let m = g.M.Machine.machine c.args.table.now.key in
    cuts_passes m c.args.first.now.seat.me.0 c.args.second.seat.me.0 c.join_seats.new.seat.me.0 c.look_round.new.seat.me.0 c.requires.first.rests.view c.requires.second.rests.view (ap (λ m. m.0) c.join_seats.ensures.both) c.look_round.ensures.looks

pub returns-clause-first : goal.returns-clause-first
returns-clause-first g c =
    let m = g.M.Machine.machine c.args.table.now.key in
    let e = c.split_seat-seat.ensures in
    let v = meet_view m.core.shape g.M.Machine.names.shares (g.M.Machine.names.quiet (line_in g.M.Machine.names c.args.first.now.seat.me.0)) (g.M.Machine.names.quiet (line_in g.M.Machine.names c.args.second.seat.me.0)) c.args.first.now.seat.me.0 c.args.second.seat.me.0 c.join_seats.new.seat.me.0 c.look_round.new.seat.me.0 c.split_seat-seat.new.seat.me.0 c.split_seat-seat.result.me.0
    c.requires.first.rests.view c.requires.second.rests.view (ap (λ m. m.0) c.join_seats.ensures.both) c.look_round.ensures.looks (ap (λ m. m.0) e.left) (ap (λ m. m.0) e.right) in
    record {
      table = e.table.0 ∙ c.look_round.ensures.seat.0 ∙ c.join_seats.ensures.table ∙ c.requires.first.table;
      rests = record {
        view = rests_view m (line_in g.M.Machine.names c.args.first.now.seat.me.0) c.split_seat-seat.new.seat.me.0 v.first;
        slots = ap (λ m. m.1) e.left ∙ c.look_round.ensures.seat.1 ∙ ap (λ m. m.1) c.join_seats.ensures.both ∙ c.requires.first.rests.slots;
        rests = v.rests c.requires.first.rests.rests;
        tied = tied_pass m c.split_seat-seat.new.seat.me.0 _ v.first (subst (HasTied m) (sym (ap (λ m. m.0) e.left)) (left_tied m c.look_round.new.seat.me.0 (c.look_round.ensures.tied (subst (HasTied m) (sym (ap (λ m. m.0) c.join_seats.ensures.both))
            (both_tied m c.args.first.now.seat.me.0 c.args.second.seat.me.0 (pass_tied m c.args.first.now.seat.me.0 _ c.requires.first.rests.view c.requires.first.rests.tied) (pass_tied m c.args.second.seat.me.0 _ c.requires.second.rests.view c.requires.second.rests.tied))))));
      };
    }

pub returns-clause-second : goal.returns-clause-second
returns-clause-second g c =
    let m = g.M.Machine.machine c.args.table.now.key in
    let e = c.split_seat-seat.ensures in
    let v = meet_view m.core.shape g.M.Machine.names.shares (g.M.Machine.names.quiet (line_in g.M.Machine.names c.args.first.now.seat.me.0)) (g.M.Machine.names.quiet (line_in g.M.Machine.names c.args.second.seat.me.0)) c.args.first.now.seat.me.0 c.args.second.seat.me.0 c.join_seats.new.seat.me.0 c.look_round.new.seat.me.0 c.split_seat-seat.new.seat.me.0 c.split_seat-seat.result.me.0
    c.requires.first.rests.view c.requires.second.rests.view (ap (λ m. m.0) c.join_seats.ensures.both) c.look_round.ensures.looks (ap (λ m. m.0) e.left) (ap (λ m. m.0) e.right) in (
      record {
        table = e.table.1 ∙ c.look_round.ensures.seat.0 ∙ c.join_seats.ensures.table ∙ c.requires.first.table;
        rests = record { view = rests_view m (line_in g.M.Machine.names c.args.second.seat.me.0) c.split_seat-seat.result.me.0 v.second; slots = ap (λ m. m.1) e.right; rests = subst (IsAtRest m.core.shape) (sym v.same) c.requires.second.rests.rests; tied = subst (λ (p : PassView _). m.rule p.seen) (sym v.same) c.requires.second.rests.tied };
      },
      v.same,
    )

pub returns-clause-gives : goal.returns-clause-gives
returns-clause-gives g c =
    let m = g.M.Machine.machine c.args.table.now.key in
    let e = c.split_seat-seat.ensures in
    let v = meet_view m.core.shape g.M.Machine.names.shares (g.M.Machine.names.quiet (line_in g.M.Machine.names c.args.first.now.seat.me.0)) (g.M.Machine.names.quiet (line_in g.M.Machine.names c.args.second.seat.me.0)) c.args.first.now.seat.me.0 c.args.second.seat.me.0 c.join_seats.new.seat.me.0 c.look_round.new.seat.me.0 c.split_seat-seat.new.seat.me.0 c.split_seat-seat.result.me.0
    c.requires.first.rests.view c.requires.second.rests.view (ap (λ m. m.0) c.join_seats.ensures.both) c.look_round.ensures.looks (ap (λ m. m.0) e.left) (ap (λ m. m.0) e.right) in
    v.gives

pub join_seats-requires-clause-owns : goal.join_seats-requires-clause-owns
join_seats-requires-clause-owns g c = pass_takes (g.M.Machine.machine c.args.table.now.key) c.args.first.now.seat.me.0 c.args.second.seat.me.0 _ _ _ _ _ _ c.requires.first.rests.view c.requires.second.rests.view

pub returns-clause-lines : goal.returns-clause-lines
returns-clause-lines g c =
    let m = g.M.Machine.machine c.args.table.now.key in
    let e = c.split_seat-seat.ensures in
    let v = meet_view m.core.shape g.M.Machine.names.shares (g.M.Machine.names.quiet (line_in g.M.Machine.names c.args.first.now.seat.me.0)) (g.M.Machine.names.quiet (line_in g.M.Machine.names c.args.second.seat.me.0)) c.args.first.now.seat.me.0 c.args.second.seat.me.0 c.join_seats.new.seat.me.0 c.look_round.new.seat.me.0 c.split_seat-seat.new.seat.me.0 c.split_seat-seat.result.me.0
    c.requires.first.rests.view c.requires.second.rests.view (ap (λ m. m.0) c.join_seats.ensures.both) c.look_round.ensures.looks (ap (λ m. m.0) e.left) (ap (λ m. m.0) e.right) in (
      rests_still m c.args.first.now.seat.me.0 c.split_seat-seat.new.seat.me.0 c.requires.first.rests.view v.first,
      rests_still m c.args.second.seat.me.0 c.split_seat-seat.result.me.0 c.requires.second.rests.view v.second,
    )

pub returns-clause-acts : goal.returns-clause-acts
returns-clause-acts g c =
    let m = g.M.Machine.machine c.args.table.now.key in
    let e = c.split_seat-seat.ensures in
    let v = meet_view m.core.shape g.M.Machine.names.shares (g.M.Machine.names.quiet (line_in g.M.Machine.names c.args.first.now.seat.me.0)) (g.M.Machine.names.quiet (line_in g.M.Machine.names c.args.second.seat.me.0)) c.args.first.now.seat.me.0 c.args.second.seat.me.0 c.join_seats.new.seat.me.0 c.look_round.new.seat.me.0 c.split_seat-seat.new.seat.me.0 c.split_seat-seat.result.me.0
    c.requires.first.rests.view c.requires.second.rests.view (ap (λ m. m.0) c.join_seats.ensures.both) c.look_round.ensures.looks (ap (λ m. m.0) e.left) (ap (λ m. m.0) e.right) in
    (v.acts.0, v.acts.1, v.same_acts)

use Rattle.std.proofs.Common.{ap, ◌∙◌, subst, sym}
use Rattle.running.specs.Rule.{HasTied, line_in}
use Rattle.machine.proofs.SeatedCalls.{heed_view}
use Rattle.running.proofs.Acts.{note_takes}
use Rattle.running.proofs.Going.{rests_view, rests_still}
use Rattle.running.proofs.Tied.{both_tied, left_tied, note_tied, pass_tied, tied_pass}
use Rattle.running.proofs.Uniting.{unites_note, looks_note, cuts_note}
use Rattle.running.proofs.passes.heed.Goals as goal

pub join_seats-requires-clause-empty : goal.join_seats-requires-clause-empty
join_seats-requires-clause-empty g c = c.requires.note.slots

pub join_seats-requires-clause-may : goal.join_seats-requires-clause-may
join_seats-requires-clause-may g c = unites_note (g.M.Machine.machine c.args.table.now.key) c.args.by.now.seat.me.0 c.args.note.seat.me.0 c.requires.pass.rests.view c.requires.note.view

pub look_round-requires-clause-may : goal.look_round-requires-clause-may
look_round-requires-clause-may g c =
    looks_note (g.M.Machine.machine c.args.table.now.key) c.args.by.now.seat.me.0 c.args.note.seat.me.0 c.join_seats.new.seat.me.0 c.requires.pass.rests.view c.requires.note.view (ap (λ m. m.0) c.join_seats.ensures.both)

pub split_seat-requires-clause-may : goal.split_seat-requires-clause-may
split_seat-requires-clause-may g c =
    let m = g.M.Machine.machine c.args.table.now.key in
    cuts_note m c.args.by.now.seat.me.0 c.args.note.seat.me.0 c.join_seats.new.seat.me.0 c.look_round.new.seat.me.0 c.requires.pass.rests.view c.requires.note.view (ap (λ m. m.0) c.join_seats.ensures.both) c.look_round.ensures.looks

pub returns-clause-of : goal.returns-clause-of
returns-clause-of g c =
    let m = g.M.Machine.machine c.args.table.now.key in
    let e = c.split_seat.ensures in
    let v = heed_view m.core.shape g.M.Machine.names.shares (g.M.Machine.names.quiet (line_in g.M.Machine.names c.args.by.now.seat.me.0)) c.args.by.now.seat.me.0 c.args.note.seat.me.0 c.join_seats.new.seat.me.0 c.look_round.new.seat.me.0 c.split_seat.new.seat.me.0
    c.requires.pass.rests.view c.requires.note.view (ap (λ m. m.0) c.join_seats.ensures.both) c.look_round.ensures.looks (ap (λ m. m.0) e.left) in
    record {
      table = e.table.0 ∙ c.look_round.ensures.seat.0 ∙ c.join_seats.ensures.table ∙ c.requires.pass.table;
      rests = record {
        view = rests_view m (line_in g.M.Machine.names c.args.by.now.seat.me.0) c.split_seat.new.seat.me.0 v.pass;
        slots = ap (λ m. m.1) e.left ∙ c.look_round.ensures.seat.1 ∙ ap (λ m. m.1) c.join_seats.ensures.both ∙ c.requires.pass.rests.slots;
        rests = v.rests c.requires.pass.rests.rests;
        tied = tied_pass m c.split_seat.new.seat.me.0 _ v.pass (subst (HasTied m) (sym (ap (λ m. m.0) e.left)) (left_tied m c.look_round.new.seat.me.0 (c.look_round.ensures.tied (subst (HasTied m) (sym (ap (λ m. m.0) c.join_seats.ensures.both))
            (both_tied m c.args.by.now.seat.me.0 c.args.note.seat.me.0 (pass_tied m c.args.by.now.seat.me.0 _ c.requires.pass.rests.view c.requires.pass.rests.tied) (note_tied m c.args.note.seat.me.0 c.requires.note.view c.requires.note.tied))))));
      };
    }

pub returns-clause-gives : goal.returns-clause-gives
returns-clause-gives g c =
    let m = g.M.Machine.machine c.args.table.now.key in
    let v = heed_view m.core.shape g.M.Machine.names.shares (g.M.Machine.names.quiet (line_in g.M.Machine.names c.args.by.now.seat.me.0)) c.args.by.now.seat.me.0 c.args.note.seat.me.0 c.join_seats.new.seat.me.0 c.look_round.new.seat.me.0 c.split_seat.new.seat.me.0
    c.requires.pass.rests.view c.requires.note.view (ap (λ m. m.0) c.join_seats.ensures.both) c.look_round.ensures.looks (ap (λ m. m.0) c.split_seat.ensures.left) in
    v.gives

pub join_seats-requires-clause-owns : goal.join_seats-requires-clause-owns
join_seats-requires-clause-owns g c = note_takes (g.M.Machine.machine c.args.table.now.key) c.args.by.now.seat.me.0 c.args.note.seat.me.0 _ c.requires.note.view

pub returns-clause-lines : goal.returns-clause-lines
returns-clause-lines g c =
    let m = g.M.Machine.machine c.args.table.now.key in
    let v = heed_view m.core.shape g.M.Machine.names.shares (g.M.Machine.names.quiet (line_in g.M.Machine.names c.args.by.now.seat.me.0)) c.args.by.now.seat.me.0 c.args.note.seat.me.0 c.join_seats.new.seat.me.0 c.look_round.new.seat.me.0 c.split_seat.new.seat.me.0
    c.requires.pass.rests.view c.requires.note.view (ap (λ m. m.0) c.join_seats.ensures.both) c.look_round.ensures.looks (ap (λ m. m.0) c.split_seat.ensures.left) in
    rests_still m c.args.by.now.seat.me.0 c.split_seat.new.seat.me.0 c.requires.pass.rests.view v.pass

pub returns-clause-acts : goal.returns-clause-acts
returns-clause-acts g c =
    let m = g.M.Machine.machine c.args.table.now.key in
    let v = heed_view m.core.shape g.M.Machine.names.shares (g.M.Machine.names.quiet (line_in g.M.Machine.names c.args.by.now.seat.me.0)) c.args.by.now.seat.me.0 c.args.note.seat.me.0 c.join_seats.new.seat.me.0 c.look_round.new.seat.me.0 c.split_seat.new.seat.me.0
    c.requires.pass.rests.view c.requires.note.view (ap (λ m. m.0) c.join_seats.ensures.both) c.look_round.ensures.looks (ap (λ m. m.0) c.split_seat.ensures.left) in
    v.acts

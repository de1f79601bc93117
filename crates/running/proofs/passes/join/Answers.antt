use Rattle.std.proofs.Common.{◌≡◌, ℕ, ◌+◌, ◌-◌, ◌<◌, length, arith, ap, ◌∙◌, sym, subst}
use Rattle.bounded_model.specs.declared.views.RootView.{RootView}
use Rattle.machine.specs.Seats.{root_of}
use Rattle.running.specs.Rule.{HasTied, line_in}
use Rattle.machine.proofs.SeatedCalls.{join_view, was_out}
use Rattle.running.specs.Passes.{root_in, pass_in}
use Rattle.running.proofs.Acts.{root_takes}
use Rattle.running.proofs.Tied.{both_tied, pass_tied, root_tied, tied_root}
use Rattle.running.proofs.Uniting.{unites_root, looks_root}
use Rattle.running.proofs.passes.join.Goals as goal

pub join_seats-requires-clause-empty : goal.join_seats-requires-clause-empty
join_seats-requires-clause-empty g c = c.requires.pass.rests.slots

pub join_seats-requires-clause-may : goal.join_seats-requires-clause-may
join_seats-requires-clause-may g c = unites_root (g.M.Machine.machine c.args.table.now.key) c.args.parent.now.seat.me.0 c.args.by.seat.me.0 _ _ c.args.parent.now.out c.requires.root.view c.requires.root.stock c.requires.pass.rests.view

pub look_round-requires-clause-may : goal.look_round-requires-clause-may
look_round-requires-clause-may g c =
    looks_root (g.M.Machine.machine c.args.table.now.key) c.args.parent.now.seat.me.0 c.args.by.seat.me.0 c.join_seats.new.seat.me.0 (root_in c.args.parent.now) _ c.requires.root.view c.requires.pass.rests.view (ap (λ m. m.0) c.join_seats.ensures.both)

pub overflow_sub-parent : goal.overflow_sub-parent
overflow_sub-parent g c =
    let m = g.M.Machine.machine c.args.table.now.key in
    let v = join_view m.core.shape g.M.Machine.names.shares (line_in g.M.Machine.names c.args.parent.now.seat.me.0) (g.M.Machine.names.quiet (line_in g.M.Machine.names c.args.by.seat.me.0)) c.args.parent.now.seat.me.0 c.args.by.seat.me.0 c.join_seats.new.seat.me.0 c.look_round.new.seat.me.0 c.requires.root.view c.requires.pass.rests.view (ap (λ m. m.0) c.join_seats.ensures.both) c.look_round.ensures.looks in
    was_out m.core.shape (root_in c.args.parent.now) (root_of c.look_round.new.seat.me.0) (pass_in c.args.by) c.args.parent.now.out v.gives v.sound c.requires.root.counted

pub returns-clause-root : goal.returns-clause-root
returns-clause-root g c =
    let m = g.M.Machine.machine c.args.table.now.key in
    let v = join_view m.core.shape g.M.Machine.names.shares (line_in g.M.Machine.names c.args.parent.now.seat.me.0) (g.M.Machine.names.quiet (line_in g.M.Machine.names c.args.by.seat.me.0)) c.args.parent.now.seat.me.0 c.args.by.seat.me.0 c.join_seats.new.seat.me.0 c.look_round.new.seat.me.0 c.requires.root.view c.requires.pass.rests.view (ap (λ m. m.0) c.join_seats.ensures.both) c.look_round.ensures.looks in
    let root : RootView _ = root_in c.args.parent.now in
    let after : RootView _ = root_of c.look_round.new.seat.me.0 in
    let out : ℕ = c.args.parent.now.out in
    let was : root.given ≡ out + length root.account = c.requires.root.counted in
    let some_out : 0 < out = was_out m.core.shape root after (pass_in c.args.by) out v.gives v.sound was in
    let given : after.given ≡ root.given = v.gives.given in
    let account : length after.account ≡ length root.account + 1 = ap length v.gives.account ∙ omega arith in
    let counted : after.given ≡ (out - 1) + length after.account = omega arith in
    let before : out ≡ (out - 1) + 1 = omega arith in
    let by = g.M.Machine.names.quiet (line_in g.M.Machine.names c.args.by.seat.me.0) in
    record {
      table = c.look_round.ensures.seat.0 ∙ c.join_seats.ensures.table ∙ c.requires.root.table;
      view = v.root;
      slots = c.look_round.ensures.seat.1 ∙ ap (λ m. m.1) c.join_seats.ensures.both ∙ c.requires.root.slots;
      sound = v.sound;
      counted = counted;
      stock = subst (m.core.IsStock (out - 1)) (sym v.line) ((g.met.M.Lawful.lawful c.args.table.now.key).laws.takes_stock (out - 1) _ by (subst (λ (k : ℕ). m.core.IsStock k (line_in g.M.Machine.names c.args.parent.now.seat.me.0)) before c.requires.root.stock) (g.M.Machine.names.calm (line_in g.M.Machine.names c.args.by.seat.me.0)));
      tied = tied_root m c.look_round.new.seat.me.0 _ v.root (c.look_round.ensures.tied (subst (HasTied m) (sym (ap (λ m. m.0) c.join_seats.ensures.both))
          (both_tied m c.args.parent.now.seat.me.0 c.args.by.seat.me.0 (root_tied m c.args.parent.now.seat.me.0 _ c.requires.root.view c.requires.root.tied) (pass_tied m c.args.by.seat.me.0 _ c.requires.pass.rests.view c.requires.pass.rests.tied))));
    }

pub returns-clause-gives : goal.returns-clause-gives
returns-clause-gives g c =
    let m = g.M.Machine.machine c.args.table.now.key in
    let v = join_view m.core.shape g.M.Machine.names.shares (line_in g.M.Machine.names c.args.parent.now.seat.me.0) (g.M.Machine.names.quiet (line_in g.M.Machine.names c.args.by.seat.me.0)) c.args.parent.now.seat.me.0 c.args.by.seat.me.0 c.join_seats.new.seat.me.0 c.look_round.new.seat.me.0 c.requires.root.view c.requires.pass.rests.view (ap (λ m. m.0) c.join_seats.ensures.both) c.look_round.ensures.looks in
    v.gives

pub join_seats-requires-clause-owns : goal.join_seats-requires-clause-owns
join_seats-requires-clause-owns g c = root_takes (g.M.Machine.machine c.args.table.now.key) c.args.parent.now.seat.me.0 c.args.by.seat.me.0 _ _ _ _ _ _ c.requires.root.view c.requires.pass.rests.view

pub returns-clause-lines : goal.returns-clause-lines
returns-clause-lines g c =
    let m = g.M.Machine.machine c.args.table.now.key in
    let names = g.M.Machine.names in
    let line = line_in names c.args.parent.now.seat.me.0 in
    let v = join_view m.core.shape names.shares line (names.quiet (line_in names c.args.by.seat.me.0)) c.args.parent.now.seat.me.0 c.args.by.seat.me.0 c.join_seats.new.seat.me.0 c.look_round.new.seat.me.0 c.requires.root.view c.requires.pass.rests.view (ap (λ m. m.0) c.join_seats.ensures.both) c.look_round.ensures.looks in
    v.line ∙ sym (ap (names.shares.takes line) (ap (line_in names) c.requires.pass.rests.view))

pub returns-clause-acts : goal.returns-clause-acts
returns-clause-acts g c =
    let m = g.M.Machine.machine c.args.table.now.key in
    let v = join_view m.core.shape g.M.Machine.names.shares (line_in g.M.Machine.names c.args.parent.now.seat.me.0) (g.M.Machine.names.quiet (line_in g.M.Machine.names c.args.by.seat.me.0)) c.args.parent.now.seat.me.0 c.args.by.seat.me.0 c.join_seats.new.seat.me.0 c.look_round.new.seat.me.0 c.requires.root.view c.requires.pass.rests.view (ap (λ m. m.0) c.join_seats.ensures.both) c.look_round.ensures.looks in
    v.acts

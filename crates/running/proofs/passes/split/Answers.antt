use Rattle.std.proofs.Common.{◌≡◌, ◌+◌, ◌<◌, length, arith, rules, ap, sym, subst, ◌∙◌}
use Rattle.bounded_model.specs.declared.views.RootView.{RootView}
use Rattle.bounded_model.specs.Laws.{HasRoomForPass}
use Rattle.machine.specs.Seats.{root_of}
use Rattle.machine.proofs.SeatedCalls.{split_view}
use Rattle.running.specs.Rule.{HasTied, MayCut, line_in}
use Rattle.running.specs.Passes.{root_in}
use Rattle.running.proofs.Going.{rests_made}
use Rattle.running.proofs.Tied.{left_tied, right_tied, root_tied, tied_pass, tied_root}
use Rattle.running.proofs.passes.split.Goals as goal

pub split_seat-seat-requires-clause-may : goal.split_seat-seat-requires-clause-may
split_seat-seat-requires-clause-may g c =
    let m = g.M.Machine.machine c.args.table.now.key in
    let parent = c.args.parent.now in
    let most : c.args.most ≡ m.core.shape.passes = c.requires.most in
    let fewer : parent.out < m.core.shape.passes = search rules in
    subst (MayCut m) (sym c.requires.root.view) (parent.out, c.requires.root.stock, fewer)

pub returns-clause-root : goal.returns-clause-root
returns-clause-root g c =
    let m = g.M.Machine.machine c.args.table.now.key in
    let e = c.split_seat-seat.ensures in
    let parent = c.args.parent.now in
    let root : RootView _ = root_in parent in
    let line = line_in g.M.Machine.names parent.seat.me.0 in
    let was : root.given ≡ parent.out + length root.account = c.requires.root.counted in
    let most : c.args.most ≡ m.core.shape.passes = c.requires.most in
    let fewer : parent.out < m.core.shape.passes = search rules in
    let room : HasRoomForPass m.core.shape root = omega arith in
    let v = split_view m.core.shape g.M.Machine.names.shares line parent.seat.me.0 c.split_seat-seat.new.seat.me.0 c.split_seat-seat.result.me.0 c.requires.root.view c.requires.root.sound room (ap (λ m. m.0) e.left) (ap (λ m. m.0) e.right) in
    let after : RootView _ = root_of c.split_seat-seat.new.seat.me.0 in
    let given : after.given ≡ root.given + 1 = ap (λ (r : RootView _). r.given) v.gives.root in
    let account : length after.account ≡ length root.account = ap (λ (r : RootView _). length r.account) v.gives.root in
    let counted : after.given ≡ (parent.out + 1) + length after.account = omega arith in
    record {
      table = e.table.0 ∙ c.requires.root.table;
      view = v.root;
      slots = ap (λ m. m.1) e.left ∙ c.requires.root.slots;
      sound = v.sound;
      counted = counted;
      stock = subst (m.core.IsStock (parent.out + 1)) (sym v.line) ((g.met.M.Lawful.lawful c.args.table.now.key).laws.gives_stock parent.out line c.requires.root.stock fewer);
      tied = tied_root m c.split_seat-seat.new.seat.me.0 _ v.root (subst (HasTied m) (sym (ap (λ m. m.0) e.left)) (left_tied m parent.seat.me.0 (root_tied m parent.seat.me.0 line c.requires.root.view c.requires.root.tied)));
    }

pub returns-clause-gives : goal.returns-clause-gives
returns-clause-gives g c =
    let m = g.M.Machine.machine c.args.table.now.key in
    let e = c.split_seat-seat.ensures in
    let parent = c.args.parent.now in
    let root : RootView _ = root_in parent in
    let line = line_in g.M.Machine.names parent.seat.me.0 in
    let was : root.given ≡ parent.out + length root.account = c.requires.root.counted in
    let most : c.args.most ≡ m.core.shape.passes = c.requires.most in
    let fewer : parent.out < m.core.shape.passes = search rules in
    let room : HasRoomForPass m.core.shape root = omega arith in
    let v = split_view m.core.shape g.M.Machine.names.shares line parent.seat.me.0 c.split_seat-seat.new.seat.me.0 c.split_seat-seat.result.me.0 c.requires.root.view c.requires.root.sound room (ap (λ m. m.0) e.left) (ap (λ m. m.0) e.right) in
    let tied = tied_pass m c.split_seat-seat.result.me.0 _ v.pass (subst (HasTied m) (sym (ap (λ m. m.0) e.right)) (right_tied m parent.seat.me.0 (root_tied m parent.seat.me.0 line c.requires.root.view c.requires.root.tied))) in
    (record { table = e.table.1 ∙ c.requires.root.table; rests = rests_made m (g.M.Machine.names.shares.gives line).1 c.split_seat-seat.result.me ((g.met.M.Lawful.lawful c.args.table.now.key).laws.gives_quiet parent.out line c.requires.root.stock fewer) v.pass (ap (λ m. m.1) e.right) v.rests tied }, v.gives)

pub returns-clause-lines : goal.returns-clause-lines
returns-clause-lines g c =
    let m = g.M.Machine.machine c.args.table.now.key in
    let e = c.split_seat-seat.ensures in
    let parent = c.args.parent.now in
    let root : RootView _ = root_in parent in
    let names = g.M.Machine.names in
    let line = line_in names parent.seat.me.0 in
    let was : root.given ≡ parent.out + length root.account = c.requires.root.counted in
    let most : c.args.most ≡ m.core.shape.passes = c.requires.most in
    let fewer : parent.out < m.core.shape.passes = search rules in
    let room : HasRoomForPass m.core.shape root = omega arith in
    let v = split_view m.core.shape names.shares line parent.seat.me.0 c.split_seat-seat.new.seat.me.0 c.split_seat-seat.result.me.0 c.requires.root.view c.requires.root.sound room (ap (λ m. m.0) e.left) (ap (λ m. m.0) e.right) in
    record { root = v.line; pass = ap (line_in names) v.pass }

pub returns-clause-acts : goal.returns-clause-acts
returns-clause-acts g c =
    let m = g.M.Machine.machine c.args.table.now.key in
    let e = c.split_seat-seat.ensures in
    let parent = c.args.parent.now in
    let root : RootView _ = root_in parent in
    let line = line_in g.M.Machine.names parent.seat.me.0 in
    let was : root.given ≡ parent.out + length root.account = c.requires.root.counted in
    let most : c.args.most ≡ m.core.shape.passes = c.requires.most in
    let fewer : parent.out < m.core.shape.passes = search rules in
    let room : HasRoomForPass m.core.shape root = omega arith in
    let v = split_view m.core.shape g.M.Machine.names.shares line parent.seat.me.0 c.split_seat-seat.new.seat.me.0 c.split_seat-seat.result.me.0 c.requires.root.view c.requires.root.sound room (ap (λ m. m.0) e.left) (ap (λ m. m.0) e.right) in
    v.acts

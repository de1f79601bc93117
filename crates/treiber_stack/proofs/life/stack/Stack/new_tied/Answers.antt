use Rattle.std.proofs.Common.{◌≡◌, ℕ, ◌+◌, ◌<◌, [], length, arith, rules, refl, sym, ap, ◌∙◌, subst}
use Rattle.std.specs.Prelude.{slice_index}
use Rattle.tagged_index.specs.Limits.{capacity_of, tag_limit_of}
use Rattle.tagged_index.specs.declared.limit.Limits.{Limits}
use Rattle.bounded_model.specs.Laws.{IsSound, fresh}
use Rattle.machine.proofs.SeatedCalls.{at_root}
use Rattle.machine.specs.Seats.{root_of, first_view}
use Rattle.running.specs.Rule.{line_in}
use Rattle.stack_table.specs.Layout.{words_for, start_at}
use Rattle.stack_table.specs.Lines.{names}
use Rattle.stack_table.proofs.Opening.{opens}
use Rattle.treiber_stack.specs.code.Machine.{machine_for, shape_at}
use Rattle.treiber_stack.proofs.life.stack.Stack.new_tied.Goals as goal

pub vacant-requires : goal.vacant-requires
vacant-requires g c =
    let l = c.args.limits in
    let xs = c.in_ok-words.words.items in
    let e = subst (λ (n : ℕ). (length xs ≡ words_for n) × ((k : ℕ) → k < words_for n → slice_index xs k ≡ start_at n k)) c.capacity.ensures c.in_ok-words.ensures in
    opens {T = g.row.T.Denot} (capacity_of l) (tag_limit_of l) g.D.Tie.rule g.D.Tie.is_tie c.as_slice.result.now xs c.as_slice.ensures.value l.some_capacity (search rules) e.0 e.1 _ c.capacity-count.ensures

pub returns : goal.returns
returns g c =
    let made = c.in_ok-table.ensures in
    let k = c.in_ok-table.table.shared.key in
    let m = machine_for {T = g.row.T.Denot} g.D.Tie.rule k in
    let me : c.in_ok-table.seat.me ≡ (first_view m.core.stock, []) = made.4 ∙ ap (λ (l : Limits). (first_view (machine_for {T = g.row.T.Denot} g.D.Tie.rule l).core.stock, [])) (sym made.5) in (
      made.5,
      record {
        on = record {
          table = made.2;
          view = at_root names.shares c.in_ok-table.seat.me.0 fresh [] m.core.stock (ap (λ m. m.0) me);
          slots = ap (λ m. m.1) me;
          sound = subst (λ r. IsSound m.core.shape (root_of r.0)) (sym me) (record { legal = tt; joined = tt; apart = tt; given = tt; known = tt; works = refl });
          counted = subst (λ r. (root_of r.0).given ≡ 0 + length (root_of r.0).account) (sym me) (omega arith);
          stock = subst (λ r. m.core.IsStock 0 (line_in names r.0)) (sym me) tt;
          tied = subst (λ r. m.rule (root_of r.0).seen) (sym me) g.D.Tie.is_tie.first;
        };
        stocks = tt;
      },
      ap (λ m. root_of m.0) me,
      ap shape_at made.5,
    )

use Rattle.std.proofs.Common.{◌≡◌, ℕ, ◌+◌, ◌<◌, [], length, arith, refl, sym, ap, ◌∙◌, subst}
use Rattle.std.specs.Prelude.{slice_index}
use Rattle.tagged_index.specs.Limits.{capacity_of, passes_of}
use Rattle.bounded_model.specs.Laws.{IsSound, fresh}
use Rattle.machine.proofs.SeatedCalls.{at_root}
use Rattle.tagged_index.specs.declared.limit.Limits.{Limits}
use Rattle.machine.specs.Seats.{root_of, first_view}
use Rattle.running.specs.Rule.{line_in}
use Rattle.ring_table.specs.declared.line.SeatLine.TheVariants.{Stock}
use Rattle.ring_table.specs.Layout.{words_for, start_at}
use Rattle.ring_table.specs.Seats.{names, cells_from}
use Rattle.ring_table.proofs.Laws.{laws}
use Rattle.ring_table.proofs.Opening.{opens}
use Rattle.ring_queue.specs.code.Machine.{laps_at, machine_at, shape_at}
use Rattle.ring_queue.specs.Calls.{cells_of}
use Rattle.ring_queue.proofs.life.ring.RingQueue.new_tied.Goals as goal

pub vacant-requires : goal.vacant-requires
vacant-requires g c =
    let l = c.args.limits.limits in
    let xs = c.in_ok-words.words.items in
    let e = subst (λ (n : ℕ). (length xs ≡ words_for n) × ((k : ℕ) → k < words_for n → slice_index xs k ≡ start_at n k)) c.capacity-capacity.ensures c.in_ok-words.ensures in
    opens g.row.T.Denot (capacity_of l) (laps_at l) (passes_of l) g.D.Tie.rule g.D.Tie.is_tie c.as_slice.result.now xs c.as_slice.ensures.value l.some_capacity c.args.limits.small e.0 e.1 _ (omega (arith, c.capacity-capacity.ensures, c.passes-passes.ensures))

pub returns : goal.returns
returns g c =
    let made = c.in_ok-table.ensures in
    let k = c.in_ok-table.table.shared.key in
    let m = machine_at {T = g.row.T.Denot} k in
    let stock = Stock (cells_from (capacity_of k) (passes_of k)) in
    let me : c.in_ok-table.seat.me ≡ (first_view m.core.stock, []) = made.4 ∙ ap (λ (l : Limits). (first_view (machine_at {T = g.row.T.Denot} l).core.stock, [])) (sym made.5) in
    let few : passes_of k ≡ c.passes-passes.result = ap (λ (l : Limits). passes_of l) made.5 ∙ sym c.passes-passes.ensures in
    let many : capacity_of k ≡ c.capacity-capacity.result = ap (λ (l : Limits). capacity_of l) made.5 ∙ sym c.capacity-capacity.ensures in
    let cells : cells_of c.in_ok-spares.spares.items ≡ cells_from (capacity_of k) (passes_of k) = c.in_ok-spares.ensures.cells ∙ sym (λ i. cells_from (many i) (few i)) in (
      made.5,
      record {
        on = record {
          table = made.2;
          view = at_root names.shares c.in_ok-table.seat.me.0 fresh [] stock (ap (λ m. m.0) me);
          slots = ap (λ m. m.1) me;
          sound = subst (λ r. IsSound m.core.shape (root_of r.0)) (sym me) (record { legal = tt; joined = tt; apart = tt; given = tt; known = tt; works = refl });
          counted = subst (λ r. (root_of r.0).given ≡ 0 + length (root_of r.0).account) (sym me) (omega arith);
          stock = subst (λ r. m.core.IsStock 0 (line_in names r.0)) (sym me) (laws {T = g.row.T.Denot} (capacity_of k) (laps_at k) (passes_of k)).stocked;
          tied = subst (λ r. g.D.Tie.rule (root_of r.0).seen) (sym me) g.D.Tie.is_tie.first;
        };
        stocks = record { is = ap (λ m. line_in names m.0) me ∙ ap Stock (sym cells); room = omega (arith, c.in_ok-spares.ensures.room, few) };
      },
      ap (λ m. root_of m.0) me,
      ap (shape_at g.row.T.Denot) made.5,
    )

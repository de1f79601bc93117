-- What any table of a queue says as a whole.
use Rattle.std.proofs.Common.{◌≡◌, ℕ, ◌+◌, ◌<◌, ◌≤◌, List, length, map, refl, sym, ap, ◌∙◌, arith}
use Rattle.std.proofs.lemmas.List.{length-map}
use Rattle.std.specs.Prelude.{Option as Slot}
use mathlib.Core.Option.{Option}
use Rattle.tagged_index.specs.declared.word.TheConstants.{NULL}
use Rattle.atomic_table.specs.Table.{State}
use Rattle.bounded_model.specs.declared.history.Event.{Event}
use Rattle.bounded_model.specs.Machine.{without_first}
use Rattle.machine.specs.Chains.{values_in}
use Rattle.machine.specs.Words.{times}
use Rattle.machine.specs.declared.seats.View.{View}
use Rattle.machine.proofs.Chains.{chain_from-is, values_in-is}
use Rattle.machine.proofs.OneList.{front}
use Rattle.machine.proofs.Tests.{not_below}
use Rattle.queue_machine.specs.declared.lines.Line.{Line}
use Rattle.queue_machine.specs.Answers.{shape, state}
use Rattle.queue_machine.specs.Machine.{Memory, next_of}
use Rattle.queue_machine.specs.Rule.{Kept}
use Rattle.queue_machine.proofs.Chain.{head_in}
use Rattle.queue_machine.proofs.Places.{nothing_twice}
use Rattle.queue_table.specs.Lines.{names}
use Rattle.queue_table.specs.Memories.{memory_of}
use Rattle.queue_table.specs.Core.{queue_with}
use Rattle.running.specs.Rule.{Rule, line_in, who}
use Rattle.step_core.specs.queue.Law.{values_left}
use Rattle.step_core.specs.queue.Object.{object, answer}
use Rattle.step_core.proofs.queue.Full.{few_of}
use Rattle.runs.proofs.Table.{queue_history, one_history, hold_at_most, led_to}
use Rattle.runs.specs.queue.Bounded.{call_at}
use Rattle.runs.specs.queue.Headline.{Headline}
use Rattle.runs.proofs.queue.Queues.{linearizable}

-- the values in the cells along the chain are those that the history says
stored : {T : Type 0} (n limit : ℕ) (m : Memory T) (who : ℕ → Option ℕ) (lines : List (Line T)) (h : List (Event T)) → Kept T n limit m who lines h → values_left n m ≡ (state n limit h).values
stored n limit m who lines h x =
    let g = x.good in
    let lists = x.lists in
    let values = (state n limit h).values in
    let chained = g.linked.chained in
    let f = front (next_of m) m.head.index lists.chain NULL (head_in chained) chained.stands in
    let queued : lists.queued ≡ map m.cell f.rest = chained.stored ∙ ap (λ (is : List ℕ). map m.cell (without_first is)) f.is in
    let few : length f.rest ≤ n = omega (arith, ap length queued, length-map f.rest m.cell, g.told.room) in
    let never : times NULL f.rest ≡ 0 = omega (arith, ap (times NULL) f.is, g.linked.nodes_once NULL, not_below NULL (n + 1) (omega (arith, g.linked.small))) in
    ap (λ (is : List ℕ). values_in m.home (map m.cell is)) (chain_from-is (next_of m) n (next_of m m.head.index) f.rest few never f.leads)
    ∙ ap (values_in m.home) (sym queued)
    ∙ values_in-is m.home lists.queued values g.filled.stored

pub headline : {T : Type 0} (rule : List (Event T) → Type 0) (n limit : ℕ) → 0 < n → n < NULL → 0 < limit → (s : State (Slot T) (View T (Line T))) (r : Rule (queue_with T n limit rule) s) → Headline T n limit s r
headline {T} rule n limit some_cell small some_tag s r = record {
  history = queue_history (shape n limit) r.history r.good.good.told.legal refl;
  hands = hold_at_most (queue_with T n limit rule) s r call_at answer (object n limit) 1 few_of (linearizable n limit some_cell small some_tag r.led.acts r.led.allowed);
  stored = stored n limit (memory_of s.words s.homes) (who s.views) (map (line_in names) s.views) r.history r.good;
  seats = one_history (queue_with T n limit rule) s r;
  places = nothing_twice r.good.good;
  led = led_to (queue_with T n limit rule) s r;
  calls = linearizable n limit some_cell small some_tag r.led.acts r.led.allowed;
  tied = r.tied;
}

-- What any table of a stack says as a whole.
use Rattle.std.proofs.Common.{◌≡◌, ℕ, ◌<◌, ◌≤◌, List, length, map, refl, ap, ◌∙◌, arith}
use Rattle.std.specs.Prelude.{Option as Slot}
use mathlib.Core.Option.{Option}
use Rattle.tagged_index.specs.declared.word.TheConstants.{NULL}
use Rattle.atomic_table.specs.Table.{State}
use Rattle.bounded_model.specs.declared.history.Event.{Event}
use Rattle.machine.specs.Chains.{values_in}
use Rattle.machine.specs.Words.{times}
use Rattle.machine.specs.declared.seats.View.{View}
use Rattle.machine.proofs.Chains.{chain_from-is, values_in-is}
use Rattle.machine.proofs.Tests.{not_below}
use Rattle.stack_machine.specs.declared.lines.Line.{Line}
use Rattle.stack_machine.specs.Answers.{shape, state}
use Rattle.stack_machine.specs.Machine.{Memory}
use Rattle.stack_machine.specs.Rule.{Kept}
use Rattle.stack_machine.proofs.Places.{no_node_twice}
use Rattle.stack_table.specs.Lines.{names}
use Rattle.stack_table.specs.Memories.{memory_of}
use Rattle.stack_table.specs.Core.{stack_with}
use Rattle.running.specs.Rule.{Rule, line_in, who}
use Rattle.runs.proofs.Table.{stack_history, one_history, led_to}
use Rattle.runs.specs.stack.Headline.{Headline, values_left}
use Rattle.runs.proofs.stack.Stacks.{linearizable}

-- the values in the nodes from the top are those that the history says
stored : {T : Type 0} (n limit : ℕ) (m : Memory T) (who : ℕ → Option ℕ) (lines : List (Line T)) (h : List (Event T)) → Kept T n limit m who lines h → values_left n m ≡ (state n limit h).values
stored n limit m who lines h x =
    let g = x.good in
    let stack = x.lists.stack in
    let few : length stack ≤ n = omega (arith, g.told.room) in
    let never : times NULL stack ≡ 0 = omega (arith, g.linked.once NULL, not_below NULL n g.linked.small) in
    ap (values_in m.home) (chain_from-is m.link n m.top.index stack few never g.linked.top_stands)
    ∙ values_in-is m.home stack (state n limit h).values g.filled.stored

pub headline : {T : Type 0} (rule : List (Event T) → Type 0) (n limit : ℕ) → 0 < n → n ≤ NULL → (s : State (Slot T) (View T (Line T))) (r : Rule (stack_with T n limit rule) s) → Headline T n limit s r
headline {T} rule n limit some_node small s r = record {
  history = stack_history (shape n limit) r.history r.good.good.told.legal refl;
  stored = stored n limit (memory_of s.words s.homes) (who s.views) (map (line_in names) s.views) r.history r.good;
  seats = one_history (stack_with T n limit rule) s r;
  places = no_node_twice r.good.good;
  led = led_to (stack_with T n limit rule) s r;
  calls = linearizable n limit some_node small r.led.acts r.led.allowed;
  tied = r.tied;
}

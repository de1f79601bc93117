-- In every schedule of the queue, what was put is what was taken and what is left, in order.
use Rattle.std.proofs.Common.{◌≡◌, ℕ, ◌+◌, ◌<◌, ◌≤◌, List, ◌++◌, length, map, refl, sym, ap, ◌∙◌, arith}
use Rattle.std.proofs.lemmas.List.{length-map}
use Rattle.tagged_index.specs.declared.word.TheConstants.{NULL}
use Rattle.bounded_model.specs.Gathers.{gather, sent_of, took_of, values_of, Counts}
use Rattle.bounded_model.proofs.Balance.{values_of-sent, first_in_first_out}
use Rattle.bounded_model.proofs.Hands.{within_capacity}
use Rattle.bounded_model.proofs.Numbers.{sends_count, takes_count}
use Rattle.machine.specs.Words.{times}
use Rattle.machine.specs.Chains.{values_in}
use Rattle.machine.specs.Schedule.{Schedule, after}
use Rattle.machine.proofs.Tests.{not_below}
use Rattle.machine.proofs.Chains.{chain_from-is, values_in-is, values_length}
use Rattle.queue_machine.specs.declared.lines.Call.{Call}
use Rattle.queue_machine.specs.Machine.{State, next_of, queue}
use Rattle.queue_machine.specs.Answers.{shape, state}
use Rattle.step_core.specs.queue.Law.{Lawful, values_left}
use Rattle.step_core.proofs.queue.Run.{queue_lawful}

module _ {T : Type 0} (n limit : ℕ) where
  -- the cells along the chain have the values that the history says
  left_are : (s : State T) → n < NULL → Lawful T n limit s → values_left n s.memory ≡ (state n limit s.history).values
  left_are s small law =
      let m = s.memory in
      let behind = law.lists.behind in
      let many : length (map m.cell behind) ≡ length (state n limit s.history).values = values_length m.home (map m.cell behind) (state n limit s.history).values law.represents.values in
      let few : length behind ≤ n = omega (arith, many, length-map behind m.cell, within_capacity (shape n limit) s.history law.legal) in
      let never : times NULL behind ≡ 0 = omega (arith, law.once.nodes NULL, not_below NULL (n + 1) (omega arith)) in
      let chain = chain_from-is (next_of m) n (next_of m m.head.index) behind few never law.represents.chain.1 in
      ap (λ (is : List ℕ). values_in m.home (map m.cell is)) chain ∙ values_in-is m.home (map m.cell behind) (state n limit s.history).values law.represents.values

  pub in_order : (passes : ℕ) (schedule : Schedule (Call T)) → 0 < n → n < NULL → 0 < limit →
      (let s = after (queue (shape n limit)) passes schedule in values_of (gather sent_of s.history) ≡ values_of (gather took_of s.history) ++ values_left n s.memory)
  in_order passes schedule h small some_tags =
      let s = after (queue (shape n limit)) passes schedule in
      let law = queue_lawful n limit passes schedule h small some_tags in
      values_of-sent s.history ∙ first_in_first_out (shape n limit) s.history refl law.legal ∙ ap (λ (vs : List T). values_of (gather took_of s.history) ++ vs) (sym (left_are s small law))

  pub puts_count : (passes : ℕ) (schedule : Schedule (Call T)) → 0 < n → n < NULL → 0 < limit → Counts (λ m. m.number) 0 (gather sent_of (after (queue (shape n limit)) passes schedule).history)
  puts_count passes schedule h small some_tags = (sends_count (shape n limit) (after (queue (shape n limit)) passes schedule).history refl (queue_lawful n limit passes schedule h small some_tags).legal).1

  pub takes_counted : (passes : ℕ) (schedule : Schedule (Call T)) → 0 < n → n < NULL → 0 < limit → Counts (λ m. m.number) 0 (gather took_of (after (queue (shape n limit)) passes schedule).history)
  takes_counted passes schedule h small some_tags = (takes_count (shape n limit) (after (queue (shape n limit)) passes schedule).history refl (queue_lawful n limit passes schedule h small some_tags).legal).1

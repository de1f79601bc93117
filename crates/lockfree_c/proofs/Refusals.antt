-- A ring's call that is continued for some steps is still under way, or was one run; if it is a refused put, it tells what a ring's refusal tells.
use Rattle.std.specs.Prelude.{ℕ}
use Rattle.bounded_model.specs.declared.answers.Stepped.{Stepped}
use Rattle.bounded_model.specs.declared.answers.Stepped.TheVariants.{Again, Done}
use Rattle.bounded_model.specs.declared.commands.Reply.{Reply}
use Rattle.bounded_model.specs.declared.commands.Reply.TheVariants.{Put}
use Rattle.bounded_model.specs.declared.views.PassView.{PassView}
use Rattle.bounded_model.specs.Calls.{CallGives}
use Rattle.running.specs.Going.{Ended}
use Rattle.running.specs.Kept.{OpRunsFor, answer_of}
use Rattle.running.specs.Passes.{begun_of}
use Rattle.running.specs.Ties.{no_rule}
use Rattle.ring_table.specs.declared.operation.Operation.{Operation}
use Rattle.ring_queue.specs.code.Machine.{is_call}
use Rattle.ring_queue.specs.code.Every.{every_account}
use Rattle.ring_queue.specs.code.KeepsEvery.{every_promises}
use Rattle.ring_queue.specs.Calls.{Pass, keeps, machine_of, shape_of, AnyOp}
use Rattle.ring_queue.proofs.Refusals.{full_tells, spent_tells}
use Rattle.lockfree_c.specs.Calls.{Tried}
use Rattle.lockfree_c.specs.Rings.{RefusalTells, Ring, ring_reading}
use Rattle.lockfree_c.proofs.Runs.{tried_for}

module _ (c : Ring) where
  -- from the answer that its machine ended with
  refusal_tells : (o : Operation ℕ) (begun : PassView ℕ) (back : Pass ℕ) (said : Reply ℕ) → Ended (machine_of c) o back.pass.seat.me.0 begun ((every_account c.table.shared.key).answer o (answer_of back said)) → RefusalTells c begun back said
  refusal_tells o begun back (Put r) e = (full_tells no_rule c o begun back r e, spent_tells no_rule c o begun back r e)
  refusal_tells o begun back said e = tt

  module _ (n : ℕ) (op : AnyOp ℕ) where
    abbrev Ran : Stepped (AnyOp ℕ) (Pass ℕ) (Reply ℕ) → Type 0
    Ran made = OpRunsFor (machine_of c) (every_account c.table.shared.key) keeps c.table.shared.table_id (every_promises c.table.shared.key) n op made

    pub ring_tried : (made : Stepped (AnyOp ℕ) (Pass ℕ) (Reply ℕ)) → Ran made → Tried (ring_reading c) op made
    ring_tried (Again next) e call is = tried_for (machine_of c) (every_account c.table.shared.key) keeps c.table.shared.table_id is_call (λ call begun now r. CallGives (shape_of c) begun call now r) n op (Again next) e call is
    ring_tried (Done back said) e call is =
        let run = tried_for (machine_of c) (every_account c.table.shared.key) keeps c.table.shared.table_id is_call (λ call begun now r. CallGives (shape_of c) begun call now r) n op (Done back said) e call is in
        (run.0, run.1, (run.2, refusal_tells op.operation (begun_of (machine_of c) op.pass) back said e.0.ended))

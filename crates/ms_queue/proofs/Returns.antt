-- What a count gives that was tried on its fast path.
use Rattle.std.proofs.Common.{ℕ, refl}
use Rattle.bounded_model.specs.declared.answers.Stepped.TheVariants.{Done}
use Rattle.running.specs.Kept.{Took}
use Rattle.ms_queue.specs.Prelude.{Again, LenFirst, Stepped}
use Rattle.ms_queue.specs.Calls.{LenOp, Queue, Pass, keeps, machine_of, pass_in, LenTried}
use Rattle.ms_queue.specs.code.Counting.{len_account}
use Rattle.ms_queue.specs.code.KeepsGauge.{len_promises}

module _ {T : Type 0} (c : Queue T) (by : Pass T) where
  pub count_tried : (made : Stepped (LenOp T) (Pass T) ℕ) → Took (machine_of c) (len_account c.table.shared.key) keeps c.table.shared.table_id (len_promises c.table.shared.key) LenFirst (pass_in by) made → LenTried c (pass_in by) made
  count_tried (Again next) t = (t.1, t.2)
  count_tried (Done back count) t = (t.of, t.gives refl, t.ran)

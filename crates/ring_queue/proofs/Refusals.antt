-- What a refused put of a ring tells, from the answer that its machine ended with.
use Rattle.std.specs.Prelude.{ℕ, List, Result, Err}
use Rattle.bounded_model.specs.declared.answers.Stepped.TheVariants.{Done}
use Rattle.running.specs.Kept.{Took, answer_of}
use Rattle.ring_table.proofs.Gives.{put_full, put_spent}
use Rattle.ring_queue.specs.Prelude.{Again, Ended, Event, Full, Operation, PassView, PutRefused, Spent, Stepped}
use Rattle.ring_queue.specs.code.KeepsAnswers.{put_promises}
use Rattle.ring_queue.specs.Calls.{PutOp, FullTells, FullTried, SpentTells, SpentTried, Pass, RingWith, keeps, laps_of, machine_with, pass_in, passes_of, room_of}
use Rattle.ring_queue.specs.code.Putting.{put_account}

module _ {T : Type 0} (rule : List (Event T) → Type 0) {D : Type 0} (c : RingWith T D) (o : Operation T) (begun : PassView T) where
  module _ (back : Pass T) where
    abbrev EndedWith : Result ℕ (PutRefused T) → Type 0
    EndedWith r = Ended (machine_with rule c) o back.pass.seat.me.0 begun ((put_account c.table.shared.key).answer o (answer_of back r))

    pub full_tells : (r : Result ℕ (PutRefused T)) → EndedWith r → FullTells c begun (pass_in back) r
    full_tells (Err (Full x)) e = put_full rule (room_of c) (laps_of c) (passes_of c) back.pass.seat.me.0 begun back.kept.index x e
    full_tells r e = tt

    pub spent_tells : (r : Result ℕ (PutRefused T)) → EndedWith r → SpentTells c begun (pass_in back) r
    spent_tells (Err (Spent x word t)) e = put_spent rule (room_of c) (laps_of c) (passes_of c) back.pass.seat.me.0 begun back.kept.index x word t e
    spent_tells r e = tt

  abbrev Made : Stepped (PutOp T) (Pass T) (Result ℕ (PutRefused T)) → Type 0
  Made made = Took (machine_with rule c) (put_account c.table.shared.key) keeps c.table.shared.table_id (put_promises c.table.shared.key) o begun made

  pub full_tried : (made : Stepped (PutOp T) (Pass T) (Result ℕ (PutRefused T))) → Made made → FullTried c begun made
  full_tried (Again next) t = tt
  full_tried (Done back r) t = full_tells back r t.ended

  pub spent_tried : (made : Stepped (PutOp T) (Pass T) (Result ℕ (PutRefused T))) → Made made → SpentTried c begun made
  spent_tried (Again next) t = tt
  spent_tried (Done back r) t = spent_tells back r t.ended

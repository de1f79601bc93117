-- Some steps of an operation after others, if the operation went on.
use Rattle.std.proofs.Common.{◌≡◌, ℕ, ◌≤◌, Bool, List, subst}
use Rattle.bounded_model.specs.declared.answers.Stepped.TheVariants.{Done}
use Rattle.running.specs.Passes.{Since, pass_in}
use Rattle.running.proofs.Leading.{ran_on}
use Rattle.ring_queue.specs.Prelude.{Again, Event, MatchStepped, Next, On, Op, Operation, Pass, PassWith, SeatLine, Stepped}
use Rattle.ring_queue.specs.declared.code.looking.LookAt.{LookAt}
use Rattle.ring_queue.specs.code.Machine.{Answered}
use Rattle.ring_queue.specs.Calls.{RingWith, machine_with}
use Rattle.ring_queue.specs.declared.code.putting.PutAt.{PutAt}
use Rattle.ring_queue.specs.declared.code.taking.TakeAt.{TakeAt}
use Rattle.ring_queue.specs.code.Steps.{LookRan, PutRan, PutStands, TakeRan}
use Rattle.ring_queue.specs.code.Looking.{look_account}
use Rattle.ring_queue.specs.code.Putting.{Answer as PutAnswer, put_account}
use Rattle.ring_queue.specs.code.Taking.{Answer as TakeAnswer, take_account}

module _ {T : Type 0} (rule : List (Event T) → Type 0) {D : Type 0} (c : RingWith T D) (o : Operation T) (p q t : Pass T (SeatLine T)) where
  pub put_after : Since (machine_with rule c) p q → (r : Next (PutAt T) (PutAnswer T)) → PutRan rule c o q t r → PutRan rule c o p t r
  put_after since r ran = ran_on (machine_with rule c) (put_account c.table.shared.key) c.table.shared.table_id o p q t since r ran

  -- a put that went on stands at the state at which it went on
  pub put_stands_so : (r : Next (PutAt T) (PutAnswer T)) (at : PutAt T) → r ≡ On at → PutRan rule c o p q r → PutStands rule c o q at
  put_stands_so r at is ran = let on = subst (PutRan rule c o p q) is ran in (on.1, on.0)

  -- after others
  pub put_goes_on : Since (machine_with rule c) p q → (r : Next (PutAt T) (PutAnswer T)) → PutRan rule c o q t r → (at : PutAt T) → r ≡ On at → PutRan rule c o p t (On at)
  put_goes_on since r ran at is = put_after since (On at) (subst (PutRan rule c o q t) is ran)

  -- and one more turn of a walk
  pub put_loops : {S : Type 0} → Since (machine_with rule c) p q → (r : Next (PutAt T) (PutAnswer T)) (at : PutAt T) → r ≡ On at → PutRan rule c o q t r → S → PutStands rule c o t at × Since (machine_with rule c) p t × S
  put_loops since r at is ran so = let on = put_goes_on since r ran at is in ((on.1, on.0), on.2, so)

  pub put_going : (r : Next (PutAt T) (PutAnswer T)) (at : PutAt T) → r ≡ On at → PutRan rule c o p q r → PutRan rule c o p q (On at)
  put_going r at is ran = subst (PutRan rule c o p q) is ran

  pub look_after : Since (machine_with rule c) p q → (r : Next LookAt (Answered Bool)) → LookRan rule c o q t r → LookRan rule c o p t r
  look_after since r ran = ran_on (machine_with rule c) (look_account c.table.shared.key) c.table.shared.table_id o p q t since r ran

  pub take_after : Since (machine_with rule c) p q → (r : Next (TakeAt T) (TakeAnswer T)) → TakeRan rule c o q t r → TakeRan rule c o p t r
  take_after since r ran = ran_on (machine_with rule c) (take_account c.table.shared.key) c.table.shared.table_id o p q t since r ran

-- A call that is left after its first steps has made no others
module _ {T L O S K A : Type 0} (first : Pass T L) (n : ℕ) (most : (pass_in first).steps ≤ n) where
  pub at_most : (made : Stepped (Op T L O S) (PassWith T L K) A) → MatchStepped made (λ op. pass_in op.pass ≡ pass_in first) (λ back answer. pass_in back.pass ≡ pass_in first)
      → MatchStepped made (λ op. (pass_in op.pass).steps ≤ n) (λ back answer. (pass_in back.pass).steps ≤ n)
  at_most (Again op) same = rw same most
  at_most (Done back answer) same = rw same most

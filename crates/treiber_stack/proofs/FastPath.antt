-- Some steps of an operation after others, if the operation went on.
use Rattle.std.proofs.Common.{◌≡◌, ℕ, ◌≤◌, List, subst}
use Rattle.bounded_model.specs.declared.answers.Stepped.TheVariants.{Done}
use Rattle.running.specs.Passes.{Since}
use Rattle.running.specs.Steps.{Stands}
use Rattle.running.specs.Ties.{IsTie, PutDeals}
use Rattle.running.proofs.Leading.{ran_on}
use Rattle.running.proofs.Ways.{started}
use Rattle.stack_table.proofs.Effects.{one_put}
use Rattle.stack_table.proofs.Laws.{lawful}
use Rattle.treiber_stack.specs.Prelude.{Again, Event, Line, MatchStepped, Next, On, Op, Operation, Pass, PassWith, Stepped, pass_in}
use Rattle.treiber_stack.specs.declared.code.putting.PutAt.{PutAt}
use Rattle.treiber_stack.specs.declared.code.putting.PutAt.TheVariants.{LoadFree}
use Rattle.treiber_stack.specs.declared.code.taking.TakeAt.{TakeAt}
use Rattle.treiber_stack.specs.code.Putting.{Answer as PutAnswer, put_account}
use Rattle.treiber_stack.specs.code.Steps.{IsSeatWith, PutRan, PutStands, TakeRan}
use Rattle.treiber_stack.specs.code.Machine.{put_of}
use Rattle.treiber_stack.specs.Calls.{StackWith, limit_of, machine_with, room_of, shape_of}
use Rattle.treiber_stack.specs.code.Taking.{Answer as TakeAnswer, take_account}

-- a put that its client's rule allows stands at its first state
pub put_starts : {T : Type 0} (rule : List (Event T) → Type 0) → IsTie rule → {D : Type 0} (c : StackWith T D) (x : T) (p : Pass T (Line T)) → IsSeatWith rule c p → PutDeals (shape_of c) rule (pass_in p) x
    → Stands (machine_with rule c) (put_account c.table.shared.key) c.table.shared.table_id p (LoadFree x)
put_starts rule tie c x p is deal = record {
  at = started (lawful (room_of c) (limit_of c) rule tie) c.table.shared.table_id (put_of x) p is (λ h e effect. deal h e (one_put (pass_in p).number x e effect));
  knows = tt;
}

module _ {T : Type 0} (rule : List (Event T) → Type 0) {D : Type 0} (c : StackWith T D) (o : Operation T) (p q t : Pass T (Line T)) where
  pub put_after : Since (machine_with rule c) p q → (r : Next (PutAt T) (PutAnswer T)) → PutRan rule c o q t r → PutRan rule c o p t r
  put_after since r ran = ran_on (machine_with rule c) (put_account c.table.shared.key) c.table.shared.table_id o p q t since r ran

  -- a put that went on stands at the state at which it went on
  pub put_stands : (r : Next (PutAt T) (PutAnswer T)) (at : PutAt T) → r ≡ On at → PutRan rule c o p q r → Stands (machine_with rule c) (put_account c.table.shared.key) c.table.shared.table_id q at
  put_stands r at is ran = (subst (PutRan rule c o p q) is ran).0

  pub put_stands_so : (r : Next (PutAt T) (PutAnswer T)) (at : PutAt T) → r ≡ On at → PutRan rule c o p q r → PutStands rule c o q at
  put_stands_so r at is ran = let on = subst (PutRan rule c o p q) is ran in (on.1, on.0)

  pub put_going : (r : Next (PutAt T) (PutAnswer T)) (at : PutAt T) → r ≡ On at → PutRan rule c o p q r → PutRan rule c o p q (On at)
  put_going r at is ran = subst (PutRan rule c o p q) is ran

  -- after others
  pub put_goes_on : Since (machine_with rule c) p q → (r : Next (PutAt T) (PutAnswer T)) → PutRan rule c o q t r → (at : PutAt T) → r ≡ On at → PutRan rule c o p t (On at)
  put_goes_on since r ran at is = put_after since (On at) (subst (PutRan rule c o q t) is ran)

  -- the same of a take
  pub take_after : Since (machine_with rule c) p q → (r : Next (TakeAt T) (TakeAnswer T)) → TakeRan rule c o q t r → TakeRan rule c o p t r
  take_after since r ran = ran_on (machine_with rule c) (take_account c.table.shared.key) c.table.shared.table_id o p q t since r ran

  pub take_goes_on : Since (machine_with rule c) p q → (r : Next (TakeAt T) (TakeAnswer T)) → TakeRan rule c o q t r → (at : TakeAt T) → r ≡ On at → TakeRan rule c o p t (On at)
  take_goes_on since r ran at is = take_after since (On at) (subst (TakeRan rule c o q t) is ran)

-- A call that is left after its first steps has made no others
module _ {T L O S K A : Type 0} (first : Pass T L) (n : ℕ) (most : (pass_in first).steps ≤ n) where
  pub at_most : (made : Stepped (Op T L O S) (PassWith T L K) A) → MatchStepped made (λ op. pass_in op.pass ≡ pass_in first) (λ back answer. pass_in back.pass ≡ pass_in first)
      → MatchStepped made (λ op. (pass_in op.pass).steps ≤ n) (λ back answer. (pass_in back.pass).steps ≤ n)
  at_most (Again op) same = rw same most
  at_most (Done back answer) same = rw same most

-- Where the code of a call goes on, by where that of its own kind does.
use Rattle.std.proofs.Common.{◌≡◌, ℕ, Bool, List, refl, sym, ap, ◌∙◌, subst}
use Rattle.std.specs.Prelude.{Option as Slot}
use Rattle.bounded_model.specs.declared.commands.Reply.TheVariants as reply
use Rattle.treiber_stack.specs.Prelude.{Account, Done, Finding, Leads, Line, Next, NextLost as Lost, On, Operation, Outcome, Reply, ends, finding}
use Rattle.treiber_stack.specs.Prelude.{names}
use Rattle.treiber_stack.specs.code.Closing.{answer_of, mark_account, mark_name, mark_reply, sets}
use Rattle.treiber_stack.specs.code.Every.{every_account, every_answer, every_line, every_slots}
use Rattle.treiber_stack.specs.code.Putting.{Answer as PutAnswer, put_account}
use Rattle.treiber_stack.specs.Calls.{StackWith, machine_of}
use Rattle.treiber_stack.specs.code.Machine.{Answered}
use Rattle.treiber_stack.specs.code.Taking.{Answer as TakeAnswer, take_account}
use Rattle.treiber_stack.specs.declared.code.closing.Mark.{Mark}
use Rattle.treiber_stack.specs.declared.code.closing.Mark.TheVariants.{Closed, Shut}
use Rattle.treiber_stack.specs.declared.code.closing.MarkAt.{MarkAt}
use Rattle.treiber_stack.specs.declared.code.every.StackAt.{StackAt}
use Rattle.treiber_stack.specs.declared.code.every.StackAt.TheVariants.{Put, Take, Mark as Mark'}
use Rattle.treiber_stack.specs.declared.code.putting.PutAt.{PutAt}
use Rattle.treiber_stack.specs.declared.code.taking.TakeAt.{TakeAt}

-- a call's own next state as one of any call
abbrev pub every : {T S R : Type 0} → (S → StackAt T) → (R → Reply T) → Next S (Answered R) → Next (StackAt T) (Answered (Reply T))
every at said (On s) = On (at s)
every at said (Lost s) = Lost (at s)
every at said (Done a) = Done (record { kept = a.kept; reply = said a.reply })

module _ {T : Type 0} {D : Type 0} (c : StackWith T D) where
  abbrev pub Every : StackAt T → Outcome → List (ℕ × Slot T) → List (ℕ × Slot T) → Next (StackAt T) (Answered (Reply T)) → Type 0
  Every s r has after to = Finding (machine_of c).core (every_line s) r (every_slots s) has (λ found came. Leads names (every_account c.table.shared.key) s ((machine_of c).core.next (every_line s) found came) after to)

  abbrev pub Own : {S A : Type 0} → Account T (Line T) (Operation T) S A → S → Outcome → List (ℕ × Slot T) → List (ℕ × Slot T) → Next S A → Type 0
  Own a s r has after to = Finding (machine_of c).core (a.line s) r (a.slots s) has (λ found came. Leads names a s ((machine_of c).core.next (a.line s) found came) after to)

  module _ (r : Outcome) (has after : List (ℕ × Slot T)) where
    put_so : (s : PutAt T) (l : Line T) (to : Next (PutAt T) (PutAnswer T)) → Leads names (put_account c.table.shared.key) s l after to → Leads names (every_account c.table.shared.key) (Put s) l after (every Put reply.Put to)
    put_so s l (On s') x = record { same = x.same; is = x.is; busy = x.busy; hand = x.hand; knows = x.knows }
    put_so s l (Lost s') x = record { same = x.same; is = x.is; busy = x.busy; hand = x.hand; knows = x.knows }
    put_so s l (Done a) x = record { is = x.is; hand = x.hand }

    pub put_every : {q : StackAt T} (s : PutAt T) → q ≡ Put s → (to : Next (PutAt T) (PutAnswer T)) → Own (put_account c.table.shared.key) s r has after to → Every q r has after (every Put reply.Put to)
    put_every s is to own = subst (λ (k : StackAt T). Every k r has after (every Put reply.Put to)) (sym is)
        (finding (machine_of c).core _ r _ has _ _ (λ found came. put_so s _ to) _ own)

    take_so : (s : TakeAt T) (l : Line T) (to : Next (TakeAt T) (TakeAnswer T)) → Leads names (take_account c.table.shared.key) s l after to → Leads names (every_account c.table.shared.key) (Take s) l after (every Take reply.Take to)
    take_so s l (On s') x = record { same = x.same; is = x.is; busy = x.busy; hand = x.hand; knows = x.knows }
    take_so s l (Lost s') x = record { same = x.same; is = x.is; busy = x.busy; hand = x.hand; knows = x.knows }
    take_so s l (Done a) x = record { is = x.is; hand = x.hand }

    pub take_every : {q : StackAt T} (s : TakeAt T) → q ≡ Take s → (to : Next (TakeAt T) (TakeAnswer T)) → Own (take_account c.table.shared.key) s r has after to → Every q r has after (every Take reply.Take to)
    take_every s is to own = subst (λ (k : StackAt T). Every k r has after (every Take reply.Take to)) (sym is)
        (finding (machine_of c).core _ r _ has _ _ (λ found came. take_so s _ to) _ own)

    -- what a close or a shut answers is the reply of the call that sets its mark
    said : (m : Mark) (done : Bool) → answer_of (mark_name {T = T} m) done ≡ every_answer (mark_reply m done)
    said Closed done = refl
    said Shut done = refl

    abbrev marking : (s : MarkAt) → Next MarkAt (Answered Bool) → Next (StackAt T) (Answered (Reply T))
    marking s to = every Mark' (mark_reply (sets s)) to

    mark_so : (s : MarkAt) (l : Line T) (to : Next MarkAt (Answered Bool)) → Leads names (mark_account c.table.shared.key) s l after to → Leads names (every_account c.table.shared.key) (Mark' s) l after (marking s to)
    mark_so s l (On s') x = record { same = x.same; is = x.is; busy = x.busy; hand = x.hand; knows = tt }
    mark_so s l (Lost s') x = record { same = x.same; is = x.is; busy = x.busy; hand = x.hand; knows = tt }
    mark_so s l (Done a) x = record { is = x.is ∙ ap ends (said (sets s) a.reply); hand = x.hand }

    pub mark_every : {q : StackAt T} (s : MarkAt) → q ≡ Mark' s → (to : Next MarkAt (Answered Bool)) → Own (mark_account c.table.shared.key) s r has after to → Every q r has after (marking s to)
    mark_every s is to own = subst (λ (k : StackAt T). Every k r has after (marking s to)) (sym is)
        (finding (machine_of c).core _ r _ has _ _ (λ found came. mark_so s _ to) _ own)

    -- the same of its end, by the mark that it set
    pub mark_said : {q : StackAt T} (s : MarkAt) → q ≡ Mark' s → (a : Answered Bool) (m : Mark) (so : Reply T) → m ≡ sets s → so ≡ mark_reply m a.reply → Own (mark_account c.table.shared.key) s r has after (Done a) → Every q r has after (Done (record { kept = a.kept; reply = so }))
    mark_said {q} s is a m so same gave own = subst (λ (said : Reply T). Every q r has after (Done (record { kept = a.kept; reply = said })))
        (ap (λ (n : Mark). mark_reply n a.reply) (sym same) ∙ sym gave) (mark_every s is (Done a) own)

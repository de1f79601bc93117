-- Where the code of a call goes on, by where that of its own kind does.
use Rattle.std.proofs.Common.{◌≡◌, ℕ, Bool, List, sym, subst}
use Rattle.std.specs.Prelude.{Option as Slot}
use Rattle.bounded_model.specs.declared.commands.Reply.TheVariants as reply
use Rattle.ms_queue.specs.Prelude.{Account, Done, Finding, Leads, Line, Lost, Next, On, Operation, Outcome, Reply, finding, names}
use Rattle.ms_queue.specs.code.Closing.{close_account}
use Rattle.ms_queue.specs.code.Every.{every_account, every_line, every_slots}
use Rattle.ms_queue.specs.code.Putting.{Answer as PutAnswer, put_account}
use Rattle.ms_queue.specs.Calls.{QueueWith, machine_of}
use Rattle.ms_queue.specs.code.Machine.{Answered}
use Rattle.ms_queue.specs.code.Shutting.{shut_account}
use Rattle.ms_queue.specs.code.Taking.{Answer as TakeAnswer, take_account}
use Rattle.ms_queue.specs.declared.code.closing.CloseAt.{CloseAt}
use Rattle.ms_queue.specs.declared.code.every.QueueAt.{QueueAt}
use Rattle.ms_queue.specs.declared.code.every.QueueAt.TheVariants.{Put, Take, Close, Shut}
use Rattle.ms_queue.specs.declared.code.putting.PutAt.{PutAt}
use Rattle.ms_queue.specs.declared.code.shutting.ShutAt.{ShutAt}
use Rattle.ms_queue.specs.declared.code.taking.TakeAt.{TakeAt}

-- a call's own next state as one of any call
abbrev pub every : {T S R : Type 0} → (S → QueueAt T) → (R → Reply T) → Next S (Answered R) → Next (QueueAt T) (Answered (Reply T))
every at said (On s) = On (at s)
every at said (Lost s) = Lost (at s)
every at said (Done a) = Done (record { kept = a.kept; reply = said a.reply })

module _ {T : Type 0} {D : Type 0} (c : QueueWith T D) where
  abbrev pub Every : QueueAt T → Outcome → List (ℕ × Slot T) → List (ℕ × Slot T) → Next (QueueAt T) (Answered (Reply T)) → Type 0
  Every s r has after to = Finding (machine_of c).core (every_line s) r (every_slots s) has (λ found came. Leads names (every_account c.table.shared.key) s ((machine_of c).core.next (every_line s) found came) after to)

  abbrev pub Own : {S A : Type 0} → Account T (Line T) (Operation T) S A → S → Outcome → List (ℕ × Slot T) → List (ℕ × Slot T) → Next S A → Type 0
  Own a s r has after to = Finding (machine_of c).core (a.line s) r (a.slots s) has (λ found came. Leads names a s ((machine_of c).core.next (a.line s) found came) after to)

  module _ (r : Outcome) (has after : List (ℕ × Slot T)) where
    put_so : (s : PutAt T) (l : Line T) (to : Next (PutAt T) (PutAnswer T)) → Leads names (put_account c.table.shared.key) s l after to → Leads names (every_account c.table.shared.key) (Put s) l after (every Put reply.Put to)
    put_so s l (On s') x = record { same = x.same; is = x.is; busy = x.busy; hand = x.hand; knows = x.knows }
    put_so s l (Lost s') x = record { same = x.same; is = x.is; busy = x.busy; hand = x.hand; knows = x.knows }
    put_so s l (Done a) x = record { is = x.is; hand = x.hand }

    pub put_every : {q : QueueAt T} (s : PutAt T) → q ≡ Put s → (to : Next (PutAt T) (PutAnswer T)) → Own (put_account c.table.shared.key) s r has after to → Every q r has after (every Put reply.Put to)
    put_every s is to own = subst (λ (k : QueueAt T). Every k r has after (every Put reply.Put to)) (sym is)
        (finding (machine_of c).core _ r _ has _ _ (λ found came. put_so s _ to) _ own)

    take_so : (s : TakeAt T) (l : Line T) (to : Next (TakeAt T) (TakeAnswer T)) → Leads names (take_account c.table.shared.key) s l after to → Leads names (every_account c.table.shared.key) (Take s) l after (every Take reply.Take to)
    take_so s l (On s') x = record { same = x.same; is = x.is; busy = x.busy; hand = x.hand; knows = x.knows }
    take_so s l (Lost s') x = record { same = x.same; is = x.is; busy = x.busy; hand = x.hand; knows = x.knows }
    take_so s l (Done a) x = record { is = x.is; hand = x.hand }

    pub take_every : {q : QueueAt T} (s : TakeAt T) → q ≡ Take s → (to : Next (TakeAt T) (TakeAnswer T)) → Own (take_account c.table.shared.key) s r has after to → Every q r has after (every Take reply.Take to)
    take_every s is to own = subst (λ (k : QueueAt T). Every k r has after (every Take reply.Take to)) (sym is)
        (finding (machine_of c).core _ r _ has _ _ (λ found came. take_so s _ to) _ own)

    close_so : (s : CloseAt) (l : Line T) (to : Next CloseAt (Answered Bool)) → Leads names (close_account c.table.shared.key) s l after to → Leads names (every_account c.table.shared.key) (Close s) l after (every Close reply.Close to)
    close_so s l (On s') x = record { same = x.same; is = x.is; busy = x.busy; hand = x.hand; knows = x.knows }
    close_so s l (Lost s') x = record { same = x.same; is = x.is; busy = x.busy; hand = x.hand; knows = x.knows }
    close_so s l (Done a) x = record { is = x.is; hand = x.hand }

    pub close_every : {q : QueueAt T} (s : CloseAt) → q ≡ Close s → (to : Next CloseAt (Answered Bool)) → Own (close_account c.table.shared.key) s r has after to → Every q r has after (every Close reply.Close to)
    close_every s is to own = subst (λ (k : QueueAt T). Every k r has after (every Close reply.Close to)) (sym is)
        (finding (machine_of c).core _ r _ has _ _ (λ found came. close_so s _ to) _ own)

    shut_so : (s : ShutAt) (l : Line T) (to : Next ShutAt (Answered Bool)) → Leads names (shut_account c.table.shared.key) s l after to → Leads names (every_account c.table.shared.key) (Shut s) l after (every Shut reply.Shut to)
    shut_so s l (On s') x = record { same = x.same; is = x.is; busy = x.busy; hand = x.hand; knows = x.knows }
    shut_so s l (Lost s') x = record { same = x.same; is = x.is; busy = x.busy; hand = x.hand; knows = x.knows }
    shut_so s l (Done a) x = record { is = x.is; hand = x.hand }

    pub shut_every : {q : QueueAt T} (s : ShutAt) → q ≡ Shut s → (to : Next ShutAt (Answered Bool)) → Own (shut_account c.table.shared.key) s r has after to → Every q r has after (every Shut reply.Shut to)
    shut_every s is to own = subst (λ (k : QueueAt T). Every k r has after (every Shut reply.Shut to)) (sym is)
        (finding (machine_of c).core _ r _ has _ _ (λ found came. shut_so s _ to) _ own)

-- What a put gives, and where its steps lead.
use Rattle.std.proofs.Common.{ℕ, ◌<◌, List, refl}
use Rattle.std.specs.Prelude.{Option as Slot, Err}
use Rattle.treiber_stack.specs.Prelude.{Finding, Leads, Next, Outcome, PutRefused, names, next}
use Rattle.treiber_stack.specs.code.Putting.{Answer, put_account, put_line, put_slots, refusing}
use Rattle.treiber_stack.specs.Calls.{StackWith, room_of, limit_of, machine_of}
use Rattle.treiber_stack.specs.declared.code.giving.Give.{Give}
use Rattle.treiber_stack.specs.declared.code.putting.PutAt.{PutAt}
use Rattle.treiber_stack.specs.declared.code.putting.PutAt.TheVariants.{GiveBack}
use Rattle.treiber_stack.specs.code.Steps.{GaveTo}
use Rattle.treiber_stack.proofs.Gives.{within, gave_within}

module _ {T : Type 0} {D : Type 0} (c : StackWith T D) where
  -- where the code of a put goes on
  abbrev pub LeadingPut : PutAt T → Outcome → List (ℕ × Slot T) → Next (PutAt T) (Answer T) → Type 0
  LeadingPut s r has to = Finding (machine_of c).core (put_line s) r (put_slots s) has
      (λ found came. Leads names (put_account c.table.shared.key) s (next (room_of c) (limit_of c) (put_line s) found came) has to)

  -- by the give inside it
  pub gave_put : (why : PutRefused T) (i : ℕ) (at : Give) (r : Outcome) (has : List (ℕ × Slot T)) → i < room_of c → (to : Next Give (Unit {0})) → GaveTo c (refusing why i) at r has to → LeadingPut (GiveBack why i at) r has (within (GiveBack why i) (record { kept = tt; reply = Err why }) to)
  gave_put why i at r has low = gave_within c (put_account c.table.shared.key) (refusing why i) (GiveBack why i) (record { kept = tt; reply = Err why }) (GiveBack why i at)
      (λ at'. refl) (λ at'. refl) (λ at'. refl) (λ at'. low) refl at r has

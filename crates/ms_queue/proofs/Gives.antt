-- Where a step of giving back leads.
use Rattle.std.proofs.Common.{◌≡◌, ℕ, false, refl, List}
use Rattle.std.specs.Prelude.{Option as Slot}
use Rattle.ms_queue.specs.Prelude.{Answer, Finding, Line, Next, Outcome, finding, is_idle, next}
use Rattle.ms_queue.specs.declared.code.giving.Held.{Held}
use Rattle.ms_queue.specs.declared.code.giving.Give.{Give}
use Rattle.ms_queue.specs.declared.code.giving.Give.TheVariants.{LoadNodes}
use Rattle.ms_queue.specs.Calls.{QueueWith, limit_of, machine_of}
use Rattle.ms_queue.specs.code.Giving.{give_line, held_slot, Gives}
use Rattle.ms_queue.specs.code.Steps.{GaveTo}

pub busy_giving : {T : Type 0} (a : Answer T) (held : Held) (at : Give) → is_idle (give_line a held at) ≡ false
busy_giving a held LoadNodes = refl
busy_giving a held at = refl

-- what a step of giving back leads to in an operation, if it does so of whatever was found
module _ {T : Type 0} {D : Type 0} (c : QueueWith T D) (a : Answer T) (held : Held) (at : Give) (r : Outcome) (has : List (ℕ × Slot T)) (to : Next Give (Unit {0})) (gave : GaveTo c a held at r has to) where
  pub gave_within : (So : Line T → Type 0) → ((l : Line T) → Gives l a held has to → So l) → Finding (machine_of c).core (give_line a held at) r (held_slot held) has (λ found brought. So (next (limit_of c) (give_line a held at) found brought))
  gave_within So follows = finding (machine_of c).core (give_line a held at) r (held_slot held) has (λ found brought. Gives (next (limit_of c) (give_line a held at) found brought) a held has to) (λ found brought. So (next (limit_of c) (give_line a held at) found brought))
      (λ found brought. follows (next (limit_of c) (give_line a held at) found brought)) ((machine_of c).core.access (give_line a held at)) gave

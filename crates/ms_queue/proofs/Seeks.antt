-- Where a step on the way to the end of the chain leads.
use Rattle.std.specs.Prelude.{Option as Slot}
use Rattle.std.proofs.Common.{◌≡◌, ℕ, false, List, refl}
use Rattle.ms_queue.specs.Prelude.{Came, Finding, Line, Next, Outcome, Seeking, finding, is_idle, next}
use Rattle.ms_queue.specs.declared.code.seeking.Seek.{Seek}
use Rattle.ms_queue.specs.declared.code.seeking.Seek.TheVariants.{LoadTail as SeekTail}
use Rattle.ms_queue.specs.declared.code.seeking.End.{End}
use Rattle.ms_queue.specs.Calls.{QueueWith, limit_of, machine_of}
use Rattle.ms_queue.specs.code.Seeking.{seek_line}
use Rattle.ms_queue.specs.code.Steps.{Seeks, SoughtTo}

pub busy : {T : Type 0} (s : Seeking T) (at : Seek) → is_idle (seek_line s at) ≡ false
busy s SeekTail = refl
busy s at = refl

-- what a step on this way leads to in an operation, if it does so of whatever was found
module _ {T : Type 0} {D : Type 0} (c : QueueWith T D) (s : Seeking T) (at : Seek) (r : Outcome) (had has : List (ℕ × Slot T)) (to : Next Seek End) (sought : SoughtTo c s at r had has to) (came : Came (machine_of c).core (seek_line s at) r had has) where
  pub sought_within : (So : Line T → Type 0) → ((l : Line T) → Seeks c l s had has to → So l) → Finding (machine_of c).core (seek_line s at) r had has (λ found brought. So (next (limit_of c) (seek_line s at) found brought))
  sought_within So follows = finding (machine_of c).core (seek_line s at) r had has (λ found brought. Seeks c (next (limit_of c) (seek_line s at) found brought) s had has to) (λ found brought. So (next (limit_of c) (seek_line s at) found brought))
      (λ found brought. follows (next (limit_of c) (seek_line s at) found brought)) ((machine_of c).core.access (seek_line s at)) (sought came)

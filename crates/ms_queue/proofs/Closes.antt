-- Where a close goes on.
use Rattle.std.specs.Prelude.{Option as Slot}
use Rattle.std.proofs.Common.{◌≡◌, ℕ, Bool, false, List, [], refl, sym, subst}
use Rattle.ms_queue.specs.Prelude.{Came, Done, Finding, Leads, Line, Lost, Next, On, Outcome, Seeking as Aim, ToClose, names, next}
use Rattle.ms_queue.specs.declared.code.closing.CloseAt.{CloseAt}
use Rattle.ms_queue.specs.declared.code.closing.CloseAt.TheVariants.{Seeking, Mark}
use Rattle.ms_queue.specs.declared.code.seeking.Seek.{Seek}
use Rattle.ms_queue.specs.declared.code.seeking.End.{End}
use Rattle.ms_queue.specs.declared.code.seeking.End.TheVariants.{Closed as EndClosed, Open}
use Rattle.ms_queue.specs.code.Closing.{close_account, close_line}
use Rattle.ms_queue.specs.Calls.{QueueWith, limit_of, machine_of}
use Rattle.ms_queue.specs.code.Machine.{Answered}
use Rattle.ms_queue.specs.code.Steps.{Seeks, SoughtTo}
use Rattle.ms_queue.proofs.Seeks.{busy, sought_within}

-- where the code of a close goes on, by the way to the end of the chain
abbrev pub marking : Next Seek End → Next CloseAt (Answered Bool)
marking (On at) = On (Seeking at)
marking (Lost at) = Lost (Seeking at)
marking (Done (EndClosed w)) = Done (record { kept = tt; reply = false })
marking (Done (Open w x)) = On (Mark w x)

module _ {T : Type 0} {D : Type 0} (c : QueueWith T D) where
  abbrev pub ClosesTo : CloseAt → List (ℕ × Slot T) → Next CloseAt (Answered Bool) → Line T → Type 0
  ClosesTo s has to l = Leads names (close_account c.table.shared.key) s l has to

  abbrev pub Closing : CloseAt → Outcome → List (ℕ × Slot T) → Next CloseAt (Answered Bool) → Type 0
  Closing s r has to = Finding (machine_of c).core (close_line s) r [] has (λ found came. ClosesTo s has to (next (limit_of c) (close_line s) found came))

  follows : (s : CloseAt) (has : List (ℕ × Slot T)) (to : Next Seek End) (l : Line T) → Seeks c l ToClose [] has to → ClosesTo s has (marking to) l
  follows s has (On at) l e = record { same = refl; is = e.0; busy = busy {T = T} ToClose at; hand = e.1; knows = e.2 }
  follows s has (Lost at) l e = record { same = refl; is = e.0; busy = busy {T = T} ToClose at; hand = e.1; knows = e.2 }
  follows s has (Done (EndClosed w)) l e = record { is = e.0; hand = e.1 }
  follows s has (Done (Open w x)) l e = record { same = refl; is = e.0; busy = refl; hand = e.1; knows = e.2 }

  pub sought_close : {s : CloseAt} {at : Seek} → s ≡ Seeking at → (r : Outcome) (has : List (ℕ × Slot T)) → Came (machine_of c).core (close_line s) r [] has → (to : Next Seek End) → ((aim : Aim T) (had has : List (ℕ × Slot T)) → SoughtTo c aim at r had has to) → Closing s r has (marking to)
  sought_close {s} {at} is r has came to sought = subst (λ (k : CloseAt). Closing k r has (marking to)) (sym is)
      (sought_within c ToClose at r [] has to (sought ToClose [] has) (subst (λ (k : CloseAt). Came (machine_of c).core (close_line k) r [] has) is came) (ClosesTo (Seeking at) has (marking to)) (follows (Seeking at) has to))

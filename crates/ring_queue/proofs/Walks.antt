-- Where a step of a walk leads an operation.
use Rattle.std.proofs.Common.{◌≡◌, ℕ, false, List, refl, sym, subst}
use Rattle.std.specs.Prelude.{Option as Slot}
use Rattle.running.specs.Code.{CameBy, FindingBy, GoesTo}
use Rattle.running.specs.Machine.{Core, Access as Deed, rests, loads, fetches, stows, stores, swaps}
use Rattle.ring_queue.specs.Prelude.{Account, At, Came, Done, Finding, Leads, Next, On, Operation, Outcome, SeatLine, finding, is_idle, names}
use Rattle.ring_queue.specs.Calls.{RingWith, machine_of}
use Rattle.ring_queue.specs.declared.code.walking.Found.{Found}
use Rattle.ring_queue.specs.declared.code.walking.WalkAt.{WalkAt}
use Rattle.ring_queue.specs.declared.code.walking.WalkAt.TheVariants.{LoadHint, LoadSlot, MoveHint}
use Rattle.ring_queue.specs.code.Walking.{Aim, to_back, to_front, walk_line, spare_at}
use Rattle.ring_queue.specs.code.Steps.{Walks, WalkedTo}

pub busy : {T : Type 0} (aim : Aim T) (at : WalkAt) → is_idle (walk_line aim at) ≡ false
busy (to_back s) (LoadHint c) = refl
busy (to_back s) (LoadSlot w) = refl
busy (to_back s) (MoveHint w) = refl
busy (to_front s) (LoadHint c) = refl
busy (to_front s) (LoadSlot w) = refl
busy (to_front s) (MoveHint w) = refl

-- what is shown of whatever was found, and does not speak of it
module _ {T L O : Type 0} (c : Core T L O) (l : L) (r : Outcome) (had has : List (ℕ × Slot T)) (P : Type 0) where
  anyway : (a : Deed) → CameBy c a l r had has → FindingBy c a l r had has (λ found came. P) → P
  anyway rests came shown = shown came.0
  anyway (loads at) came shown = shown came.0
  anyway (fetches at) came shown = shown came.0 came.1 came.2
  anyway (stows at) came shown = shown r.word had (refl, came.0, refl)
  anyway (stores at x) came shown = shown came.0
  anyway (swaps at old new side) came shown = shown came.0 came.1 came.2

module _ {T S A : Type 0} {D : Type 0} (c : RingWith T D) (a : Account T (SeatLine T) (Operation T) S A) (s : S) where
  abbrev core : Core T (SeatLine T) (Operation T)
  core = (machine_of c).core

  -- what an operation at s came to leads to this
  abbrev pub LeadsTo : Outcome → List (ℕ × Slot T) → List (ℕ × Slot T) → Next S A → Type 0
  LeadsTo r has has' next = Finding core (a.line s) r (a.slots s) has (λ found came. Leads names a s (core.next (a.line s) found came) has' next)

  -- it is on a walk, at this step of it
  module _ (aim : Aim T) (at : WalkAt) (line : a.line s ≡ At (walk_line aim at)) (r : Outcome) (has has' : List (ℕ × Slot T)) (came : Came core (a.line s) r (a.slots s) has) where
    abbrev So : SeatLine T → Next S A → Type 0
    So l next = Finding core l r (a.slots s) has (λ found came. Leads names a s (core.next l found came) has' next)

    walk_leads : (to : Next WalkAt Found) → WalkedTo c aim at r (a.slots s) has to → (next : Next S A) → ((l : SeatLine T) → Walks c l aim (spare_at at) (a.slots s) has to → Leads names a s l has' next) → LeadsTo r has has' next
    walk_leads to walked next follows = subst (λ (l : SeatLine T). Came core l r (a.slots s) has → So l next) (sym line)
        (λ came. finding core (At (walk_line aim at)) r (a.slots s) has (λ found brought. Walks c (core.next (At (walk_line aim at)) found brought) aim (spare_at at) (a.slots s) has to) (λ found brought. Leads names a s (core.next (At (walk_line aim at)) found brought) has' next)
        (λ found brought. follows (core.next (At (walk_line aim at)) found brought)) (core.access (At (walk_line aim at))) (walked came))
        came

    -- it goes on, if it does so of whatever line the walk leads to
    pub walk_goes : (to : WalkAt) → WalkedTo c aim at r (a.slots s) has (On to) → (s' : S) → ((l : SeatLine T) → Walks c l aim (spare_at at) (a.slots s) has (On to) → GoesTo names a s l has' s') → LeadsTo r has has' (On s')
    walk_goes to walked s' follows = walk_leads (On to) walked (On s') follows

    -- the walk has ended, with the slots that were in hand, and with the same spare cell
    pub ends_with : (end : Found) → WalkedTo c aim at r (a.slots s) has (Done end) → (has ≡ a.slots s) × (end.walk.spare ≡ spare_at at)
    ends_with end walked =
        let l : SeatLine T = At (walk_line aim at) in
        let came' : Came core l r (a.slots s) has = subst (λ (l : SeatLine T). Came core l r (a.slots s) has) line came in
        anyway core l r (a.slots s) has ((has ≡ a.slots s) × (end.walk.spare ≡ spare_at at)) (core.access l) came'
        (finding core l r (a.slots s) has (λ found brought. Walks c (core.next l found brought) aim (spare_at at) (a.slots s) has (Done end)) (λ found brought. (has ≡ a.slots s) × (end.walk.spare ≡ spare_at at)) (λ found brought e. (e.1, e.3)) (core.access l) (walked came'))

    pub walk_ends : (end : Found) → WalkedTo c aim at r (a.slots s) has (Done end) → (next : Next S A) → ((l : SeatLine T) → Walks c l aim (spare_at at) (a.slots s) has (Done end) → Leads names a s l has' next) → LeadsTo r has has' next
    walk_ends end walked next follows = walk_leads (Done end) walked next follows

-- The ring's machine in every schedule.
use Rattle.std.proofs.Common.{◌≡◌, ℕ, zero, suc, ◌+◌, ◌-◌, ◌*◌, ◌<◌, Bool, true, false, List, [], ◌∷◌, length, refl, sym, ap, ◌∙◌, subst, None, Some, arith}
use Rattle.std.proofs.lemmas.Bool.{false≢true}
use mathlib.Core.Option.{Option, none, some, some-ne-none}
use lib.ListN.{get_elem?}
use Rattle.bounded_model.specs.declared.history.Event.{Event}
use Rattle.machine.specs.Schedule.{Act, run, start}
use Rattle.machine.proofs.Scheduled.{run_kept}
use Rattle.machine.proofs.Stories.{Told, Stays, stays_holds, start_stays}
use Rattle.ring_machine.specs.declared.lines.Answer.{Answer}
use Rattle.ring_machine.specs.declared.lines.Call.{Call}
use Rattle.ring_machine.specs.declared.lines.Call.TheVariants.{Put as CallPut, Take as CallTake, Close as CallClose, Shut as CallShut, Look as CallLook, Len as CallLen, Gauge as CallGauge}
use Rattle.ring_machine.specs.declared.lines.Line.{Line}
use Rattle.ring_machine.specs.declared.lines.Line.TheVariants.{Idle}
use Rattle.ring_machine.specs.Machine.{Memory, Pass, State, cell_of, is_home, is_idle, starts, first_of, resting, full_at, ring}
use Rattle.ring_machine.specs.Answers.{shape, state}
use Rattle.ring_machine.specs.Rule.{IsFine, Tells, progress, Good}
use Rattle.ring_machine.specs.Deeds.{Deeds}
use Rattle.ring_machine.proofs.Start.{new_good}
use Rattle.ring_machine.proofs.StepKinds.{good_goes}
use Rattle.ring_machine.proofs.Step.{step_kept}
use Rattle.ring_machine.proofs.Tells.{tells_kept, step_apart}
use Rattle.ring_machine.proofs.Doing.{meanwhile, begins, step_does}
use Rattle.ring_machine.proofs.Places.{nothing_twice}
use Rattle.step_core.specs.ring.Bound.{MeetsRule}
use Rattle.step_core.specs.ring.Law.{Lawful, HasAnswered, AllDone, NoneUnanswered}

-- a place in a list is below its length
there_below : {A : Type 0} (xs : List A) (k : ℕ) (v : A) → get_elem? xs k ≡ some v → k < length xs
there_below [] k v e = absurd (some-ne-none v (sym e))
there_below (x ∷ xs) zero v e = omega arith
there_below (x ∷ xs) (suc k) v e = let r = there_below xs k v e in omega (arith, r)

module _ {T : Type 0} (n laps cells : ℕ) where
  -- between any two acts the words, cells and lines are right for the history
  abbrev pub Rule : Memory T → List (Line T) → List (Event T) → Type 0
  Rule m lines h = Good T n laps cells m lines h

  -- what a pass has done since it began its call; one that has begun none is idle and has not answered
  abbrev pub IsDoing : ℕ → Option (Call T) → Line T → List (Event T) → List (Event T) → Type 0
  IsDoing p none l begun seen = l ≡ resting (cell_of l)
  IsDoing p (some call) l begun seen = Deeds n p call l begun seen

  -- each pass's answer is right, and it has done what its line says
  abbrev pub Story : ℕ → Option (Call T) → Line T → List (Event T) → List (Event T) → Type 0
  Story p call l begun seen = Tells n laps begun seen l × IsDoing p call l begun seen

  first_fine : (m : Memory T) (h : List (Event T)) (c : ℕ) (call : Call T) → IsFine n laps (progress T n laps m h) (first_of c call)
  first_fine m h c (CallPut v) = tt
  first_fine m h c CallTake = tt
  first_fine m h c CallClose = tt
  first_fine m h c CallShut = tt
  first_fine m h c CallLook = tt
  first_fine m h c CallLen = tt
  first_fine m h c CallGauge = tt

  first_cell : (c : ℕ) (call : Call T) → cell_of (first_of c call) ≡ c
  first_cell c (CallPut v) = refl
  first_cell c CallTake = refl
  first_cell c CallClose = refl
  first_cell c CallShut = refl
  first_cell c CallLook = refl
  first_cell c CallLen = refl
  first_cell c CallGauge = refl

  pub starts_busy : (call : Call T) (l : Line T) → is_idle (starts call l) ≡ false
  starts_busy (CallPut v) l = refl
  starts_busy CallTake l = refl
  starts_busy CallClose l = refl
  starts_busy CallShut l = refl
  starts_busy CallLook l = refl
  starts_busy CallLen l = refl
  starts_busy CallGauge l = refl

  -- a pass between two calls has nothing in hand
  idle_home : (l : Line T) → is_idle l ≡ true → is_home l ≡ true
  idle_home (Idle c a) idle = refl
  idle_home l idle = absurd (false≢true idle)

  -- a call that has just been begun tells nothing
  first_tells : (c : ℕ) (call : Call T) (seen : List (Event T)) → Tells n laps seen seen (first_of c call)
  first_tells c (CallPut v) seen = tt
  first_tells c CallTake seen = tt
  first_tells c CallClose seen = tt
  first_tells c CallShut seen = tt
  first_tells c CallLook seen = tt
  first_tells c CallLen seen = tt
  first_tells c CallGauge seen = tt

  pub ring_told : Told (ring (shape n laps)) Rule Story
  ring_told = record {
    begins = λ m lines h p l call x e idle. good_goes p l (starts call l) x e (first_cell (cell_of l) call) (λ h. idle_home l idle) (first_fine m h (cell_of l) call);
    begins_story = λ p l call seen idle. (first_tells (cell_of l) call seen, begins n p seen (cell_of l) call);
    steps = λ m lines h p l x e busy. step_kept n laps cells m lines h p p x l e;
    steps_story = λ m lines h p call l b seen x e busy before ahead story. (
      tells_kept x p p b seen before (record { more = ahead.rest; is = ahead.is }) l e story.0,
      still_doing p call l busy story.1 (λ c d. step_does x p p c b l e (meanwhile n p c b seen h l ahead d)),
    );
    apart = λ m h p q l ne. step_apart n laps m p q ne h l;
  }
    where
      still_doing : (p : ℕ) {l' : Line T} {b seen newer : List (Event T)} (call : Option (Call T)) (l : Line T) → is_idle l ≡ false → IsDoing p call l b seen
          → ((c : Call T) → Deeds n p c l b seen → Deeds n p c l' b newer) → IsDoing p call l' b newer
      still_doing p none l busy is goes = absurd (false≢true (sym busy ∙ ap is_idle is))
      still_doing p (some c) l busy d goes = goes c d

  -- what holds of the state between any two acts
  abbrev Kept_at : State T → Type 0
  Kept_at s = Stays (ring (shape n laps)) Rule Story s

  lawful : (s : State T) → Kept_at s → Lawful T n laps cells s
  lawful s x =
      let g = x.rule in
      record {
        legal = g.told.legal;
        represents = record {
          turned = g.turned;
          values = λ i lap v low from at.
              let less = there_below (state n laps s.history).values (lap * n + i - (state n laps s.history).takes) v at in
              let full : (s.memory.slot i).tag ≡ full_at lap = omega (arith, g.turned.put i lap low (omega (arith, less, from, g.told.balance)), g.turned.untaken i lap low from) in
              (full, g.filled.stored i lap v low full at);
          empty = g.filled.empty;
          marked = g.marked;
          tail = g.tail;
          head = g.head;
        };
        once = nothing_twice g;
        hands = g.told.hands;
        knows = x.knows;
        answered = λ p v c a e idle. subst (Tells n laps v.begun v.seen) idle (x.story p v e).0;
      }

  -- an idle pass that has answered has begun a call
  answered : (p : ℕ) (v : Pass T) (c : ℕ) (a : Answer T) (o : Option (Call T)) → v.call ≡ o → IsDoing p o (Idle c (Some a)) v.begun v.seen → HasAnswered p v a
  answered p v c a none is d = absurd (has_answer d)
    where
      some_answer : Line T → Bool
      some_answer (Idle c (Some a)) = true
      some_answer l = false

      has_answer : Idle c (Some a) ≡ resting c → ⊥
      has_answer d = false≢true (sym (ap some_answer d))
  answered p v c a (some call) is d = record { call = call; of = is; done = record { between = d.between; is = d.is; made = d.made } }

  -- a begun call is never at a line without an answer
  unanswered : (p : ℕ) (call : Call T) (o : Option (Call T)) (l : Line T) (begun seen : List (Event T)) → o ≡ some call → is_idle l ≡ true → IsDoing p o l begun seen → (c : ℕ) × (a : Answer T) × (l ≡ Idle c (Some a))
  unanswered p call none l begun seen is idle d = cc
  unanswered p call (some k) (Idle c None) begun seen is idle d = absurd d.made
  unanswered p call (some k) (Idle c (Some a)) begun seen is idle d = (c, a, refl)
  unanswered p call (some k) l begun seen is idle d = absurd (false≢true idle)

  pub unanswered_at : (s : State T) → Kept_at s → NoneUnanswered s
  unanswered_at s x p v call e is idle = unanswered p call v.call v.line v.begun v.seen is idle (x.story p v e).1

  pub done_at : (s : State T) → Kept_at s → AllDone s
  done_at s x p v c a e idle = answered p v c a v.call refl (subst (λ (l : Line T). IsDoing p v.call l v.begun v.seen) idle (x.story p v e).1)

  pub lawful_at : (s : State T) → Kept_at s → Lawful T n laps cells s
  lawful_at s x = lawful s x

module _ {T : Type 0} (n laps passes : ℕ) (schedule : List (ℕ × Act (Call T))) (pos : 0 < n) where
  abbrev end : State T
  end = run (ring (shape n laps)) schedule (start (ring (shape n laps)) passes)

  -- as many cells as slots and passes
  pub run_stays : Stays (ring (shape n laps)) (Rule n laps (n + passes)) (Story n laps (n + passes)) end
  run_stays = run_kept (ring (shape n laps)) (Stays (ring (shape n laps)) (Rule n laps (n + passes)) (Story n laps (n + passes))) (stays_holds (ring (shape n laps)) (Rule n laps (n + passes)) (Story n laps (n + passes)) (ring_told n laps (n + passes))) schedule (start (ring (shape n laps)) passes)
      (start_stays (ring (shape n laps)) (Rule n laps (n + passes)) (Story n laps (n + passes)) passes (new_good T n laps passes pos) (λ p. (tt, refl)))

  pub run_meets : MeetsRule n laps (n + passes) end
  run_meets = run_stays.rule

  pub ring_lawful : Lawful T n laps (n + passes) end
  ring_lawful = lawful_at n laps (n + passes) end run_stays

  pub all_done : AllDone end
  all_done = done_at n laps (n + passes) end run_stays

  pub none_unanswered : NoneUnanswered end
  none_unanswered = unanswered_at n laps (n + passes) end run_stays

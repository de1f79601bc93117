-- The list's machine in every schedule.
use Rattle.std.proofs.Common.{◌≡◌, ℕ, zero, suc, ◌+◌, ◌<◌, ◌||◌, Bool, true, false, cond, eqb, leb, List, [], ◌∷◌, ◌++◌, set, remove, replicate, refl, ap, subst, arith}
use Rattle.std.proofs.lemmas.Bool.{false≢true}
use Rattle.std.proofs.lemmas.Bool.Decides.{nat_tests}
use mathlib.Core.Option.{Option, none, some}
use lib.ListN.{get_elem?}
use Rattle.bounded_model.specs.Histories.{own}
use Rattle.tagged_index.specs.declared.word.TheConstants.{NULL}
use Rattle.machine.specs.Words.{Tagged, raised, kept, same, times, Stands}
use Rattle.machine.specs.Schedule.{Act, Pass, run, start}
use Rattle.machine.proofs.Scheduled.{run_kept}
use Rattle.machine.proofs.Stories.{Told, Stays, stays_holds, start_stays_alike}
use Rattle.machine.proofs.Tests.{cases, neither, same-is}
use Rattle.machine.proofs.Sums.{total_same, total_map, same_at}
use Rattle.machine.proofs.Lists.{times_remove}
use Rattle.machine.proofs.OneList.{read_top}
use Rattle.machine.proofs.Starts.{from, from_stands, from_all}
use Rattle.step_core.specs.list.Machine.{Memory, Line, Idle, LoadTopToTake, LoadTopLink, TakeTop, LoadTopToGive, LinkToTop, GiveBack, At, Call, Take, Give, Events, Outcome, goes_on, step, is_idle, gives, starts, list}
use Rattle.step_core.specs.list.Law.{giving, holds, Lawful}
use Rattle.step_core.specs.list.Rule.{IsFine, Kept}
use Rattle.step_core.proofs.list.Kept.{goes_kept, take_kept, give_kept, store_kept}

module _ (n limit : ℕ) where
  load_top_to_take_fine : (top : Tagged) (link : ℕ → ℕ) (list : List ℕ) → Stands link top.index list → IsFine limit top link list (cond (eqb top.index NULL || leb limit top.tag) Idle (LoadTopLink top))
  load_top_to_take_fine top link list s = cases (IsFine limit top link list) (eqb top.index NULL || leb limit top.tag) Idle (LoadTopLink top) (λ h. tt) (λ h.
      let b = neither (eqb top.index NULL) (leb limit top.tag) h in
      read_top limit top link list s (λ e. grind (arith, nat_tests)) (grind (arith, nat_tests)))

  load_top_to_take_gives : (b : Bool) (w : Tagged) → giving (cond b Idle (LoadTopLink w)) ≡ []
  load_top_to_take_gives true w = refl
  load_top_to_take_gives false w = refl

  -- after a step of pass p the rule holds
  abbrev After : List At → ℕ → Outcome → Type 0
  After passes p o = Kept n limit o.memory (set passes p o.line)

  -- a step of any pass, wherever the rule holds
  pub step_kept : (m : Memory) (passes : List At) (p : ℕ) (line : Line) (hand : List ℕ) → Kept n limit m passes → get_elem? passes p ≡ some (record { line = line; hand = hand }) → After passes p (step limit m line hand)
  step_kept m passes p Idle hand g e = record { list = g.list; good = goes_kept p (record { line = Idle; hand = hand }) Idle hand g.good e (λ i. refl) tt }
  step_kept m passes p LoadTopToTake hand g e =
      let b = eqb m.top.index NULL || leb limit m.top.tag in
      record {
        list = g.list;
        good = goes_kept p (record { line = LoadTopToTake; hand = hand }) (cond b Idle (LoadTopLink m.top)) hand g.good e
            (λ i. ap (λ (is : List ℕ). times i is + times i hand) (load_top_to_take_gives b m.top)) (load_top_to_take_fine m.top m.link g.list g.good.stands);
      }
  step_kept m passes p (LoadTopLink w) hand g e =
      record { list = g.list; good = goes_kept p (record { line = LoadTopLink w; hand = hand }) (TakeTop w (m.link w.index)) hand g.good e (λ i. refl) (g.good.fine p (record { line = LoadTopLink w; hand = hand }) e, λ h. refl) }
  step_kept m passes p (TakeTop w k) hand g e = cases (After passes p) (same m.top w) (goes_on (record m { top = raised w k }) Idle (w.index ∷ hand)) (goes_on m LoadTopToTake hand)
      (λ h. take_kept p hand w k g.good e (same-is m.top w h))
      (λ h. record { list = g.list; good = goes_kept p (record { line = TakeTop w k; hand = hand }) LoadTopToTake hand g.good e (λ i. refl) tt })
  step_kept m passes p (LoadTopToGive i) hand g e =
      record { list = g.list; good = goes_kept p (record { line = LoadTopToGive i; hand = hand }) (LinkToTop i m.top) hand g.good e (λ j. refl) tt }
  step_kept m passes p (LinkToTop i w) hand g e = record { list = g.list; good = store_kept p hand i w g.good e }
  step_kept m passes p (GiveBack i w) hand g e = cases (After passes p) (same m.top w) (goes_on (record m { top = kept w i }) Idle hand) (goes_on m (LoadTopToGive i) hand)
      (λ h. record { list = i ∷ g.list; good = give_kept p hand i w g.good e (same-is m.top w h) })
      (λ h. record { list = g.list; good = goes_kept p (record { line = GiveBack i w; hand = hand }) (LoadTopToGive i) hand g.good e (λ j. refl) tt })

  starts_kept : (m : Memory) (passes : List At) (p : ℕ) (call : Call) (line : Line) (hand : List ℕ) → is_idle line ≡ true → Kept n limit m passes → get_elem? passes p ≡ some (record { line = line; hand = hand }) → Kept n limit m (set passes p (starts call hand))
  starts_kept m passes p Take Idle hand idle g e = record { list = g.list; good = goes_kept p (record { line = Idle; hand = hand }) LoadTopToTake hand g.good e (λ i. refl) tt }
  starts_kept m passes p (Give place) Idle hand idle g e = given (get_elem? hand place) refl
    where
      given : (o : Option ℕ) → get_elem? hand place ≡ o → Kept n limit m (set passes p (gives place o hand))
      given none at = record { list = g.list; good = goes_kept p (record { line = Idle; hand = hand }) Idle hand g.good e (λ i. refl) tt }
      given (some i) at = record { list = g.list; good = goes_kept p (record { line = Idle; hand = hand }) (LoadTopToGive i) (remove hand place) g.good e (λ j. let t = times_remove j i hand place at in omega arith) tt }
  starts_kept m passes p call line hand idle g e = absurd (false≢true idle)

  -- a list has no events
  no_events : (m : Memory) (line : Line) (hand : List ℕ) → (step limit m line hand).events ≡ []
  no_events m (TakeTop w k) hand = cases (λ (o : Outcome). o.events ≡ []) (same m.top w) (goes_on (record m { top = raised w k }) Idle (w.index ∷ hand)) (goes_on m LoadTopToTake hand) (λ h. refl) (λ h. refl)
  no_events m (GiveBack i w) hand = cases (λ (o : Outcome). o.events ≡ []) (same m.top w) (goes_on (record m { top = kept w i }) Idle hand) (goes_on m (LoadTopToGive i) hand) (λ h. refl) (λ h. refl)
  no_events m l hand = refl

  abbrev Rule : Memory → List At → List Events → Type 0
  Rule m passes h = Kept n limit m passes

  abbrev Story : ℕ → Option Call → At → List Events → List Events → Type 0
  Story p call at begun seen = Unit {0}

  list_told : Told (list n limit) Rule Story
  list_told = record {
    begins = λ m passes h p at call g e idle. starts_kept m passes p call at.line at.hand idle g e;
    begins_story = λ p at call seen idle. tt;
    steps = λ m passes h p at g e busy. step_kept m passes p at.line at.hand g e;
    steps_story = λ m passes h p call at b seen g e busy before ahead story. tt;
    apart = λ m h p q at ne. ap (λ (es : List Events). own q (es ++ h)) (no_events m at.line at.hand);
  }

start_kept : (n limit passes : ℕ) → 0 < n → Kept n limit (list n limit).first (replicate passes (record { line = Idle; hand = [] }))
start_kept zero limit passes h = absurd (omega arith)
start_kept (suc k) limit passes h = record {
  list = from 0 (suc k);
  good = record {
    stands = from_stands (suc k) k 0 (omega arith);
    once = λ i. omega (arith, from_all i (suc k), total_same (holds i) (record { line = Idle; hand = [] }) passes refl);
    tag = omega arith;
    fine = λ p v e. subst (λ (x : At). IsFine limit (list (suc k) limit).first.top (list (suc k) limit).first.link (from 0 (suc k)) x.line) (same_at passes p (record { line = Idle; hand = [] }) v e) tt;
  };
}

pub list_lawful : (n limit passes : ℕ) (schedule : List (ℕ × Act Call)) → 0 < n → Lawful n limit (run (list n limit) schedule (start (list n limit) passes))
list_lawful n limit passes schedule h =
    let s = run (list n limit) schedule (start (list n limit) passes) in
    let told = list_told n limit in
    let x = run_kept (list n limit) (Stays (list n limit) (Rule n limit) (Story n limit)) (stays_holds (list n limit) (Rule n limit) (Story n limit) told) schedule (start (list n limit) passes)
    (start_stays_alike (list n limit) (Rule n limit) (Story n limit) (record { line = Idle; hand = [] }) (λ p. refl) passes (start_kept n limit passes h) (λ p. tt)) in
    let g = x.rule in
    record {
      list = g.list;
      stands = g.good.stands;
      once = λ i. omega (arith, g.good.once i, total_map (holds i) (λ (v : Pass At Call Events). v.line) s.passes);
      tag = g.good.tag;
    }

-- Places and what their letters name, side by side.
use Rattle.std.proofs.Common.{◌≡◌, ◌≢◌, ℕ, zero, suc, ◌+◌, ◌-◌, ◌<◌, ◌≤◌, Bool, true, false, if◌then◌else◌, List, [], ◌∷◌, length, refl, sym, ap, subst, ◌∙◌, arith, min, ◌^◌, replicate, Result, Ok, Err, IfOk, slice_set, slice_index_or}
use Rattle.std.proofs.lemmas.List.{get_or-set_other, set-get_or}
use Rattle.bounded_model.specs.declared.commands.Command.{Command}
use Rattle.bounded_model.specs.declared.views.PassView.{PassView}
use Rattle.bounded_model.specs.declared.views.RootView.{RootView}
use Rattle.bounded_model.specs.Laws.{Splits, IsFullOfPasses, MeetGives}
use Rattle.bounded_model.proofs.Histories.{Later-refl, Later-trans}
use Rattle.bounded_model.specs.Machine.{Shape}
use Rattle.bounded_model.specs.Stepping.{OneStep, Underway}
use Rattle.script.specs.declared.line.PassName.{PassName}
use Rattle.script.specs.declared.answer.Answer.{Answer}
use Rattle.script.specs.declared.answer.Answer.TheVariants as answer
use Rattle.script.specs.declared.line.Act.{Act}
use Rattle.script.specs.declared.line.Act.TheVariants.{Call, Begin, Step, Range, Fold, ReversedFold, Meet, Drop}
use Rattle.player.specs.declared.place.Begun.{Begun}
use Rattle.player.specs.declared.place.Place.{Place}
use Rattle.player.specs.declared.place.Place.TheVariants as place
use Rattle.player.specs.Plays.{Meaning, Nobody, Resting, Acting, ActingTold, Acts, Does, World, Finds, FindsOther, MakesSteps, MeetTold, steps_since}
use Rattle.player.specs.Shows.{Holds, Reading, Shows, ShowsAll}

-- an operation that was begun has made no step
pub since_none : (v : PassView (List ℕ)) → 0 ≡ steps_since v v
since_none v = omega arith

pub set_again : {A : Type 0} (xs : List A) (i : ℕ) (a b : A) → slice_set (slice_set xs i a) i b ≡ slice_set xs i b
set_again [] i a b = refl
set_again (x ∷ xs) zero a b = refl
set_again (x ∷ xs) (suc i) a b = ap (λ (ys : List _). x ∷ ys) (set_again xs i a b)

set_swap : {A : Type 0} (xs : List A) (i j : ℕ) (a b : A) → i ≢ j → slice_set (slice_set xs i a) j b ≡ slice_set (slice_set xs j b) i a
set_swap [] i j a b apart = refl
set_swap (x ∷ xs) zero zero a b apart = absurd (apart refl)
set_swap (x ∷ xs) zero (suc j) a b apart = refl
set_swap (x ∷ xs) (suc i) zero a b apart = refl
set_swap (x ∷ xs) (suc i) (suc j) a b apart = ap (λ (ys : List _). x ∷ ys) (set_swap xs i j a b (λ e. apart (ap suc e)))

-- two places that were emptied are filled
pub set_both : {A : Type 0} (xs : List A) (i j : ℕ) (none a b : A) → i ≢ j → slice_set (slice_set (slice_set (slice_set xs i none) j none) i a) j b ≡ slice_set (slice_set xs i a) j b
set_both xs i j none a b apart =
    ap (λ (ys : List _). slice_set (slice_set ys i a) j b) (set_swap xs i j none none apart)
    ∙ ap (λ (ys : List _). slice_set ys j b) (set_again (slice_set xs j none) i none a)
    ∙ ap (λ (ys : List _). slice_set ys j b) (sym (set_swap xs i j a none apart))
    ∙ set_again (slice_set xs i a) j none b

-- the other place as it was
pub other_kept : {A : Type 0} (xs : List A) (i j : ℕ) (none : A) → i ≢ j → slice_set (slice_set xs i none) j (slice_index_or xs j none) ≡ slice_set xs i none
other_kept xs i j none apart =
    ap (λ a. slice_set (slice_set xs i none) j a) (sym (get_or-set_other xs i j none none (λ e. apart (sym e))))
    ∙ set-get_or (slice_set xs i none) j none

pub other_named : (names : List Meaning) (i j : ℕ) (a : Meaning) → i ≢ j → slice_index_or (slice_set names i a) j Nobody ≡ slice_index_or names j Nobody
other_named names i j a apart = get_or-set_other names i j a Nobody (λ e. apart (sym e))

-- a call under way is busy for anything but steps and a drop
pub is_busy : (c : Shape) (call : Command (List ℕ)) (u : Underway (List ℕ)) (act : Act) → ((count : ℕ) → act ≡ Step count → ⊥) → (act ≡ Drop → ⊥) → ActingTold c call u act answer.Busy (Acting call u)
is_busy c call u (Call command) no_step no_drop = (refl, refl)
is_busy c call u (Begin command) no_step no_drop = (refl, refl)
is_busy c call u (Step count) no_step no_drop = absurd (no_step count refl)
is_busy c call u (Range values) no_step no_drop = (refl, refl)
is_busy c call u Fold no_step no_drop = (refl, refl)
is_busy c call u ReversedFold no_step no_drop = (refl, refl)
is_busy c call u (Meet other) no_step no_drop = (refl, refl)
is_busy c call u Drop no_step no_drop = absurd (no_drop refl)

pub have_met : (v u w : PassView (List ℕ)) (has_met : Bool) → MeetGives v u w has_met → MeetTold (Resting v) (Resting u) (if has_met then answer.Met else answer.NoPass) (Resting w)
have_met v u w true gives = gives
have_met v u w false gives = gives

pub finds_new : (c : Shape) (r s : RootView (List ℕ)) (n : Meaning) (v : PassView (List ℕ)) → n ≡ Nobody → Splits c r s v → Finds c r n s (Resting v)
finds_new c r s n v none splits = subst (λ (m : Meaning). Finds c r m s (Resting v)) (sym none) splits

pub finds_none : (c : Shape) (r s : RootView (List ℕ)) (n : Meaning) → n ≡ Nobody → IsFullOfPasses c r → s ≡ r → Finds c r n s Nobody
finds_none c r s n none full same = subst (λ (m : Meaning). Finds c r m s Nobody) (sym none) (full, same)

-- the other letter was looked for, since the first names somebody
pub finds_other : (c : Shape) (first : Meaning) (r s : RootView (List ℕ)) (other found : Meaning) → (first ≡ Nobody → ⊥) → Finds c r other s found → FindsOther c first r other s found
finds_other c Nobody r s other found some finds = absurd (some refl)
finds_other c (Resting v) r s other found some finds = finds
finds_other c (Acting call u) r s other found some finds = finds

-- what is said of a line of one pass is what is said of the line
pub acts_alone : (c : Shape) (world : World) (letter : ℕ) (act : Act) (said : Answer) (next : World) → ((other : PassName) → act ≡ Meet other → ⊥) → Does c world letter act said next → Acts c world letter act said next
acts_alone c world letter (Call command) said next alone does = does
acts_alone c world letter (Begin command) said next alone does = does
acts_alone c world letter (Step count) said next alone does = does
acts_alone c world letter (Range values) said next alone does = does
acts_alone c world letter Fold said next alone does = does
acts_alone c world letter ReversedFold said next alone does = does
acts_alone c world letter (Meet other) said next alone does = absurd (alone other refl)
acts_alone c world letter Drop said next alone does = does

pub if_ok_more : {A E : Type 0} {P Q : A → Type 0} (result : Result A E) → ((a : A) → P a → Q a) → IfOk result P → IfOk result Q
if_ok_more (Ok a) more p = more a p
if_ok_more (Err e) more p = p

-- ---- steps

pub makes_more : (count : ℕ) (v u w : PassView (List ℕ)) → MakesSteps count v u → OneStep u w → MakesSteps (count + 1) v w
makes_more count v u w makes one = record {
  number = one.number ∙ makes.number;
  steps = omega (arith, one.steps, makes.steps);
  seen = Later-trans makes.seen one.seen;
}

pub makes_none : (v : PassView (List ℕ)) → MakesSteps 0 v v
makes_none v = record { number = refl; steps = omega arith; seen = Later-refl v.seen }

pub since_more : (told made : ℕ) (b n w : PassView (List ℕ)) (said : ℕ) → told ≡ steps_since b n → b.steps ≤ n.steps → w.steps ≡ n.steps + made → said ≡ min (told + made) (2 ^ 64 - 1) → said ≡ steps_since b w
since_more told made b n w said e few more is = omega (arith, e, few, more, is)

module _ {R P O : Type 0} (r : Reading R P O) where
  pub is_nobody : (n : Meaning) → Shows r place.Nobody n → n ≡ Nobody
  is_nobody Nobody shows = refl
  is_nobody (Resting v) shows = absurd shows
  is_nobody (Acting call u) shows = absurd shows

  pub is_resting : (pass : P) (n : Meaning) → Shows r (place.Resting pass) n → n ≡ Resting (r.pass pass)
  is_resting pass Nobody shows = absurd shows
  is_resting pass (Resting v) shows = ap Resting shows.1
  is_resting pass (Acting call u) shows = absurd shows

  pub is_acting : (begun : Begun O) (n : Meaning) → Shows r (place.Acting begun) n → (call : Command (List ℕ)) × (u : Underway (List ℕ)) × (n ≡ Acting call u)
  is_acting begun Nobody shows = absurd shows
  is_acting begun (Resting v) shows = absurd shows
  is_acting begun (Acting call u) shows = (call, u, refl)

  pub resting_is : (pass : P) (n : Meaning) → Shows r (place.Resting pass) n → r.is_pass pass
  resting_is pass Nobody shows = absurd shows
  resting_is pass (Resting v) shows = shows.0
  resting_is pass (Acting call u) shows = absurd shows

  pub acting_is : (begun : Begun O) (n : Meaning) → Shows r (place.Acting begun) n → (call : Command (List ℕ)) × r.is_making call begun.operation
  acting_is begun Nobody shows = absurd shows
  acting_is begun (Resting v) shows = absurd shows
  acting_is begun (Acting call u) shows = (call, shows.0)

  pub holds : (p : Place P O) (n : Meaning) → Shows r p n → Holds r p
  holds place.Nobody n shows = tt
  holds (place.Resting pass) n shows = resting_is pass n shows
  holds (place.Acting begun) n shows = acting_is begun n shows

  -- a place that is not empty names somebody
  pub is_somebody : (p : Place P O) (n : Meaning) → Shows r p n → (p ≡ place.Nobody → ⊥) → n ≡ Nobody → ⊥
  is_somebody place.Nobody n shows some none = some refl
  is_somebody (place.Resting pass) Nobody shows some none = shows
  is_somebody (place.Resting pass) (Resting v) shows some none = absurd cc
  is_somebody (place.Resting pass) (Acting call u) shows some none = shows
  is_somebody (place.Acting begun) Nobody shows some none = shows
  is_somebody (place.Acting begun) (Resting v) shows some none = shows
  is_somebody (place.Acting begun) (Acting call u) shows some none = absurd cc

  pub finds_same : (p : Place P O) (n : Meaning) (root : RootView (List ℕ)) → Shows r p n → (p ≡ place.Nobody → ⊥) → Finds r.shape root n root n
  finds_same p Nobody root shows some = absurd (is_somebody p Nobody shows some refl)
  finds_same p (Resting v) root shows some = (refl, refl)
  finds_same p (Acting call u) root shows some = (refl, refl)

  pub shows_at : (places : List (Place P O)) (names : List Meaning) (i : ℕ) (place : Place P O) → ShowsAll r places names → i < length places → slice_index_or places i place ≡ place → Shows r place (slice_index_or names i Nobody)
  shows_at [] names i place all within was = absurd (omega (arith, within))
  shows_at (p ∷ places) [] i place all within was = absurd all
  shows_at (p ∷ places) (n ∷ names) zero place all within was = subst (λ (q : Place P O). Shows r q n) was all.0
  shows_at (p ∷ places) (n ∷ names) (suc i) place all within was = shows_at places names i place all.1 (omega (arith, within)) was

  pub shows_set : (places : List (Place P O)) (names : List Meaning) (i : ℕ) (place : Place P O) (name : Meaning) → ShowsAll r places names → Shows r place name → ShowsAll r (slice_set places i place) (slice_set names i name)
  shows_set [] [] i place name all one = tt
  shows_set [] (n ∷ names) i place name all one = absurd all
  shows_set (p ∷ places) [] i place name all one = absurd all
  shows_set (p ∷ places) (n ∷ names) zero place name all one = (one, all.1)
  shows_set (p ∷ places) (n ∷ names) (suc i) place name all one = (all.0, shows_set places names i place name all.1 one)

  -- no letter names a pass
  pub shows_none : (k : ℕ) → ShowsAll r (replicate k place.Nobody) (replicate k Nobody)
  shows_none zero = tt
  shows_none (suc k) = (tt, shows_none k)

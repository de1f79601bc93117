-- The names of two steps in a row tell what the first one did.
use Rattle.std.proofs.Common.{◌≡◌, ℕ, Bool, true, false, cond, List, sym, ap, ◌∙◌, subst, refl, Option as Maybe, Some as Just, None as Nothing}
use Rattle.std.proofs.lemmas.Bool.{false≢true}
use mathlib.Core.Option.{Option, none, some}
use Rattle.machine.specs.Words.{Tagged, same}
use Rattle.machine.specs.Schedule.{Outcome as Made}
use Rattle.machine.specs.Program.{Change, Deed, Memories, Then, Won, answered, does, new_word, onward, won, loads, checks, follows, fetches, stows, stores, links, attempts, swaps, rests, stays, returns, brings}
use Rattle.step_names.specs.Names.{IsDeedNamed, IsNextNamed, IsOutcome, IsSwapNamed, LeadsAway, LoadsWord, NamesTell, Naming, NeverLoads, did}
use Rattle.step_names.specs.declared.location.Location.{Location}
use Rattle.step_names.specs.declared.step_name.StepName.{StepName}
use Rattle.step_names.specs.declared.step_name.StepName.TheVariants.{Load, Stow, Store, CompareAndSwap, Attempt}
use Rattle.step_names.specs.declared.step_name.Outcome.{Outcome}
use Rattle.step_names.specs.declared.step_name.Outcome.TheVariants.{Done, Succeeded, Failed, Tried}

abbrev is_load : StepName → Bool
is_load (Load location) = true
is_load name = false

abbrev loaded : Location → StepName → Location
loaded else_ (Load location) = location
loaded else_ name = else_

-- no other name is that of a load
no_load : {A : Type 0} (location : Location) (name : StepName) → is_load name ≡ false → Load location ≡ name → A
no_load location name other is = absurd (false≢true (sym (ap is_load is ∙ other)))

module _ {T M P Q L E : Type 0} (naming : Naming T M P Q L E) where
  -- a step that loads a word is called a load of it ..
  load_is : (deed : Deed T M P Q L E) (location : Location) (name : StepName) → LoadsWord naming deed location → IsDeedNamed naming deed name → name ≡ Load location
  load_is rests location name it named = absurd it
  load_is (loads at to) location name it named = named ∙ ap Load (sym it)
  load_is (checks at seen here elsewhere) location name it named = named ∙ ap Load (sym it)
  load_is (follows at to) location name it named = named ∙ ap Load (sym it)
  load_is (fetches at indexes to) location name it named = named ∙ ap Load (sym it)
  load_is (stows at slots to) location name it named = absurd it
  load_is (stores at word to) location name it named = absurd it
  load_is (links at number to) location name it named = absurd it
  load_is (attempts at old new to) location name it named = absurd it
  load_is (swaps at old change led lost) location name it named = absurd it

  -- .. and a step that is called so loads it
  load_named : (deed : Deed T M P Q L E) (location : Location) → IsDeedNamed naming deed (Load location) → LoadsWord naming deed location
  load_named rests location named = absurd named
  load_named (loads at to) location named = ap (loaded location) named
  load_named (checks at seen here elsewhere) location named = ap (loaded location) named
  load_named (follows at to) location named = ap (loaded location) named
  load_named (fetches at indexes to) location named = ap (loaded location) named
  load_named (stows at slots to) location named = no_load location (Stow (naming.word at)) refl named
  load_named (stores at word to) location named = no_load location (Store (naming.word at)) refl named
  load_named (links at number to) location named = no_load location (Store (naming.number at)) refl named
  load_named (attempts at old new to) location named = no_load location (Attempt (naming.word at)) refl named
  load_named (swaps at old change led lost) location named = absurd named

  loads_next : (line : L) (location : Location) (next : Maybe StepName) → LoadsWord naming (naming.table line) location → IsNextNamed naming line next → next ≡ Just (Load location)
  loads_next line location (Just name) it named = ap Just (load_is (naming.table line) location name it named)
  loads_next line location Nothing it rested = absurd (subst (λ (deed : Deed T M P Q L E). LoadsWord naming deed location) rested it)

  never_next : (line : L) (location : Location) (next : Maybe StepName) → NeverLoads naming line location → IsNextNamed naming line next → next ≡ Just (Load location) → ⊥
  never_next line location next never named is = never (load_named (naming.table line) location (subst (IsNextNamed naming line) is named))

module _ {T M P Q L E : Type 0} (memories : Memories T M P Q) (naming : Naming T M P Q L E) (idle : L) (idles : naming.table idle ≡ rests) where
  module _ (m : M) (pass : ℕ) where
    answered_away : (at : P) (new : Tagged) (indexes : List ℕ) (reply : Option (Then L E)) (location : Location) → ((next : Then L E) → reply ≡ some next → NeverLoads naming next.line location) → NeverLoads naming (answered memories idle m pass at new indexes reply).line location
    answered_away at new indexes none location away = λ it. subst (λ (deed : Deed T M P Q L E). LoadsWord naming deed location) idles it
    answered_away at new indexes (some next) location away = away next refl

    won_away : (at : P) (new : Tagged) (led : Won T M L E) (location : Location) → LeadsAway naming led location → NeverLoads naming (won memories idle m pass at new led).line location
    won_away at new (stays next) location away = away
    won_away at new (returns slots next) location away = away
    won_away at new (brings turned which reply) location away = answered_away at new (which m) _ location (λ next. away (which m) _ next)

    module _ (next : Maybe StepName) (location retried : Location) where
      -- a comparison that holds leads to the one outcome, and one that does not to the other
      both_ways : (b : Bool) (led : Made M L E) (lost : L) (outcome : Outcome) → NeverLoads naming led.line retried → LoadsWord naming (naming.table lost) retried → IsNextNamed naming (cond b led (onward memories m lost)).line next → IsOutcome (CompareAndSwap location retried) next outcome → outcome ≡ cond b Succeeded Failed
      both_ways true led lost Succeeded never it led_to is = refl
      both_ways true led lost Failed never it led_to is = absurd (never_next naming led.line retried next never led_to is)
      both_ways true led lost Done never it led_to is = absurd is
      both_ways true led lost Tried never it led_to is = absurd is
      both_ways false led lost Succeeded never it led_to is = absurd (is (loads_next naming lost retried next it led_to))
      both_ways false led lost Failed never it led_to is = refl
      both_ways false led lost Done never it led_to is = absurd is
      both_ways false led lost Tried never it led_to is = absurd is

    module _ (next : Maybe StepName) (outcome : Outcome) where
      tell_swap : (line : L) (at : P) (old : Tagged) (change : Change) (led : Won T M L E) (lost : L) (name : StepName) → IsSwapNamed naming at led lost name → IsNextNamed naming (does memories idle m pass line (swaps at old change led lost)).line next → IsOutcome name next outcome → outcome ≡ did memories m (swaps at old change led lost)
      tell_swap line at old change led lost (Load location) named led_to is = absurd named
      tell_swap line at old change led lost (Stow location) named led_to is = absurd named
      tell_swap line at old change led lost (Store location) named led_to is = absurd named
      tell_swap line at old change led lost (Attempt location) named led_to is = absurd named
      tell_swap line at old change led lost (CompareAndSwap location retried) (is_at, loads_lost, away) led_to is =
          both_ways next location retried (same (memories.word m at) old) (won memories idle m pass at (new_word (memories.keeps at) old change) led) lost outcome (won_away at _ led retried away) loads_lost led_to is

      as_named : (name is_called : StepName) → name ≡ is_called → IsOutcome name next outcome → IsOutcome is_called next outcome
      as_named name is_called named is = subst (λ (n : StepName). IsOutcome n next outcome) named is

      tell : (line : L) (deed : Deed T M P Q L E) (name : StepName) → IsDeedNamed naming deed name → IsNextNamed naming (does memories idle m pass line deed).line next → IsOutcome name next outcome → outcome ≡ did memories m deed
      tell line rests name named led_to is = absurd named
      tell line (loads at to) name named led_to is = as_named name _ named is
      tell line (checks at seen here elsewhere) name named led_to is = as_named name _ named is
      tell line (follows at to) name named led_to is = as_named name _ named is
      tell line (fetches at indexes to) name named led_to is = as_named name _ named is
      tell line (stows at slots to) name named led_to is = as_named name _ named is
      tell line (stores at word to) name named led_to is = as_named name _ named is
      tell line (links at number to) name named led_to is = as_named name _ named is
      tell line (attempts at old new to) name named led_to is = as_named name _ named is
      tell line (swaps at old change led lost) name named led_to is = tell_swap line at old change led lost name named led_to is

  pub names_tell : NamesTell memories naming idle
  names_tell m pass line name next outcome named led_to is = tell m pass next outcome line (naming.table line) name named led_to is

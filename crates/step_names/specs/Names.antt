-- The names of a machine's steps, by its table of steps, and what a step did.
use Rattle.std.specs.Prelude.{ℕ, List, if◌then◌else◌, ◌≡◌, ◌≢◌, Option as Maybe, Some as Just, None as Nothing}
use mathlib.Core.Option.{Option, some}
use Rattle.machine.specs.Program.{Deed, Memories, Then, Won, does, wins, loads, checks, follows, fetches, stows, stores, links, attempts, swaps, rests, stays, returns, brings}
use Rattle.step_names.specs.declared.location.Location.{Location}
use Rattle.step_names.specs.declared.step_name.StepName.{StepName}
use Rattle.step_names.specs.declared.step_name.StepName.TheVariants.{Load, Stow, Store, CompareAndSwap, Attempt}
use Rattle.step_names.specs.declared.step_name.Outcome.{Outcome}
use Rattle.step_names.specs.declared.step_name.Outcome.TheVariants.{Done, Succeeded, Failed, Tried}

-- a machine's table of steps, and its tagged words and plain numbers as locations
pub record Naming (T M P Q L E : Type 0) : Type 0 where
  pub table : L → Deed T M P Q L E
  pub word : P → Location
  pub number : Q → Location

module _ {T M P Q L E : Type 0} (naming : Naming T M P Q L E) where
  -- a step that loads this word, and stows nothing
  abbrev pub LoadsWord : Deed T M P Q L E → Location → Type 0
  LoadsWord (loads at to) location = location ≡ naming.word at
  LoadsWord (checks at seen here elsewhere) location = location ≡ naming.word at
  LoadsWord (follows at to) location = location ≡ naming.number at
  LoadsWord (fetches at indexes to) location = location ≡ naming.word at
  LoadsWord deed location = ⊥

  abbrev pub NeverLoads : L → Location → Type 0
  NeverLoads line location = LoadsWord (naming.table line) location → ⊥

  -- an exchange that is won leads to no line that loads this word
  abbrev pub LeadsAway : Won T M L E → Location → Type 0
  LeadsAway (stays next) location = NeverLoads next.line location
  LeadsAway (returns slots next) location = NeverLoads next.line location
  LeadsAway (brings turned which reply) location = (indexes : List ℕ) (found : List (Option (Maybe T))) (next : Then L E) → reply indexes found ≡ some next → NeverLoads next.line location

  -- The name of a compare-and-swap also tells a word that is loaded next exactly if it failed
  abbrev pub IsSwapNamed : P → Won T M L E → L → StepName → Type 0
  IsSwapNamed at won lost (CompareAndSwap location retried) = (location ≡ naming.word at) × LoadsWord (naming.table lost) retried × LeadsAway won retried
  IsSwapNamed at won lost name = ⊥

  -- a step has this name
  abbrev pub IsDeedNamed : Deed T M P Q L E → StepName → Type 0
  IsDeedNamed rests name = ⊥
  IsDeedNamed (loads at to) name = name ≡ Load (naming.word at)
  IsDeedNamed (checks at seen here elsewhere) name = name ≡ Load (naming.word at)
  IsDeedNamed (follows at to) name = name ≡ Load (naming.number at)
  IsDeedNamed (fetches at indexes to) name = name ≡ Load (naming.word at)
  IsDeedNamed (stows at slots to) name = name ≡ Stow (naming.word at)
  IsDeedNamed (stores at word to) name = name ≡ Store (naming.word at)
  IsDeedNamed (links at number to) name = name ≡ Store (naming.number at)
  IsDeedNamed (attempts at old new to) name = name ≡ Attempt (naming.word at)
  IsDeedNamed (swaps at old change won lost) name = IsSwapNamed at won lost name

  abbrev pub IsNamed : L → StepName → Type 0
  IsNamed line name = IsDeedNamed (naming.table line) name

  -- the name of a pass's next step at this line, if it does not rest there
  abbrev pub IsNextNamed : L → Maybe StepName → Type 0
  IsNextNamed line (Just name) = IsNamed line name
  IsNextNamed line Nothing = naming.table line ≡ rests

-- what a step of this name did after which the operation's next step has the other name, or the
-- operation has ended
abbrev pub IsOutcome : StepName → Maybe StepName → Outcome → Type 0
IsOutcome (Load location) next outcome = outcome ≡ Done
IsOutcome (Stow location) next outcome = outcome ≡ Done
IsOutcome (Store location) next outcome = outcome ≡ Done
IsOutcome (CompareAndSwap location retried) next Failed = next ≡ Just (Load retried)
IsOutcome (CompareAndSwap location retried) next Succeeded = next ≢ Just (Load retried)
IsOutcome (CompareAndSwap location retried) next outcome = ⊥
IsOutcome (Attempt location) next outcome = outcome ≡ Tried

module _ {T M P Q L E : Type 0} (memories : Memories T M P Q) where
  -- what a step did in this memory
  abbrev pub did : M → Deed T M P Q L E → Outcome
  did m (swaps at old change won lost) = if wins memories m (swaps at old change won lost) then Succeeded else Failed
  did m (attempts at old new to) = Tried
  did m deed = Done

  -- The names of a step and of the one that follows it tell what the step did, in every memory. A pass that is stopped
  -- rests at the idle line
  abbrev pub NamesTell : Naming T M P Q L E → L → Type 0
  NamesTell naming idle = (m : M) (pass : ℕ) (line : L) (name : StepName) (next : Maybe StepName) (outcome : Outcome)
      → IsNamed naming line name
      → IsNextNamed naming (does memories idle m pass line (naming.table line)).line next
      → IsOutcome name next outcome
      → outcome ≡ did m (naming.table line)

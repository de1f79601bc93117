-- What the arguments ask for, and its ranges.
use Rattle.std.specs.Prelude.{◌≡◌, ◌≢◌, ◌⊎◌, ◌≤◌, ℕ, Bool, Contains, IsTrue, List, codes, length}
use Rattle.relay_args.specs.Ranges.{IsInRange}
use Rattle.relay_args.specs.declared.ranges.TheConstants.{MAX_FILES}
use Rattle.words.specs.declared.chosen.Chosen.{Chosen}
use Rattle.words.specs.declared.chosen.Chosen.TheVariants.{Replay, Traced, Relay, Measured}
use Rattle.words.specs.declared.chosen.WordsRefused.{WordsRefused}
use Rattle.words.specs.declared.chosen.WordsRefused.TheVariants.{Help, Bad}
use Rattle.clap.specs.declared.error.Error.{Error}
use Rattle.clap.specs.declared.error.kind.ErrorKind.TheVariants.{DisplayHelp, DisplayVersion}
use Rattle.clap.specs.Values.{kind_of}

-- what the program is to do: a relay has its values in their ranges, and 1 to 16 files
abbrev pub AreInRange : Chosen → Type 0
AreInRange (Replay file) = Unit {0}
AreInRange (Traced file) = Unit {0}
AreInRange (Relay args files) = IsInRange args × (1 ≤ length files.items) × (length files.items ≤ MAX_FILES)
AreInRange (Measured args files) = IsInRange args × (1 ≤ length files.items) × (length files.items ≤ MAX_FILES)

-- details go to standard error: how a relay went, or the steps of a script
abbrev pub IsDetailed : Chosen → Type 0
IsDetailed (Replay file) = ⊥
IsDetailed (Traced file) = Unit {0}
IsDetailed (Relay args files) = ⊥
IsDetailed (Measured args files) = Unit {0}

abbrev pub AskForDetails : List (List ℕ) → Type 0
AskForDetails words = Contains words (codes "--trace") ⊎ Contains words (codes "--stats")

-- and the arguments ask for them
abbrev pub IsAskedFor : List (List ℕ) → Chosen → Type 0
IsAskedFor words (Replay file) = Unit {0}
IsAskedFor words (Traced file) = Contains words (codes "--trace")
IsAskedFor words (Relay args files) = Unit {0}
IsAskedFor words (Measured args files) = Contains words (codes "--stats")

-- a relay, measured only if this says so
abbrev pub IsRelay : Bool → Chosen → Type 0
IsRelay is_measured (Relay args files) = Unit {0}
IsRelay is_measured (Measured args files) = IsTrue is_measured
IsRelay is_measured chosen = ⊥

-- arguments that ask for help or for the version get it, and all others that are refused are not understood
abbrev pub IsRefusalOf : Error → WordsRefused → Type 0
IsRefusalOf error (Help text) = (text ≡ error) × ((kind_of error ≡ DisplayHelp) ⊎ (kind_of error ≡ DisplayVersion))
IsRefusalOf error (Bad reason) = (reason ≡ error) × (kind_of error ≢ DisplayHelp) × (kind_of error ≢ DisplayVersion)

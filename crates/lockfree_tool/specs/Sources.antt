-- Where scripts and messages come from.
use Rattle.std.specs.Prelude.{◌≡◌, ◌≢◌, ◌+◌, ◌≤◌, ◌⊎◌, ℕ, Bool, true, false, List, ◌∷◌, ◌++◌, Option, None, Some, codes, count_by, length}
use Rattle.std.specs.List.{AllZip}
use Rattle.audit.specs.declared.faults.ReadFault.TheVariants.{NoMemory}
use Rattle.lockfree_tool.specs.declared.failure.Failure.{Failure}
use Rattle.lockfree_tool.specs.declared.failure.Failure.TheVariants.{File as FileFailed, FileUnopened}
use Rattle.lockfree_tool.specs.declared.source.Source.{Source}
use Rattle.lockfree_tool.specs.declared.source.Source.TheVariants.{File, Input}

-- what a source still gives, if that is known
abbrev pub source_bytes : {F I : Type 0} → (F → Option (List ℕ)) → (I → Option (List ℕ)) → Source F I → Option (List ℕ)
source_bytes file input (File f) = file f
source_bytes file input (Input i) = input i

abbrev pub is_input : {F I : Type 0} → Source F I → Bool
is_input (File f) = false
is_input (Input i) = true

-- how often the standard input can still be given
abbrev pub given : {I : Type 0} → Option I → ℕ
given None = 0
given (Some i) = 1

-- the name `-` stands for the standard input, and no other does; a file is one of its name
abbrev pub IsSourceOf : {F I : Type 0} → (List ℕ → F → Type 0) → List ℕ → Source F I → Type 0
IsSourceOf is_file name (File f) = (name ≢ codes "-") × is_file name f
IsSourceOf is_file name (Input i) = name ≡ codes "-"

-- a source for each name, in order, and the standard input at most once
pub record AreSourcesOf {F I : Type 0} (is_file : List ℕ → F → Type 0) (names : List (List ℕ)) (sources : List (Source F I)) : Type 0 where
  pub each : AllZip (IsSourceOf is_file) names sources
  pub once : count_by is_input sources ≤ 1

-- there is no source of this name: the standard input cannot be given any more, or the file cannot be opened
abbrev pub HasNoSource : (List ℕ → Type 0) → List ℕ → ℕ → Type 0
HasNoSource cannot_open name left = ((name ≡ codes "-") × (left ≡ 0)) ⊎ ((name ≢ codes "-") × cannot_open name)

-- the names before the one of this number, from 1, have their sources, and that one has none
pub record IsUnopened {F I : Type 0} (is_file : List ℕ → F → Type 0) (cannot_open : List ℕ → Type 0) (input : Option I) (names : List (List ℕ)) (number : ℕ) : Type 0 where
  pub before : List (List ℕ)
  pub name : List ℕ
  pub after : List (List ℕ)
  pub opened : List (Source F I)
  pub left : ℕ
  pub all : names ≡ before ++ name ∷ after
  pub number_is : number ≡ length before + 1
  pub sources : AreSourcesOf is_file before opened
  pub left_is : count_by is_input opened + left ≡ given input
  pub none : HasNoSource cannot_open name left

-- how it fails to open sources of these names: there is none of one of them, or memory runs out at one
abbrev pub IsOpenFailure : {F I : Type 0} → (List ℕ → F → Type 0) → (List ℕ → Type 0) → Option I → List (List ℕ) → Failure → Type 0
IsOpenFailure is_file cannot_open input names failure = (number : ℕ)
    × (((failure ≡ FileUnopened number) × IsUnopened is_file cannot_open input names number)
    ⊎ ((failure ≡ FileFailed number NoMemory) × (1 ≤ number) × (number ≤ length names)))

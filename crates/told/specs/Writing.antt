-- What goes out to a writer.
use Rattle.std.specs.Prelude.{ℕ, List, take, Option}
use Rattle.std.specs.Io.KnownBytes.{Appends}
use Rattle.told.specs.declared.writing.Told.{Told}
use Rattle.told.specs.declared.writing.Told.TheVariants.{Whole, InPart}

-- what is known of a writer's bytes, before and after
pub record Written : Type 0 where
  pub old : Option (List ℕ)
  pub new : Option (List ℕ)

abbrev pub written : {W : Type 0} → (W → Option (List ℕ)) → W → W → Written
written contents before after = record { old = contents before; new = contents after }

-- known bytes grow by a front of these
abbrev pub AppendsFront : Option (List ℕ) → Option (List ℕ) → List ℕ → Type 0
AppendsFront old new bytes = (n : ℕ) × Appends old new (take n bytes)

-- known bytes grow by these, whole or up to a write that failed
abbrev pub WentOut : Told → Option (List ℕ) → Option (List ℕ) → List ℕ → Type 0
WentOut Whole old new bytes = Appends old new bytes
WentOut InPart old new bytes = AppendsFront old new bytes

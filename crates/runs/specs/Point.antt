-- Where a call has its point in a linearization of the acts in which it was invoked and has responded.
use Rattle.std.specs.Prelude.{◌≡◌, ◌≢◌, ℕ, List, [], ◌∷◌, ◌++◌}
use mathlib.Core.Option.{some}
use Rattle.step_core.specs.Linearizable.{Operation, Entry, Invokes, Responds, Updates, Reads, without_points}

module _ {T C A : Type 0} where
  -- this entry is the point of an operation
  abbrev pub IsPointOf : Operation C A → Entry T C A → Type 0
  IsPointOf k (Updates j e) = j ≡ k
  IsPointOf k (Reads j) = j ≡ k
  IsPointOf k entry = ⊥

  -- among these entries no invocation and no response is of pass p
  abbrev pub NoneOf : ℕ → List (Entry T C A) → Type 0
  NoneOf p [] = Unit {0}
  NoneOf p (Invokes q call ∷ more) = (q ≢ p) × NoneOf p more
  NoneOf p (Responds q answer ∷ more) = (q ≢ p) × NoneOf p more
  NoneOf p (entry ∷ more) = NoneOf p more

  -- The last call of its pass in a course. It was invoked after all of `heard`, and has responded. Its point stands between the two
  pub record HasPoint (course heard : List (Entry T C A)) (k : Operation C A) : Type 0 where
    pub later : List (Entry T C A)
    pub during : List (Entry T C A)
    pub point : Entry T C A
    pub older : List (Entry T C A)
    pub pending : List (Entry T C A)
    pub is : course ≡ later ++ Responds k.by (some k.answer) ∷ (during ++ point ∷ older)
    pub invoked : without_points older ≡ pending ++ Invokes k.by k.call ∷ heard
    pub of_call : IsPointOf k point
    pub last : NoneOf k.by later
    pub answers : NoneOf k.by during
    pub asks : NoneOf k.by pending

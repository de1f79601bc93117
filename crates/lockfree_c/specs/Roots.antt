-- What holds of a root that has a share of its container, and what its calls do. `reading` says how the container is read.
use Rattle.std.specs.Prelude.{◌≡◌, ◌⊎◌, ℕ, List, [], ◌∷◌, Option, Result, MatchOption, MatchResult}
use Rattle.bounded_model.specs.Laws.{IsFullOfPasses, Joins, Leaves, Splits, fresh}
use Rattle.bounded_model.specs.Machine.{Shape}
use Rattle.lockfree_c.specs.Calls.{Reading}
use Rattle.lockfree_c.specs.Codes.{bare, saying}
use Rattle.lockfree_c.specs.Passes.{IsPass}
use Rattle.lockfree_c.specs.declared.answers.Answer.{Answer}
use Rattle.lockfree_c.specs.declared.answers.TheConstants.{EMPTY, NO_MEMORY, NO_PASS, OTHER_HANDLE, UNDER_WAY, VALUE}
use Rattle.lockfree_c.specs.declared.pass.PassOf.{PassOf}
use Rattle.lockfree_c.specs.declared.root.RootOf.{RootOf}

-- the call hands out the next value that is left, or there is none
abbrev pub HandsOut : List ℕ → List ℕ → Answer → Type 0
HandsOut before after a = (given : Option ℕ) × MatchOption given
    ((a ≡ bare EMPTY) × (before ≡ []) × (after ≡ []))
    (λ x. (a ≡ saying VALUE x) × (before ≡ x ∷ after))

module _ {C P O W : Type 0} where
  -- why a pass was not joined: it is in a call; or it rests, and the library takes it for one of another container
  abbrev pub JoinRefused : PassOf C P O W → ℕ → Type 0
  JoinRefused p code = MatchOption p.stage.resting (code ≡ UNDER_WAY) (λ by. code ≡ OTHER_HANDLE)

module _ {C R P O W : Type 0} (reading : C → Reading R P O W) where
  abbrev pub IsRoot : RootOf C R → Type 0
  IsRoot r = (reading r.container.value).is_root r.root

  -- it has given no pass, and its container has this shape
  abbrev pub IsNewRoot : Shape → RootOf C R → Type 0
  IsNewRoot shape r = IsRoot r × ((reading r.container.value).root r.root ≡ fresh) × ((reading r.container.value).shape ≡ shape)

  -- a pass was split off: it has seen what the root has
  abbrev pub SplitOff : RootOf C R → RootOf C R → PassOf C P O W → Type 0
  SplitOff r s p = (p.container.value ≡ r.container.value) × IsPass reading p
      × MatchOption p.stage.resting ⊥ (λ by. Splits (reading r.container.value).shape ((reading r.container.value).root r.root) ((reading r.container.value).root s.root) ((reading r.container.value).pass by))

  abbrev pub SplitRefused : RootOf C R → RootOf C R → ℕ → Type 0
  SplitRefused r s code = ((reading r.container.value).root s.root ≡ (reading r.container.value).root r.root)
      × ((code ≡ NO_MEMORY) ⊎ ((code ≡ NO_PASS) × IsFullOfPasses (reading r.container.value).shape ((reading r.container.value).root r.root)))

  abbrev pub IsSplit : RootOf C R → RootOf C R → Result (PassOf C P O W) ℕ → Type 0
  IsSplit r s made = (s.container.value ≡ r.container.value) × MatchResult made (SplitOff r s) (SplitRefused r s)

  -- a pass that rested was joined: the root has seen what the pass has, and keeps its own events and what its calls have answered
  abbrev pub JoinedTo : RootOf C R → PassOf C P O W → RootOf C R → Type 0
  JoinedTo r p s = (s.container.value ≡ r.container.value)
      × MatchOption p.stage.resting ⊥ (λ by. Joins ((reading r.container.value).root r.root) ((reading r.container.value).pass by) ((reading r.container.value).root s.root))

  -- the container was ended, and the call hands out the first value that its root leaves: then this is left
  abbrev pub IsEnded : RootOf C R → List ℕ → Answer → Type 0
  IsEnded r after a = (left : List ℕ) × Leaves (reading r.container.value).shape ((reading r.container.value).root r.root) left × HandsOut left after a

-- What holds of a side of a container, which is its root, a pass, or what is left of it, and what the calls do to it.
use Rattle.std.specs.Prelude.{◌≡◌, ◌⊎◌, ℕ, List, Result, Ok, Err}
use Rattle.bounded_model.specs.Machine.{Shape}
use Rattle.lockfree_c.specs.Calls.{Reading}
use Rattle.lockfree_c.specs.Codes.{bare}
use Rattle.lockfree_c.specs.Passes.{IsPass}
use Rattle.lockfree_c.specs.Roots.{HandsOut, IsEnded, IsNewRoot, IsRoot, JoinRefused, JoinedTo, SplitOff, SplitRefused}
use Rattle.lockfree_c.specs.declared.answers.Answer.{Answer}
use Rattle.lockfree_c.specs.declared.answers.TheConstants.{NO_MEMORY, OTHER_HANDLE, SHARED}
use Rattle.lockfree_c.specs.declared.pass.PassOf.{PassOf}
use Rattle.lockfree_c.specs.declared.side.Side.{Side}
use Rattle.lockfree_c.specs.declared.side.Side.TheVariants.{Root, Pass, Rest}

module _ {C R P O W L : Type 0} where
  -- it stays as it is, and C gets this code
  abbrev pub SideKept : ℕ → Side C R P O W L → Side C R P O W L → Answer → Type 0
  SideKept code s t a = (a ≡ bare code) × (t ≡ s)

  -- a pass makes this call; a root and a rest make none
  abbrev pub SideCalled : (PassOf C P O W → PassOf C P O W → Answer → Type 0) → Side C R P O W L → Side C R P O W L → Answer → Type 0
  SideCalled Calls (Pass p) (Pass q) a = Calls p q a
  SideCalled Calls (Pass p) t a = ⊥
  SideCalled Calls s t a = SideKept OTHER_HANDLE s t a

  -- a pass that is to be joined to a root is one of its container
  abbrev pub SidesMatch : Side C R P O W L → Side C R P O W L → Type 0
  SidesMatch (Root r) (Pass p) = p.container.value ≡ r.container.value
  SidesMatch s t = Unit {0}

  -- why a side was not joined to another one: they are no root and pass, or the pass was refused
  abbrev pub SideUnjoined : Side C R P O W L → Side C R P O W L → ℕ → Type 0
  SideUnjoined (Root r) (Pass p) code = JoinRefused p code
  SideUnjoined s t code = code ≡ OTHER_HANDLE

  module _ (reading : C → Reading R P O W) where
    abbrev pub IsSide : Side C R P O W L → Type 0
    IsSide (Root r) = IsRoot reading r
    IsSide (Pass p) = IsPass reading p
    IsSide (Rest l) = Unit {0}

    -- the root of a new container of this shape
    abbrev pub IsNewSide : Shape → Side C R P O W L → Type 0
    IsNewSide shape (Root r) = IsNewRoot reading shape r
    IsNewSide shape s = ⊥

    -- a root gives a pass or does not; another side gives none
    abbrev pub SideSplit : Side C R P O W L → Side C R P O W L → Result (Side C R P O W L) ℕ → Type 0
    SideSplit (Root r) (Root s) (Ok (Pass p)) = (s.container.value ≡ r.container.value) × SplitOff reading r s p
    SideSplit (Root r) (Root s) (Err code) = (s.container.value ≡ r.container.value) × SplitRefused reading r s code
    SideSplit (Root r) t made = ⊥
    SideSplit s t (Err code) = (t ≡ s) × ((code ≡ OTHER_HANDLE) ⊎ (code ≡ NO_MEMORY))
    SideSplit s t made = ⊥

    -- a root took a pass back
    abbrev pub SideJoined : Side C R P O W L → Side C R P O W L → Side C R P O W L → Type 0
    SideJoined (Root r) (Pass p) (Root s) = JoinedTo reading r p s
    SideJoined s t u = ⊥

    -- a root ends its container, and the first of what it leaves is handed out, or another handle is out; what is left of an ended one hands out
    -- its next value
    abbrev pub SideFinished : (L → List ℕ) → Side C R P O W L → Side C R P O W L → Answer → Type 0
    SideFinished left (Root r) (Rest l) a = IsEnded reading r (left l) a
    SideFinished left (Root r) t a = SideKept SHARED (Root r) t a
    SideFinished left (Rest l) (Rest m) a = HandsOut (left l) (left m) a
    SideFinished left (Rest l) t a = ⊥
    SideFinished left (Pass p) t a = SideKept OTHER_HANDLE (Pass p) t a

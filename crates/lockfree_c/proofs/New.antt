-- A new container's root, in a slot that was empty.
use Rattle.std.proofs.Common.{sym, subst}
use Rattle.std.specs.Prelude.{◌≡◌, ℕ, false, Result, Ok, Err, MatchResult}
use Rattle.lockfree_c.specs.Held.{NewRefused}
use Rattle.lockfree_c.specs.Slots.{Either, Holds, IsEmpty, SlotNew}
use Rattle.lockfree_c.specs.declared.answers.TheConstants.{OK, IN_USE}
use Rattle.lockfree_c.specs.declared.held.Held.{Held}
use Rattle.lockfree_c.specs.declared.slot.Slot.{Slot}

module _ (IsNew : Held → Type 0) (limits : Type 0) (s t : Slot) (code : ℕ) where
  abbrev pub Made : Type 0
  Made = (made : Result Held ℕ) × MatchResult made (λ held. Holds t held × IsNew held × (code ≡ OK)) (λ why. IsEmpty t × NewRefused limits why × (code ≡ why))

  into_empty : s.full ≡ false → Made → SlotNew IsNew limits s t code
  into_empty empty made = subst (λ b. Either b ((t ≡ s) × (code ≡ IN_USE)) Made) (sym empty) made

  -- it was made in a box, or there is none, and the slot was written accordingly
  placed : {B : Type 0} (value : B → Held) (boxed : Result B ℕ) → MatchResult boxed (λ b. IsNew (value b)) (λ why. NewRefused limits why)
      → MatchResult boxed (λ b. Holds t (value b) × (code ≡ OK)) (λ why. IsEmpty t × (code ≡ why)) → Made
  placed value (Ok b) new put = (Ok (value b), (put.0, new, put.1))
  placed value (Err why) refused kept = (Err why, (kept.0, refused, kept.1))

  pub new_in : {B : Type 0} (value : B → Held) (boxed : Result B ℕ) → s.full ≡ false → MatchResult boxed (λ b. IsNew (value b)) (λ why. NewRefused limits why)
      → MatchResult boxed (λ b. Holds t (value b) × (code ≡ OK)) (λ why. IsEmpty t × (code ≡ why)) → SlotNew IsNew limits s t code
  new_in value boxed empty new put = into_empty empty (placed value boxed new put)

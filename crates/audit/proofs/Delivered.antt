-- An outcome in which all was delivered has the full audit.
use Rattle.std.proofs.Common.{◌≡◌, ℕ, ◌+◌, ◌==◌, List, [], ◌∷◌, ◌++◌, codes, length, count_by, refl, ap, arith, Vec}
use Rattle.std.specs.List.{AllByRecursion as Every}
use Rattle.std.specs.declared.alloc.Global.{Global}
use Rattle.relay.specs.declared.messages.Message.{Message}
use Rattle.relay.specs.declared.outcome.Taken.{Taken}
use Rattle.relay.specs.declared.outcome.Relayed.{Relayed}
use Rattle.audit.specs.Counting.{counts_of, counts_from, total}
use Rattle.audit.specs.Delivered.{all_delivered, full_audit}
use Rattle.audit.specs.Texts.{audit_text, counts_line, sender_lines}

-- of each sender from this one on, as many were taken as it sent
abbrev pub AreTaken : ℕ → List Taken → List (Vec Message Global) → Type 0
AreTaken sender taken [] = Unit {0}
AreTaken sender taken (input ∷ inputs) = (count_by (λ t. t.message.sender == sender) taken ≡ length input.items) × AreTaken (sender + 1) taken inputs

module _ (r : Relayed) (left : r.left.items ≡ []) where
  counts-are : (sender : ℕ) (unsent input : Vec Message Global) → unsent.items ≡ [] → count_by (λ t. t.message.sender == sender) r.delivered.items ≡ length input.items
      → counts_of r sender unsent ≡ record { delivered = length input.items; left = 0; unsent = 0 }
  counts-are sender unsent input none taken = rw (none, taken, left) refl

  counts-all : (sender : ℕ) (unsent inputs : List (Vec Message Global)) → length unsent ≡ length inputs → Every (λ l. l.items ≡ []) unsent
      → AreTaken sender r.delivered.items inputs → counts_from r sender unsent ≡ all_delivered inputs
  counts-all sender [] [] long none taken = refl
  counts-all sender [] (l ∷ ls) long none taken = absurd (omega arith)
  counts-all sender (u ∷ us) [] long none taken = absurd (omega arith)
  counts-all sender (u ∷ us) (l ∷ ls) long none taken =
      rw (counts-are sender u l none.0 taken.0, counts-all (sender + 1) us ls (omega arith) none.1 taken.1) refl

  pub audit-all : (inputs : List (Vec Message Global)) → length r.unsent.items ≡ length inputs → Every (λ l. l.items ≡ []) r.unsent.items
      → AreTaken 0 r.delivered.items inputs → audit_text r ≡ full_audit inputs
  audit-all inputs long none taken =
      ap (λ counts. sender_lines 0 counts ++ counts_line (codes "total") (total counts)) (counts-all 0 r.unsent.items inputs long none taken)

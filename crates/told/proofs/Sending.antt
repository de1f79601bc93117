-- Writing the rest of some bytes.
use Rattle.std.proofs.Common.{◌≡◌, ℕ, ◌+◌, ◌-◌, ◌≤◌, List, ◌++◌, length, take, drop, Option, sym, ap, subst, ◌∙◌, arith}
use Rattle.std.proofs.lemmas.List.{length-drop, take-append-drop, drop-take, take-take, drop-drop}
use Rattle.std.proofs.KnownBytes.{Appends-trans, Appends-kept}
use Rattle.std.specs.Io.KnownBytes.{Appends, Keeps}

-- what went out, and what is still to go
pub record Sent (old new : Option (List ℕ)) (bytes rest : List ℕ) : Type 0 where
  pub left : rest ≡ drop (length bytes - length rest) bytes
  pub within : length rest ≤ length bytes
  pub out : Appends old new (take (length bytes - length rest) bytes)

pub Sent-more : (old mid new : Option (List ℕ)) (bytes rest next : List ℕ) (n : ℕ) → Sent old mid bytes rest → n ≤ length rest → Appends mid new (take n rest) → next ≡ drop n rest → Sent old new bytes next
Sent-more old mid new bytes rest next n sent few more next-is =
    let gone = length bytes - length rest in
    let rest-length : length rest ≡ length bytes - gone = omega (arith, sent.within) in
    let next-length : length next + n ≡ length rest = omega (arith, ap length next-is, length-drop n rest) in
    let now-gone : length bytes - length next ≡ gone + n = omega (arith, sent.within) in
    let both : take (gone + n) bytes ≡ take gone bytes ++ take n rest =
    sym (take-append-drop gone (take (gone + n) bytes))
    ∙ ap (λ (front : List ℕ). front ++ drop gone (take (gone + n) bytes)) (take-take gone (gone + n) bytes (omega arith))
    ∙ ap (λ (back : List ℕ). take gone bytes ++ back) (drop-take gone n bytes ∙ ap (take n) (sym sent.left)) in
    record {
      left = next-is ∙ ap (drop n) sent.left ∙ drop-drop n gone bytes ∙ ap (λ k. drop k bytes) (sym now-gone);
      within = omega (arith, sent.within);
      out = rw (now-gone, both) (Appends-trans old mid new (take gone bytes) (take n rest) sent.out more);
    }

pub Sent-same : (old mid new : Option (List ℕ)) (bytes rest next : List ℕ) → Sent old mid bytes rest → Keeps mid new → next ≡ rest → Sent old new bytes next
Sent-same old mid new bytes rest next sent keeps next-is =
    subst (λ (r : List ℕ). Sent old new bytes r) (sym next-is) (record {
      left = sent.left;
      within = sent.within;
      out = Appends-kept old mid new (take (length bytes - length rest) bytes) sent.out keeps;
    })

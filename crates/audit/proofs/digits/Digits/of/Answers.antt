use Rattle.std.proofs.Common.{◌≡◌, ℕ, zero, suc, ◌+◌, ◌-◌, ◌/◌, ◌%◌, ◌^◌, ◌<◌, List, [], ◌∷◌, ◌++◌, length, drop, decimal, slice_set, sym, ap, subst, ◌∙◌, append_assoc, arith}
use Rattle.std.proofs.lemmas.List.{drop-set}
use Rattle.std.proofs.lemmas.Grind.{drop-set_at}
use Rattle.std.proofs.lemmas.Fmt.{decimal_step_wide, decimal_digit}
use Rattle.std.proofs.Math.ListN.{length-set}
use Rattle.audit.proofs.digits.Digits.of.Goals as goal

fewer : (rest start : ℕ) → 9 < rest → rest < 10 ^ (start + 1) → (0 < start) × (rest / 10 < 10 ^ (start - 1 + 1))
fewer rest zero more h = absurd (omega arith)
fewer rest (suc s) more h =
    let same : suc s - 1 + 1 ≡ suc s = omega arith in
    let next : suc s + 1 ≡ suc (suc s) = omega arith in
    let small : rest < 10 ^ suc (suc s) = subst (λ k. rest < 10 ^ k) next h in
    (omega arith, rw same (omega arith))

next : (n rest start : ℕ) (bytes : List ℕ) → 9 < rest → rest < 2 ^ 128 → 0 < start → start < length bytes → decimal rest ++ drop (start + 1) bytes ≡ decimal n
    → decimal (rest / 10) ++ drop (start - 1 + 1) (slice_set bytes start (48 + rest % 10)) ≡ decimal n
next n rest start bytes more small some within so_far =
    let same : start - 1 + 1 ≡ start = omega arith in
    let step = decimal_step_wide rest (omega arith) (omega arith) in
    ap (λ d. decimal (rest / 10) ++ d) (drop-set_at bytes start (start - 1 + 1) (48 + rest % 10) same within)
    ∙ sym (append_assoc (decimal (rest / 10)) ((48 + rest % 10) ∷ []) (drop (start + 1) bytes)) ∙ ap (λ d. d ++ drop (start + 1) bytes) (sym step) ∙ so_far

pub loop-rest-preserved : goal.loop-rest-preserved
loop-rest-preserved c =
    let l = c.loop-rest in
    let (within, long, small, so_far) = l.invariant in
    let less = fewer l.rest l.start c.loop-rest-test.true small in
    (omega arith, length-set l.bytes l.start _ ∙ long, less.1, next _ l.rest l.start l.bytes c.loop-rest-test.true (omega arith) less.0 (omega arith) so_far)

pub returns : goal.returns
returns c =
    let l = c.loop-rest in
    let (within, long, small, so_far) = l.invariant in
    drop-set l.bytes l.start (48 + l.rest) (omega arith) ∙ ap (λ d. d ++ drop (l.start + 1) l.bytes) (sym (decimal_digit l.rest (omega arith))) ∙ so_far

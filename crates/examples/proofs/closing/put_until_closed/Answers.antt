use Rattle.std.proofs.Common.{◌≡◌, ℕ, zero, suc, ◌+◌, [], ◌∷◌, ◌++◌, ap, sym, ◌∙◌, append_assoc, arith}
use Rattle.std.specs.List.{range_with_len}
use Rattle.bounded_model.specs.Gathers.{did, put_of}
use Rattle.examples.proofs.closing.put_until_closed.Goals as goal

more : (a n j : ℕ) → a + n ≡ j → range_with_len a (suc n) ≡ range_with_len a n ++ j ∷ []
more a zero j e = let same : a ≡ j = omega arith in ap (λ k. k ∷ []) same
more a (suc n) j e = ap (λ l. a ∷ l) (more (a + 1) n j (omega arith))

one-more : (n : ℕ) → range_with_len 0 (n + 1) ≡ range_with_len 0 n ++ n ∷ []
one-more n = let on : n + 1 ≡ suc n = omega arith in ap (range_with_len 0) on ∙ more 0 n n (omega arith)

pub loop-count-preserved : goal.loop-count-preserved
loop-count-preserved g c =
    let before = did put_of (g.C.Container.pass c.args.by) in
    let value = c.loop-count.count in
    let put = rw c.if-not-is_put.false at c.put_one-back.ensures.puts in
    (c.put_one-back.ensures.of, put ∙ ap (λ l. l ++ value ∷ []) c.loop-count.invariant.1 ∙ append_assoc before (range_with_len 0 value) (value ∷ []) ∙ ap (λ l. before ++ l) (sym (one-more value)))

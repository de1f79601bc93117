-- How many steps a part of a range has made.
use Rattle.std.proofs.lemmas.Bool.{false≢true}
use Rattle.std.proofs.Common.{◌≡◌, ℕ, suc, ◌+◌, ◌*◌, ◌<◌, ◌≤◌, ◌⊎◌, inl, inr, Bool, true, false, refl, sym, ap, ◌∙◌, subst, arith}
use Rattle.std.proofs.Math.Nat.{mul-add, mul-le-mul_right, suc-mul}
use Rattle.std.specs.Prelude.{Result, Ok, Err}
use Rattle.running.specs.declared.passes.Pass as runs
use Rattle.treiber_stack.specs.Prelude.{Again, Line, PassView, RangeRefused, Ranged, pass_in}
use Rattle.treiber_stack.specs.code.RangeTrying.{MadeAtMost, PutSoMany, RangeEnds, RangeOp, StoppedAt, gives_back}
use Rattle.treiber_stack.specs.Bulk.{RangeSteps}
use Rattle.treiber_stack.specs.Calls.{Pass}
use Rattle.treiber_stack.specs.code.Steps.{as_pass}

true_or_false : (b : Bool) → (b ≡ true) ⊎ (b ≡ false)
true_or_false true = inl refl
true_or_false false = inr refl

module _ {T : Type 0} (n : ℕ) (op : RangeOp T) where
  -- a part of op has come to a range that is newly on its way back, or has nodes more
  abbrev More : RangeOp T → Type 0
  More range = ((gives_back range.at.at ≡ true) × (more : ℕ) × (more + op.at.held.count ≡ range.at.held.count) × ((pass_in range.pass).steps ≤ (pass_in op.pass).steps + (more * (n + 1) + n + range.at.held.count)))
      ⊎ ((gives_back range.at.at ≡ false) × (more : ℕ) × (suc more + op.at.held.count ≡ range.at.held.count) × ((pass_in range.pass).steps ≤ (pass_in op.pass).steps + suc more * (n + 1)))

  -- it has made so many rounds, each up to a stop
  abbrev pub Come : ℕ → RangeOp T → Type 0
  Come round range = ((round ≡ 0) × (range ≡ op)) ⊎ ((gives_back op.at.at ≡ false) × More range)

  module _ (round : ℕ) (range : RangeOp T) where
    -- one round more
    pub comes : Come round range → (q : runs.Pass T (Line T)) → (pass_in q).steps ≤ (pass_in range.pass).steps + n → (next : RangeOp T) → StoppedAt range.at.at range.at.held.count q (Again next) → Come (round + 1) next
    comes come q few next s = by_side (true_or_false (gives_back next.at.at)) come
      where
        mul : (k : ℕ) → suc k * (n + 1) ≡ k * (n + 1) + (n + 1)
        mul k = suc-mul k (n + 1)

        by_side : (gives_back next.at.at ≡ true) ⊎ (gives_back next.at.at ≡ false) → Come round range → Come (round + 1) next
        by_side (inl back) (inl e) =
            let f = s.2 back in
            let same : range.at.held.count ≡ op.at.held.count = ap (λ (x : RangeOp T). x.at.held.count) e.1 in
            let begun : (pass_in range.pass).steps ≡ (pass_in op.pass).steps = ap (λ (x : RangeOp T). (pass_in x.pass).steps) e.1 in
            let count = f.0 in
            let made = f.1 in
            inr (subst (λ (x : RangeOp T). gives_back x.at.at ≡ false) e.1 s.0, inl (back, 0, omega (arith, same, count), omega (arith, begun, made, few, count)))
        by_side (inl back) (inr (nb, inl b)) = absurd (false≢true (sym s.0 ∙ b.0))
        by_side (inl back) (inr (nb, inr (f, more, same, most))) =
            let g = s.2 back in
            let count = g.0 in
            let made = g.1 in
            inr (nb, inl (back, suc more, omega (arith, same, count), omega (arith, made, few, most, count)))
        by_side (inr on) (inl e) =
            let f = s.1 on in
            let same : range.at.held.count ≡ op.at.held.count = ap (λ (x : RangeOp T). x.at.held.count) e.1 in
            let begun : (pass_in range.pass).steps ≡ (pass_in op.pass).steps = ap (λ (x : RangeOp T). (pass_in x.pass).steps) e.1 in
            let count = f.0 in
            let made = f.1 in
            let one = mul 0 in
            inr (subst (λ (x : RangeOp T). gives_back x.at.at ≡ false) e.1 s.0, inr (on, 0, omega (arith, same, count), omega (arith, begun, made, few, one)))
        by_side (inr on) (inr (nb, inl b)) = absurd (false≢true (sym s.0 ∙ b.0))
        by_side (inr on) (inr (nb, inr (f, more, same, most))) =
            let g = s.1 on in
            let count = g.0 in
            let made = g.1 in
            let one = mul (suc more) in
            inr (nb, inr (on, suc more, omega (arith, same, count), omega (arith, made, few, most, one)))

    -- it goes on with the same nodes
    pub goes : Come round range → (next : RangeOp T) → gives_back next.at.at ≡ gives_back range.at.at → next.at.held.count ≡ range.at.held.count → (pass_in next.pass).steps ≡ (pass_in range.pass).steps + n → RangeSteps n op (Again next)
    goes (inl e) next side count made =
        let same : range.at.held.count ≡ op.at.held.count = ap (λ (x : RangeOp T). x.at.held.count) e.1 in
        let begun : (pass_in range.pass).steps ≡ (pass_in op.pass).steps = ap (λ (x : RangeOp T). (pass_in x.pass).steps) e.1 in
        λ _. (0, omega (arith, same, count), omega (arith, begun, made), λ _. omega (arith, begun, made))
    goes (inr (nb, inl b)) next side count made = λ same. absurd (false≢true (sym nb ∙ sym same ∙ side ∙ b.0))
    goes (inr (nb, inr (f, more, same, most))) next side count made = λ _. (suc more, omega (arith, same, count), omega (arith, most, made), λ z. absurd (omega arith))

    -- its rounds are over
    pub over : 0 < round → Come round range → RangeSteps n op (Again range)
    over some (inl e) = let none = e.0 in absurd (omega (arith, some, none))
    over some (inr (nb, inl b)) = λ same. absurd (false≢true (sym nb ∙ sym same ∙ b.0))
    over some (inr (nb, inr (f, more, same, most))) = λ _. (suc more, same, omega (arith, most), λ z. absurd (omega arith))

    -- or it has ended
    pub ends : Come round range → (q : runs.Pass T (Line T)) → (pass_in q).steps ≤ (pass_in range.pass).steps + n → (back : Pass T) → back.pass ≡ q → (answer : Result Ranged RangeRefused) → PutSoMany range.at.at range.at.held.count answer → RangeEnds n op back answer
    ends come q few back is answer put = subst (λ (p : runs.Pass T (Line T)). RangeEnds n op (as_pass p) answer) (sym is) (by_answer come answer put)
      where
        by_answer : Come round range → (answer : Result Ranged RangeRefused) → PutSoMany range.at.at range.at.held.count answer → RangeEnds n op (as_pass q) answer
        by_answer (inl e) (Ok r) put =
            let same : range.at.held.count ≡ op.at.held.count = ap (λ (x : RangeOp T). x.at.held.count) e.1 in
            let begun : (pass_in range.pass).steps ≡ (pass_in op.pass).steps = ap (λ (x : RangeOp T). (pass_in x.pass).steps) e.1 in
            let count = put.1 in
            (0, omega (arith, same, count), omega (arith, begun, few))
        by_answer (inr (nb, inl b)) (Ok r) put = absurd (false≢true (sym put.0 ∙ b.0))
        by_answer (inr (nb, inr (f, more, same, most))) (Ok r) put = let count = put.1 in (suc more, omega (arith, same, count), omega (arith, most, few))
        by_answer (inl e) (Err why) put = λ _. let begun : (pass_in range.pass).steps ≡ (pass_in op.pass).steps = ap (λ (x : RangeOp T). (pass_in x.pass).steps) e.1 in omega (arith, begun, few)
        by_answer (inr m) (Err why) put = λ back. absurd (false≢true (sym m.0 ∙ back))

    -- and whatever it comes to after n steps at most, of a range of so many values
    pub most : (len : ℕ) → Come round range → range.at.held.count ≤ len → (w : PassView T) → w.steps ≤ (pass_in range.pass).steps + n → MadeAtMost n len (pass_in op.pass) w
    most len come low w few = by_way come
      where
        nodes : (more : ℕ) → more ≤ len → (more * (n + 1) + len ≤ len * (n + 2))
        nodes more le =
            let two : n + 2 ≡ (n + 1) + 1 = omega arith in
            let all : len * (n + 2) ≡ len * (n + 1) + len * 1 = ap (λ (k : ℕ). len * k) two ∙ mul-add len (n + 1) 1 in
            let each = mul-le-mul_right {m = more} {n = len} (n + 1) le in
            omega (arith, all, each)

        by_way : Come round range → MadeAtMost n len (pass_in op.pass) w
        by_way (inl e) = let begun : (pass_in range.pass).steps ≡ (pass_in op.pass).steps = ap (λ (x : RangeOp T). (pass_in x.pass).steps) e.1 in omega (arith, begun, few)
        by_way (inr (nb, inl (back, more, same, made))) = omega (arith, made, few, low, nodes more (omega (arith, same, low)))
        by_way (inr (nb, inr (f, more, same, made))) = omega (arith, made, few, nodes (suc more) (omega (arith, same, low)))

use Rattle.std.proofs.Common.{◌≡◌, ℕ, ◌+◌, ◌-◌, List, length, take, drop, Some, sym, ap, ◌∙◌, arith}
use Rattle.std.proofs.lemmas.List.{length-drop, take_all}
use Rattle.script.proofs.Cuts.{no_place-no_cut, place-is-cut}
use Rattle.script.proofs.lines.line_and_rest.Goals as goal

pub returns-in_err-at : goal.returns-in_err-at
returns-in_err-at c = rw c.from_residual.ensures (sym (no_place-no_cut 10 c.args.text.now (sym c.in_err-at.ensures.first)))

pub returns : goal.returns
returns c =
    let text = c.args.text.now in
    let at = c.in_ok-at.at in
    let back : take (length text - (at + 1)) (drop (at + 1) text) ≡ drop (at + 1) text =
    take_all (length text - (at + 1)) (drop (at + 1) text) (omega (arith, length-drop (at + 1) text)) in
    ap (λ (rest : List ℕ). Some (take at text, rest)) back ∙ sym (place-is-cut 10 text at (sym c.in_ok-at.ensures.first))

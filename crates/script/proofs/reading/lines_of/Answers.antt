use Rattle.std.proofs.Common.{◌≡◌, ℕ, ◌+◌, Err, sym, ap, ◌∙◌, arith, inr, length, ◌<◌}
use Rattle.script.specs.declared.fault.ScriptFault.TheVariants.{BadLine}
use Rattle.script.specs.Reading.{numbered}
use Rattle.script.proofs.Cuts.{shorter_cut}
use Rattle.script.proofs.Splitting.{Progress-start, Progress-more, Progress-end, Progress-wrong}
use Rattle.script.proofs.reading.lines_of.Goals as goal

pub loop-line-init : goal.loop-line-init
loop-line-init c = rw c.new-lines.ensures.items (Progress-start c.args.order c.args.text.now c.requires.ended)

pub loop-line-smaller : goal.loop-line-smaller
loop-line-smaller c =
    let shorter = shorter_cut 10 c.loop-line.rest.now c.in-Some.line.now c.in-Some.after.now (sym c.in-Some.ensures) in
    let P : length c.in-Some.after.now < length c.loop-line.rest.now = omega arith in P

pub loop-line-preserved : goal.loop-line-preserved
loop-line-preserved c = rw c.in_ok-push_back.ensures.items (Progress-more c.args.order c.args.text.now c.loop-line.rest.now c.loop-line.lines.items c.in-Some.line.now c.in-Some.after.now _ c.loop-line.invariant (sym c.in-Some.ensures) (sym c.in-Some-line_before.ensures))

pub returns-in_default-line_before : goal.returns-in_default-line_before
returns-in_default-line_before c =
    let wrong = Progress-wrong c.args.order c.args.text.now c.loop-line.rest.now c.loop-line.lines.items c.in-Some.line.now c.in-Some.after.now c.loop-line.invariant (sym c.in-Some.ensures) (sym c.in_default-line_before.ensures) in
    let count : length c.loop-line.lines.items ≡ c.len.result = omega arith in
    inr (ap numbered wrong ∙ ap (λ (n : ℕ). Err (BadLine (n + 2))) count)

pub returns : goal.returns
returns c = ap numbered (Progress-end c.args.order c.args.text.now c.loop-line.rest.now c.loop-line.lines.items c.loop-line.invariant (sym c.in_default.ensures))

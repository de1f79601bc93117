use Rattle.std.proofs.Common.{rules, ◌<◌, length, map, sym, arith}
use Rattle.std.specs.Prelude.{Some}
use Rattle.script.specs.Words.{words}
use Rattle.script.proofs.Cuts.{shorter_cut}
use Rattle.script.proofs.Spaced.{places_more, places_last}
use Rattle.script.proofs.value.places_of.Goals as goal

pub loop-word-smaller : goal.loop-word-smaller
loop-word-smaller c =
    let shorter = shorter_cut 32 c.loop-word.rest.now c.in-Some.word.now c.in-Some.after.now (sym c.in-Some.ensures) in
    let P : length c.in-Some.after.now < length c.loop-word.rest.now = omega arith in P

pub loop-word-preserved : goal.loop-word-preserved
loop-word-preserved c = record {
  told = rw c.in_ok-push.ensures.items (places_more c.loop-word.rest.now c.in-Some.word.now c.in-Some.after.now c.loop-word.places.items (map (λ value. Some value) (words c.args.text.now)) (sym c.in-Some.ensures) c.loop-word.invariant.told);
  text = search rules;
}

pub returns : goal.returns
returns c = rw c.in_ok-push-2.ensures.items (places_last c.loop-word.rest.now c.loop-word.places.items (map (λ value. Some value) (words c.args.text.now)) (sym c.in_default.ensures) c.loop-word.invariant.told)

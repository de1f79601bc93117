use Rattle.std.proofs.Common.{◌≡◌, ◌≤◌}
use Rattle.bounded_model.specs.declared.answers.Stepped.TheVariants.{Again}
use Rattle.bounded_model.specs.Stepping.{no_step}
use Rattle.player.specs.Shows.{reading_of}
use Rattle.player.specs.Plays.{steps_since}
use Rattle.player.specs.Traces.{StepLines, Traces}
use Rattle.player.proofs.acts.make_call.Given as goal

-- the same call has made some steps, which were counted and traced
abbrev pub invariant-loop : goal.invariant-loop
invariant-loop g l =
    let r = reading_of g.C.Container g.C.Stepwise l.fn.container in
    let now = r.made l.operation in
    record {
      can : (goal.iterator-loop g).can_next l.iterator';
      finite : (goal.iterator-loop g).is_finite l.iterator';
      making : r.is_making l.fn.command l.operation;
      begun : now.begun ≡ r.pass l.fn.by;
      counted : l.made ≡ steps_since now.begun now.now;
      later : now.begun.steps ≤ now.now.steps;
      traced : Traces l.fn.trace l.trace (λ lines. (first : g.row.C-Op.Denot) × r.is_making l.fn.command first × (r.made first ≡ no_step (r.pass l.fn.by)) × StepLines r g.C.Named.is_step l.fn.trace.pass l.fn.command (Again first) lines (Again l.operation));
    }

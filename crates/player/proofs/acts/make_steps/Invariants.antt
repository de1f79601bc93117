use Rattle.std.proofs.Common.{◌≡◌, ℕ, ◌≤◌, ◌-◌, List}
use Rattle.bounded_model.specs.declared.commands.Command.{Command}
use Rattle.bounded_model.specs.declared.answers.Stepped.TheVariants.{Again}
use Rattle.player.specs.Shows.{reading_of}
use Rattle.player.specs.Plays.{MakesSteps}
use Rattle.player.specs.Traces.{IsCounted, StepLines, Traces}
use Rattle.player.proofs.acts.make_steps.Given as goal

-- the same call has made so many steps more
abbrev pub invariant-loop-made : goal.invariant-loop-made
invariant-loop-made g l =
    let r = reading_of g.C.Container g.C.Stepwise l.fn.container in
    record {
      few : l.made ≤ l.fn.count;
      some : (call : Command (List ℕ)) × r.is_making call l.operation;
      same : (call : Command (List ℕ)) → r.is_making call l.fn.begun.operation → r.is_making call l.operation;
      begun : (r.made l.operation).begun ≡ (r.made l.fn.begun.operation).begun;
      makes : MakesSteps l.made (r.made l.fn.begun.operation).now (r.made l.operation).now;
      traced : IsCounted r l.fn.begun → Traces l.fn.trace l.trace (λ lines. (call : Command (List ℕ)) → r.is_making call l.fn.begun.operation → StepLines r g.C.Named.is_step l.fn.trace.pass call (Again l.fn.begun.operation) lines (Again l.operation));
    }

abbrev pub decreases-loop-made : goal.decreases-loop-made
decreases-loop-made g l = l.fn.count - l.made

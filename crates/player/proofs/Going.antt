-- A line of a script more, and what it adds to the trace.
use Rattle.std.proofs.Common.{◌≡◌, ℕ, List, ◌∷◌, ◌++◌, refl, sym, subst, Option, Some, None}
use Rattle.std.specs.Prelude.{codes}
use Rattle.script.specs.declared.answer.Answer.{Answer}
use Rattle.script.specs.declared.line.Act.{Act}
use Rattle.script.specs.declared.line.Line.{Line}
use Rattle.script.specs.declared.line.Line.TheVariants.{By}
use Rattle.script.specs.declared.line.PassName.{PassName}
use Rattle.script.specs.AnswerTexts.{answer_text}
use Rattle.step_names.specs.declared.step_name.StepName.{StepName}
use Rattle.player.specs.declared.stage.Stage.{Stage}
use Rattle.player.specs.declared.trace.Trace.{Trace}
use Rattle.player.specs.Plays.{World}
use Rattle.player.specs.Shows.{IsOn, Reading}
use Rattle.player.specs.Traces.{ActsTraced, Adds, Traces, lines_in}
use Rattle.player.proofs.Telling.{TracedTold, traced_more}
use Rattle.player.proofs.Tracing.{adds_more}

pub lines_same : (a b : Trace) → a.lines ≡ b.lines → lines_in a ≡ lines_in b
lines_same a b same = rw same refl

module _ {R P O : Type 0} (r : Reading R P O) (is_step : O → StepName → Type 0) where
  -- if no trace is kept, there is nothing to show
  pub play_on : (first : World) (whole all : List Line) (name : PassName) (act : Act) (rest : List Line) (written new : List ℕ) (reply : Answer) (stage after : Stage R P O) (old : Option (List ℕ)) (now turned next : Trace) → all ≡ By name act ∷ rest → lines_in turned ≡ lines_in now → turned.pass ≡ name
      → Adds old (lines_in now) (λ lines. (world : World) × IsOn r stage world × TracedTold r is_step first whole world stage.places.of.items all written lines)
      → ((world : World) → IsOn r stage world → Traces turned next (λ lines. (w : World) × IsOn r after w × ActsTraced r is_step world stage.places.of.items turned.pass act reply lines w after.places.of.items))
      → new ≡ written ++ (answer_text reply ++ codes "\n")
      → Adds old (lines_in next) (λ lines. (world : World) × IsOn r after world × TracedTold r is_step first whole world after.places.of.items rest new lines)
  play_on first whole all name act rest written new reply stage after None now turned next is same turns so_far acts wrote = tt
  play_on first whole all name act rest written new reply stage after (Some old) now turned next is same turns so_far acts wrote =
      let world = so_far.1.0 in
      let told : TracedTold r is_step first whole world stage.places.of.items (By name act ∷ rest) written so_far.0 = rw (sym is) so_far.1.2 in
      let adds = rw same at (acts world so_far.1.1).lines in
      adds_more (Some old) (lines_in now) (lines_in next) (λ xs. xs ≡ so_far.0) _ _ (so_far.0, refl, so_far.2) adds
      (λ xs ys first_is did.
      let did_it = subst (λ (by : PassName). ActsTraced r is_step world stage.places.of.items by act reply ys did.0 after.places.of.items) turns did.2 in
      rw first_is (did.0, did.1, traced_more r is_step first whole world did.0 stage.places.of.items after.places.of.items name act rest written new so_far.0 ys reply told did.1.names did_it wrote))

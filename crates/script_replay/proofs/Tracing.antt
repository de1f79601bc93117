-- The trace of a script that was read, and what went out of it.
use Rattle.std.proofs.Common.{◌≡◌, ℕ, List, [], Option, Some, None, refl, subst, ◌∙◌, map, unwrap_or}
use Rattle.std.specs.Prelude.{IfSome}
use Rattle.std.specs.List.{concat}
use Rattle.std.specs.Io.KnownBytes.{Appends}
use Rattle.bounded_model.specs.declared.views.RootView.{RootView}
use Rattle.bounded_model.specs.Laws.{fresh}
use Rattle.step_names.specs.declared.step_name.StepName.{StepName}
use Rattle.script.specs.AnswerTexts.{answer_text}
use Rattle.script.specs.declared.answer.Answer.{Answer}
use Rattle.script.specs.declared.line.Line.{Line}
use Rattle.script.specs.Script.{Head, IsScript, text_of}
use Rattle.script.proofs.Laws.{same_script}
use Rattle.player.specs.Plays.{start}
use Rattle.player.specs.Shows.{Reading}
use Rattle.player.specs.Traces.{Adds, PlaysTraced, nothing_held}
use Rattle.player.proofs.Tracing.{adds_as}
use Rattle.script_replay.specs.Outcome.{IsOutputFor}
use Rattle.told.specs.Writing.{WentOut}
use Rattle.told.specs.declared.writing.Told.{Told}
use Rattle.script_replay.specs.Traced.{IsPlayedOn, IsTraceFor, IsTracedOf, WroteTraced}
use Rattle.script_replay.proofs.Outcomes.{known_text}

-- a play from the root of a new container
pub played_on : {R P O : Type 0} (r : Reading R P O) (is_step : O → StepName → Type 0) (root : RootView (List ℕ)) (lines : List Line) (output : List ℕ) (trace : List (List ℕ)) → root ≡ fresh → ((answers : List Answer) × PlaysTraced r is_step (start root) nothing_held lines answers trace × (output ≡ text_of (map answer_text answers))) → IsPlayedOn r is_step lines output trace
played_on r is_step root lines output trace new played = (played.0, subst (λ (v : RootView (List ℕ)). PlaysTraced r is_step (start v) nothing_held lines played.0 trace) new played.1, played.2)

traced_is : (text output : List ℕ) (head : Head) (lines : List Line) (trace : List (List ℕ)) → IsScript text head lines → IsTracedOf head lines output trace → IsTraceFor text output trace
traced_is text output head lines trace is traced = λ other more also.
    let same = same_script text head other lines more is also in
    subst (λ (ls : List Line). IsTracedOf other ls output trace) same.1 (subst (λ (h : Head). IsTracedOf h lines output trace) same.0 traced)

pub read_traced : (known : Option (List ℕ)) (read text output : List ℕ) (head : Head) (lines : List Line) (old new : Option (List ℕ)) → IfSome known (λ bytes. read ≡ bytes) → text ≡ read → IsScript text head lines → Adds old new (IsTracedOf head lines output) → IfSome known (λ bytes. Adds old new (IsTraceFor bytes output))
read_traced known read text output head lines old new all same is traced =
    known_text known read text (λ bytes. Adds old new (IsTraceFor bytes output)) all same (adds_as old new _ _ traced (λ trace t. traced_is text output head lines trace is t))

text_of_some : (all : Option (List ℕ)) (lines : List (List ℕ)) → all ≡ Some (concat lines) → unwrap_or all [] ≡ concat lines
text_of_some all lines is = rw is refl

-- the trace began with no line, and its text was told
pub wrote_traced : (known old new errors_old errors_new empty_trace all : Option (List ℕ)) (output bytes told_bytes : List ℕ) (said : Told) → empty_trace ≡ Some [] → IfSome known (λ text. IsOutputFor text output) → IfSome known (λ text. Adds empty_trace all (IsTraceFor text output)) → bytes ≡ output → Appends old new bytes → told_bytes ≡ unwrap_or all [] → WentOut said errors_old errors_new told_bytes → IfSome known (λ text. WroteTraced text said old new errors_old errors_new)
wrote_traced None old new errors_old errors_new empty_trace all output bytes told_bytes said empty is traced same out text_is told = tt
wrote_traced (Some text) old new errors_old errors_new empty_trace all output bytes told_bytes said empty is traced same out text_is told =
    let trace : Adds (Some []) all (IsTraceFor text output) = rw empty at traced in
    record {
      output = output;
      trace = trace.0;
      is = is;
      traced = trace.1;
      went_out = subst (λ (bs : List ℕ). Appends old new bs) same out;
      told = subst (λ (bs : List ℕ). WentOut said errors_old errors_new bs) (text_is ∙ text_of_some all trace.0 trace.2) told;
    }

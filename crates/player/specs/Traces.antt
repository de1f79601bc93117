-- The lines of a trace, and the trace of a script that is played.
use Rattle.std.specs.Prelude.{◌≡◌, ℕ, ◌-◌, ◌≤◌, List, [], ◌∷◌, ◌++◌, codes, encode_utf8, replicate, slice_index_or, slice_set, string_bytes, unwrap_or, Option, Some, None}
use Rattle.std.specs.List.{concat}
use Rattle.std.specs.Option.{option_map}
use Rattle.std.specs.Fmt.{decimal}
use Rattle.bounded_model.specs.declared.answers.Stepped.{Stepped}
use Rattle.bounded_model.specs.declared.answers.Stepped.TheVariants.{Again, Done}
use Rattle.bounded_model.specs.declared.commands.Command.{Command}
use Rattle.bounded_model.specs.declared.commands.Reply.{Reply}
use Rattle.bounded_model.specs.declared.views.PassView.{PassView}
use Rattle.bounded_model.specs.Stepping.{no_step}
use Rattle.script.specs.declared.answer.Answer.{Answer}
use Rattle.script.specs.declared.answer.Answer.TheVariants as answer
use Rattle.script.specs.declared.line.Act.{Act}
use Rattle.script.specs.declared.line.Act.TheVariants.{Call, Step, Range, Fold, ReversedFold, Meet, Drop}
use Rattle.script.specs.declared.line.Line.{Line}
use Rattle.script.specs.declared.line.Line.TheVariants.{By, Finish}
use Rattle.script.specs.declared.line.PassName.{PassName}
use Rattle.step_names.specs.declared.step_name.Outcome.{Outcome}
use Rattle.step_names.specs.declared.step_name.StepName.{StepName}
use Rattle.step_names.specs.Names.{IsOutcome}
use Rattle.step_names.specs.Texts.{name_text, outcome_text}
use Rattle.player.specs.declared.place.Begun.{Begun}
use Rattle.player.specs.declared.place.Place.{Place}
use Rattle.player.specs.declared.place.Place.TheVariants.{Nobody, Resting, Acting}
use Rattle.player.specs.declared.trace.MadeStep.{MadeStep}
use Rattle.player.specs.declared.trace.Trace.{Trace}
use Rattle.player.specs.Plays.{Does, DoesMeet, Ends, World, steps_since}
use Rattle.player.specs.Shows.{Reading, Shows, ShowsAll, StepOf}

-- the lines that are kept, if any are
abbrev pub lines_in : Trace → Option (List ℕ)
lines_in trace = option_map string_bytes trace.lines

abbrev pub text_in : Trace → List ℕ
text_in trace = unwrap_or (lines_in trace) []

-- with one line more at the end
abbrev pub with_line : Option (List ℕ) → List ℕ → Option (List ℕ)
with_line None line = None
with_line (Some lines) line = Some (lines ++ line)

abbrev pub step_line : PassName → MadeStep → List ℕ
step_line pass made = encode_utf8 pass.0 ++ codes " " ++ decimal made.number ++ codes " " ++ name_text made.name ++ outcome_text made.outcome ++ codes "\n"

-- the line of a call that is made whole, and not by steps
abbrev pub whole_line : PassName → List ℕ → List ℕ
whole_line pass call = encode_utf8 pass.0 ++ codes " whole " ++ call ++ codes "\n"

-- ---- what a trace gains

-- if a trace is kept, it gains lines that are `traced`, in this order, and nothing else
abbrev pub Adds : Option (List ℕ) → Option (List ℕ) → (List (List ℕ) → Type 0) → Type 0
Adds None new traced = Unit {0}
Adds (Some old) new traced = (lines : List (List ℕ)) × traced lines × (new ≡ Some (old ++ concat lines))

-- the same, by steps of one pass
pub record Traces (old new : Trace) (traced : List (List ℕ) → Type 0) : Type 0 where
  pub pass : new.pass ≡ old.pass
  pub lines : Adds (lines_in old) (lines_in new) traced

-- ---- the steps of a call

module _ {R P O : Type 0} (r : Reading R P O) where
  -- the pass of a call that is under way, and of one that has ended
  abbrev pub pass_after : Stepped O P (Reply (List ℕ)) → PassView (List ℕ)
  pass_after (Again operation) = (r.made operation).now
  pass_after (Done back reply) = r.pass back

  -- how many steps its pass has made since the call was begun
  abbrev pub number_of : O → Stepped O P (Reply (List ℕ)) → ℕ
  number_of before after = steps_since (r.made before).begun (pass_after after)

  -- how many steps a call has made is what was counted
  abbrev pub IsCounted : Begun O → Type 0
  IsCounted begun = (begun.steps ≡ steps_since (r.made begun.operation).begun (r.made begun.operation).now) × ((r.made begun.operation).begun.steps ≤ (r.made begun.operation).now.steps)

module _ {R P O : Type 0} (r : Reading R P O) (is_step : O → StepName → Type 0) where
  -- the name of the step that comes next, and none of a call that has ended
  abbrev pub IsNextName : Stepped O P (Reply (List ℕ)) → Option StepName → Type 0
  IsNextName (Again operation) (Some name) = is_step operation name
  IsNextName (Done back reply) None = Unit {0}
  IsNextName stepped next = ⊥

  -- the line of a step from this operation, of this number among the steps of its call: it has the name of the operation's
  -- step before it, and an outcome that this name and that of the next step tell
  pub record StepLine (by : PassName) (number : ℕ) (before : O) (after : Stepped O P (Reply (List ℕ))) (line : List ℕ) : Type 0 where
    pub name : StepName
    pub next : Option StepName
    pub outcome : Outcome
    pub named : is_step before name
    pub named_next : IsNextName after next
    pub told : IsOutcome name next outcome
    pub is : line ≡ step_line by (record { number = number; name = name; outcome = outcome })

  -- steps of this call, each from where the one before it led: a line for each, in their order
  abbrev pub StepLines : PassName → Command (List ℕ) → Stepped O P (Reply (List ℕ)) → List (List ℕ) → Stepped O P (Reply (List ℕ)) → Type 0
  StepLines by call from [] to = to ≡ from
  StepLines by call (Again operation) (line ∷ lines) to = (after : Stepped O P (Reply (List ℕ))) × StepOf r call operation after × StepLine by (number_of r operation after) operation after line × StepLines by call after lines to
  StepLines by call (Done back reply) (line ∷ lines) to = ⊥

  -- a whole call, by steps from its begin to its end
  pub record CallLines (by : PassName) (call : Command (List ℕ)) (pass back : P) (reply : Reply (List ℕ)) (lines : List (List ℕ)) : Type 0 where
    pub operation : O
    pub making : r.is_making call operation
    pub begun : r.made operation ≡ no_step (r.pass pass)
    pub steps : StepLines by call (Again operation) lines (Done back reply)

  -- ---- one line of one pass

  -- for a pass between its calls: ranges and folds are made whole
  abbrev pub RestingLines : PassName → P → Act → Answer → List (List ℕ) → Place P O → Type 0
  RestingLines by pass (Call call) (answer.Call reply) lines (Resting back) = CallLines by call pass back reply lines
  RestingLines by pass (Range values) said lines after = lines ≡ whole_line by (codes "range") ∷ []
  RestingLines by pass Fold said lines after = lines ≡ whole_line by (codes "fold") ∷ []
  RestingLines by pass ReversedFold said lines after = lines ≡ whole_line by (codes "rfold") ∷ []
  RestingLines by pass act said lines after = lines ≡ []

  -- for a pass in the middle of a call: it keeps its operation, unless it makes steps or is dropped
  abbrev pub ActingLines : PassName → Command (List ℕ) → Begun O → Act → Answer → List (List ℕ) → Place P O → Type 0
  ActingLines by call begun (Step count) (answer.Again told) lines (Acting after) = StepLines by call (Again begun.operation) lines (Again after.operation)
  ActingLines by call begun (Step count) (answer.Ended reply told) lines (Resting back) = StepLines by call (Again begun.operation) lines (Done back reply)
  ActingLines by call begun (Step count) said lines after = ⊥
  ActingLines by call begun Drop said lines after = (lines ≡ []) × (after ≡ Nobody)
  ActingLines by call begun act said lines after = (lines ≡ []) × (after ≡ Acting begun)

  -- for whatever the letter names, once it was looked for
  abbrev pub PlaceLines : PassName → Place P O → Act → Answer → List (List ℕ) → Place P O → Type 0
  PlaceLines by Nobody act said lines after = lines ≡ []
  PlaceLines by (Resting pass) act said lines after = RestingLines by pass act said lines after
  PlaceLines by (Acting begun) act said lines after = (call : Command (List ℕ)) → r.is_making call begun.operation → ActingLines by call begun act said lines after

-- ---- one line

module _ {P O : Type 0} where
  abbrev pub held_by : List (Place P O) → ℕ → Place P O
  held_by held letter = slice_index_or held (letter - 97) Nobody

  -- a letter that names somebody is found as it was
  abbrev pub IsFound : Place P O → Place P O → Type 0
  IsFound Nobody found = Unit {0}
  IsFound place found = found ≡ place

  -- a call under way stays where it was
  abbrev pub IsKept : Place P O → Place P O → Type 0
  IsKept (Acting begun) after = after ≡ Acting begun
  IsKept place after = Unit {0}

  abbrev pub AreKept : List (Place P O) → List (Place P O) → Type 0
  AreKept [] [] = Unit {0}
  AreKept (place ∷ places) (after ∷ more) = IsKept place after × AreKept places more
  AreKept places after = ⊥

-- a line of one pass, with what the letters hold before it and after it, and the lines that the trace gains
pub record DoesTraced {R P O : Type 0} (r : Reading R P O) (is_step : O → StepName → Type 0) (old : World) (held : List (Place P O)) (by : PassName) (act : Act) (said : Answer) (lines : List (List ℕ)) (new : World) (holds : List (Place P O)) : Type 0 where
  pub does : Does r.shape old by.0 act said new
  pub found : Place P O
  pub after : Place P O
  pub is_found : IsFound (held_by held by.0) found
  pub found_shows : Shows r found does.found
  pub after_shows : Shows r after does.after
  pub traced : PlaceLines r is_step by found act said lines after
  pub places : holds ≡ slice_set held (by.0 - 97) after

-- two passes meet, which is no step
pub record MeetTraced {R P O : Type 0} (r : Reading R P O) (old : World) (held : List (Place P O)) (letter other : ℕ) (said : Answer) (lines : List (List ℕ)) (new : World) (holds : List (Place P O)) : Type 0 where
  pub does : DoesMeet r.shape old letter other said new
  pub none : lines ≡ []
  pub kept : AreKept held holds

module _ {R P O : Type 0} (r : Reading R P O) (is_step : O → StepName → Type 0) where
  abbrev pub ActsTraced : World → List (Place P O) → PassName → Act → Answer → List (List ℕ) → World → List (Place P O) → Type 0
  ActsTraced old held by (Meet other) said lines new holds = MeetTraced r old held by.0 other.0 said lines new holds
  ActsTraced old held by act said lines new holds = DoesTraced r is_step old held by act said lines new holds

  -- ---- all lines

  -- as `Plays`, with the lines of the trace: those of each line of the script, one after another
  abbrev pub PlaysTraced : World → List (Place P O) → List Line → List Answer → List (List ℕ) → Type 0
  PlaysTraced world held [] [] trace = trace ≡ []
  PlaysTraced world held (Finish ∷ []) (answer.Rest values ∷ []) trace = Ends r.shape world values × (trace ≡ [])
  PlaysTraced world held (By by act ∷ lines) (said ∷ more) trace = (next : World) × (holds : List (Place P O)) × (made : List (List ℕ)) × (rest : List (List ℕ)) × ShowsAll r holds next.names × ActsTraced world held by act said made next holds × (trace ≡ made ++ rest) × PlaysTraced next holds lines more rest
  PlaysTraced world held lines said trace = ⊥

-- no letter holds anything yet
abbrev pub nothing_held : {P O : Type 0} → List (Place P O)
nothing_held = replicate 26 Nobody

-- The lines of the steps of a call.
use Rattle.std.proofs.Common.{◌≡◌, ℕ, zero, suc, ◌+◌, ◌≤◌, ◌-◌, ◌^◌, min, List, [], ◌∷◌, ◌++◌, refl, sym, subst, arith, slice_set, slice_index_or}
use Rattle.bounded_model.specs.declared.answers.Stepped.{Stepped}
use Rattle.bounded_model.specs.declared.answers.Stepped.TheVariants.{Again, Done}
use Rattle.bounded_model.specs.declared.commands.Command.{Command}
use Rattle.bounded_model.specs.declared.commands.Reply.{Reply}
use Rattle.bounded_model.specs.declared.views.PassView.{PassView}
use Rattle.script.specs.declared.line.PassName.{PassName}
use Rattle.step_names.specs.declared.step_name.StepName.{StepName}
use Rattle.script.specs.declared.answer.Answer.{Answer}
use Rattle.script.specs.declared.answer.Answer.TheVariants as answer
use Rattle.script.specs.declared.line.Act.{Act}
use Rattle.script.specs.declared.line.Act.TheVariants.{Call, Begin, Step, Range, Fold, ReversedFold, Meet, Drop}
use Rattle.player.specs.declared.place.Begun.{Begun}
use Rattle.player.specs.declared.place.Place.{Place}
use Rattle.player.specs.declared.place.Place.TheVariants as place
use Rattle.player.specs.Plays.{Meaning, Nobody, Resting, Acting, World, steps_since}
use Rattle.player.specs.Shows.{Reading, Shows, StepOf}
use Rattle.player.specs.Traces.{ActingLines, ActsTraced, AreKept, DoesTraced, IsCounted, IsFound, IsKept, StepLine, StepLines, number_of}

module _ {R P O : Type 0} (r : Reading R P O) where
  pub is_counted : (begun : Begun O) (n : Meaning) → Shows r (place.Acting begun) n → IsCounted r begun
  is_counted begun Nobody shows = absurd shows
  is_counted begun (Resting v) shows = absurd shows
  is_counted begun (Acting call u) shows = rw (sym shows.1) (shows.2, shows.3)

  -- the number that was counted is that of the step
  pub number_is : (call : Command (List ℕ)) (operation : O) (after : Stepped O P (Reply (List ℕ))) (b n : PassView (List ℕ)) (told made said : ℕ) → StepOf r call operation after → (r.made operation).begun ≡ b → (r.made operation).now.steps ≡ n.steps + made → told ≡ steps_since b n → b.steps ≤ n.steps → said ≡ min (told + (made + 1)) (2 ^ 64 - 1) → said ≡ number_of r operation after
  number_is call operation (Again next) b n told made said step begun now counted few is = rw begun (omega (arith, step.1.step.steps, now, counted, few, is))
  number_is call operation (Done back reply) b n told made said step begun now counted few is = rw begun (omega (arith, step.1.steps, now, counted, few, is))

module _ {R P O : Type 0} (r : Reading R P O) (is_step : O → StepName → Type 0) where
  -- one step more, at the end
  pub step_lines_more : (by : PassName) (call : Command (List ℕ)) (from : Stepped O P (Reply (List ℕ))) (lines : List (List ℕ)) (operation : O) (after : Stepped O P (Reply (List ℕ))) (line : List ℕ) → StepLines r is_step by call from lines (Again operation) → StepOf r call operation after → StepLine r is_step by (number_of r operation after) operation after line → StepLines r is_step by call from (lines ++ line ∷ []) after
  step_lines_more by call from [] operation after line so_far step is = subst (λ (f : Stepped O P (Reply (List ℕ))). StepLines r is_step by call f (line ∷ []) after) so_far (after, step, is, refl)
  step_lines_more by call (Again first) (one ∷ lines) operation after line so_far step is = (so_far.0, so_far.1, so_far.2, step_lines_more by call so_far.0 lines operation after line so_far.3 step is)
  step_lines_more by call (Done back reply) (one ∷ lines) operation after line so_far step is = absurd so_far

  -- a step's line was added
  pub step_joined : (by turned : PassName) (call : Command (List ℕ)) (from : Stepped O P (Reply (List ℕ))) (operation : O) (after : Stepped O P (Reply (List ℕ))) (number : ℕ) (xs ys : List (List ℕ)) → turned ≡ by → number ≡ number_of r operation after → StepOf r call operation after → StepLines r is_step by call from xs (Again operation) → ((line : List ℕ) × (ys ≡ line ∷ []) × StepLine r is_step turned number operation after line) → StepLines r is_step by call from (xs ++ ys) after
  step_joined by turned call from operation after number xs ys same counted step so_far new =
      let line : StepLine r is_step by (number_of r operation after) operation after new.0 = subst (λ (n : ℕ). StepLine r is_step by n operation after new.0) counted (subst (λ (b : PassName). StepLine r is_step b number operation after new.0) same new.2) in
      rw new.1 (step_lines_more by call from xs operation after new.0 so_far step line)

  -- a call under way is left as it is by anything but steps and a drop
  pub busy_lines : (by : PassName) (call : Command (List ℕ)) (begun : Begun O) (act : Act) → ((count : ℕ) → act ≡ Step count → ⊥) → (act ≡ Drop → ⊥) → ActingLines r is_step by call begun act answer.Busy [] (place.Acting begun)
  busy_lines by call begun (Call command) no_step no_drop = (refl, refl)
  busy_lines by call begun (Begin command) no_step no_drop = (refl, refl)
  busy_lines by call begun (Step count) no_step no_drop = absurd (no_step count refl)
  busy_lines by call begun (Range values) no_step no_drop = (refl, refl)
  busy_lines by call begun Fold no_step no_drop = (refl, refl)
  busy_lines by call begun ReversedFold no_step no_drop = (refl, refl)
  busy_lines by call begun (Meet other) no_step no_drop = (refl, refl)
  busy_lines by call begun Drop no_step no_drop = absurd (no_drop refl)

  -- a line that is no meet is of one pass
  pub traced_alone : (old : World) (held : List (Place P O)) (by : PassName) (act : Act) (said : Answer) (lines : List (List ℕ)) (new : World) (holds : List (Place P O)) → ((other : PassName) → act ≡ Meet other → ⊥) → DoesTraced r is_step old held by act said lines new holds → ActsTraced r is_step old held by act said lines new holds
  traced_alone old held by (Call command) said lines new holds alone did = did
  traced_alone old held by (Begin command) said lines new holds alone did = did
  traced_alone old held by (Step count) said lines new holds alone did = did
  traced_alone old held by (Range values) said lines new holds alone did = did
  traced_alone old held by Fold said lines new holds alone did = did
  traced_alone old held by ReversedFold said lines new holds alone did = did
  traced_alone old held by (Meet other) said lines new holds alone did = absurd (alone other refl)
  traced_alone old held by Drop said lines new holds alone did = did

module _ {P O : Type 0} where
  pub kept_refl : (places : List (Place P O)) → AreKept places places
  kept_refl [] = tt
  kept_refl (place.Nobody ∷ places) = (tt, kept_refl places)
  kept_refl (place.Resting pass ∷ places) = (tt, kept_refl places)
  kept_refl (place.Acting begun ∷ places) = (refl, kept_refl places)

  kept_then : (p q s : Place P O) → IsKept p q → IsKept q s → IsKept p s
  kept_then place.Nobody q s one two = tt
  kept_then (place.Resting pass) q s one two = tt
  kept_then (place.Acting begun) q s one two = subst (λ (x : Place P O). IsKept x s) one two

  pub kept_more : (a b c : List (Place P O)) → AreKept a b → AreKept b c → AreKept a c
  kept_more [] [] [] one two = tt
  kept_more [] [] (s ∷ c) one two = absurd two
  kept_more [] (q ∷ b) c one two = absurd one
  kept_more (p ∷ a) [] c one two = absurd one
  kept_more (p ∷ a) (q ∷ b) [] one two = absurd two
  kept_more (p ∷ a) (q ∷ b) (s ∷ c) one two = (kept_then p q s one.0 two.0, kept_more a b c one.1 two.1)

  -- one place is set
  pub kept_set : (places : List (Place P O)) (i : ℕ) (after : Place P O) → IsKept (slice_index_or places i place.Nobody) after → AreKept places (slice_set places i after)
  kept_set [] i after kept = tt
  kept_set (p ∷ places) zero after kept = (kept, (kept_refl (p ∷ places)).1)
  kept_set (p ∷ places) (suc i) after kept = ((kept_refl (p ∷ places)).0, kept_set places i after kept)

  -- what was found and is kept is what was there
  pub kept_found : (p found after : Place P O) → IsFound p found → IsKept found after → IsKept p after
  kept_found place.Nobody found after same kept = tt
  kept_found (place.Resting pass) found after same kept = tt
  kept_found (place.Acting begun) found after same kept = subst (λ (x : Place P O). IsKept x after) same kept

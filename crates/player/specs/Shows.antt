-- What a stage shows: the root, and what its letters name.
use Rattle.std.specs.Prelude.{◌≡◌, ◌≤◌, ℕ, List, [], ◌∷◌}
use Rattle.bounded_model.specs.declared.answers.Stepped.{Stepped}
use Rattle.bounded_model.specs.declared.commands.Command.{Command}
use Rattle.bounded_model.specs.declared.commands.Reply.{Reply}
use Rattle.bounded_model.specs.declared.container.Container as container
use Rattle.bounded_model.specs.declared.stepwise.Stepwise as stepwise
use Rattle.bounded_model.specs.declared.views.PassView.{PassView}
use Rattle.bounded_model.specs.declared.views.RootView.{RootView}
use Rattle.bounded_model.specs.Calls.{CallGives}
use Rattle.bounded_model.specs.Machine.{Shape}
use Rattle.bounded_model.specs.Stepping.{GoesOn, MatchStepped, OneStep, Underway}
use Rattle.player.specs.declared.place.Place.{Place}
use Rattle.player.specs.declared.place.Place.TheVariants as place
use Rattle.player.specs.declared.stage.Stage.{Stage}
use Rattle.player.specs.Plays.{IsFit, Meaning, Nobody, Resting, Acting, World, Finds, named, renamed, steps_since}
use Rattle.script.specs.declared.line.Act.{Act}

-- how a container's roots, passes and operations are read
pub record Reading (R P O : Type 0) : Type 1 where
  pub shape : Shape
  pub is_root : R → Type 0
  pub root : R → RootView (List ℕ)
  pub is_pass : P → Type 0
  pub pass : P → PassView (List ℕ)
  pub is_making : Command (List ℕ) → O → Type 0
  pub made : O → Underway (List ℕ)

-- how a container's are read: by what its traits say of them
abbrev pub reading_of : {C R P N L O : Type 0} → container.Ghosts C (List ℕ) R P N L → stepwise.Ghosts C (List ℕ) O R P N L → C → Reading R P O
reading_of k s c = record {
  shape = k.shape c;
  is_root = k.is_root c;
  root = k.root;
  is_pass = k.is_pass c;
  pass = k.pass;
  is_making = s.is_making c;
  made = s.making;
}

module _ {R P O : Type 0} (r : Reading R P O) where
  -- what one step of an operation gives that makes this call: it is still under way, or it ends with the call's reply
  abbrev pub StepOf : Command (List ℕ) → O → Stepped O P (Reply (List ℕ)) → Type 0
  StepOf call operation stepped = MatchStepped stepped (λ next. r.is_making call next × GoesOn (r.made operation) (r.made next)) (λ back reply. r.is_pass back × OneStep (r.made operation).now (r.pass back) × CallGives r.shape (r.made operation).begun call (r.pass back) reply)

-- what a place of a letter holds
abbrev pub Shows : {R P O : Type 0} → Reading R P O → Place P O → Meaning → Type 0
Shows r place.Nobody Nobody = Unit {0}
Shows r (place.Resting pass) (Resting v) = r.is_pass pass × (v ≡ r.pass pass)
Shows r (place.Acting begun) (Acting call u) = r.is_making call begun.operation × (u ≡ r.made begun.operation) × (begun.steps ≡ steps_since u.begun u.now) × (u.begun.steps ≤ u.now.steps)
Shows r place name = ⊥

-- what a place holds is the container's own: a pass between its calls, or an operation that makes a call
abbrev pub Holds : {R P O : Type 0} → Reading R P O → Place P O → Type 0
Holds r place.Nobody = Unit {0}
Holds r (place.Resting pass) = r.is_pass pass
Holds r (place.Acting begun) = (call : Command (List ℕ)) × r.is_making call begun.operation

abbrev pub ShowsAll : {R P O : Type 0} → Reading R P O → List (Place P O) → List Meaning → Type 0
ShowsAll r [] [] = Unit {0}
ShowsAll r (place ∷ places) (name ∷ names) = Shows r place name × ShowsAll r places names
ShowsAll r places names = ⊥

pub record IsOn {R P O : Type 0} (r : Reading R P O) (stage : Stage R P O) (world : World) : Type 0 where
  pub is : r.is_root stage.root
  pub root : world.root ≡ r.root stage.root
  pub names : ShowsAll r stage.places.of.items world.names

-- the pass of this letter can do this on a stage of this container
pub record CanAct {C R P N L O : Type 0} (k : container.Ghosts C (List ℕ) R P N L) (s : stepwise.Ghosts C (List ℕ) O R P N L) (c : C) (stage : Stage R P O) (letter : ℕ) (act : Act) : Type 0 where
  pub on : (world : World) × IsOn (reading_of k s c) stage world
  pub fit : IsFit (k.shape c).order letter act

-- a letter was looked for: what it names was taken out of its place
pub record Found {R P O : Type 0} (r : Reading R P O) (world : World) (letter : ℕ) (stage : Stage R P O) (place : Place P O) : Type 0 where
  pub found : Meaning
  pub root : RootView (List ℕ)
  pub shows : Shows r place found
  pub finds : Finds r.shape world.root (named world letter) root found
  pub on : IsOn r stage (record { root = root; names = renamed world.names letter Nobody })

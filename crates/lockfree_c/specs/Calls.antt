-- What a call gives that makes a bounded number of tries.
use Rattle.std.specs.Prelude.{◌≡◌, ℕ, ◌+◌, ◌*◌, ◌-◌, ◌^◌, ◌≤◌, min}
use Rattle.bounded_model.specs.declared.answers.Stepped.{Stepped}
use Rattle.bounded_model.specs.declared.commands.Command.{Command}
use Rattle.bounded_model.specs.declared.commands.Reply.{Reply}
use Rattle.bounded_model.specs.declared.views.PassView.{PassView}
use Rattle.bounded_model.specs.declared.views.RootView.{RootView}
use Rattle.bounded_model.specs.Calls.{CallGives}
use Rattle.bounded_model.specs.Machine.{Shape}
use Rattle.bounded_model.specs.Stepping.{MatchStepped, Underway, no_step}
use Rattle.lockfree_c.specs.declared.work.Worked.{Worked}
use Rattle.lockfree_c.specs.declared.work.Worked.TheVariants.{Again, Value, Waits, Done}

-- How many steps `tries` tries allow: `each` for each try, and `undisturbed`, those of a call that loses no exchange. They fit in 64 bits
abbrev pub steps_of : ℕ → ℕ → ℕ → ℕ
steps_of undisturbed each tries = min (min (tries * each) (2 ^ 64 - 1) + undisturbed) (2 ^ 64 - 1)

-- How a container's root, its passes, its calls and its works are read, and how many steps each call makes at once, before its tries, at the most
pub record Reading (R P O W : Type 0) : Type 1 where
  pub shape : Shape
  pub is_root : R → Type 0
  pub root : R → RootView ℕ
  pub is_pass : P → Type 0
  pub pass : P → PassView ℕ
  pub is_making : Command ℕ → O → Type 0
  pub making : O → Underway ℕ
  -- A call that its pass began as this, and that gave the pass back with this reply, was one run of the machine: see `WasRun` in `running`. A ring's
  -- refused put tells more there: see `RefusalTells`
  pub ran : PassView ℕ → Command ℕ → P → Reply ℕ → Type 0
  pub at_once : Command ℕ → ℕ
  pub is_work : W → Type 0
  -- this number of tries of a work that is under way came to this
  pub works_on : ℕ → W → Worked W P → Type 0

-- a work whose pass was v has made at most n steps more; `now` and `pass` read the pass of a work and a pass that is back
module _ {P W : Type 0} (now : W → PassView ℕ) (pass : P → PassView ℕ) where
  abbrev pub WorkedFor : ℕ → PassView ℕ → Worked W P → Type 0
  WorkedFor n v (Again next) = (now next).steps ≤ v.steps + n
  WorkedFor n v (Value x next) = (now next).steps ≤ v.steps + n
  WorkedFor n v (Waits next) = (now next).steps ≤ v.steps + n
  WorkedFor n v (Done back said) = (pass back).steps ≤ v.steps + n

module _ {R P O W : Type 0} (r : Reading R P O W) where
  abbrev pub MakesSome : O → Type 0
  MakesSome op = (call : Command ℕ) × r.is_making call op

  -- a call was begun by this pass, and has made no step yet
  pub record Begins (by : P) (call : Command ℕ) (op : O) : Type 0 where
    pub makes : r.is_making call op
    pub begun : r.making op ≡ no_step (r.pass by)

  -- a call that its pass began as this was tried: it is still under way, begun as before, or it gave what the whole call gives, and was one run
  abbrev pub TriedFrom : PassView ℕ → Command ℕ → Stepped O P (Reply ℕ) → Type 0
  TriedFrom begun call made = MatchStepped made
      (λ next. r.is_making call next × ((r.making next).begun ≡ begun))
      (λ back said. r.is_pass back × CallGives r.shape begun call (r.pass back) said × r.ran begun call back said)

  -- the same for an operation, whichever call it makes
  abbrev pub Tried : O → Stepped O P (Reply ℕ) → Type 0
  Tried op made = (call : Command ℕ) → r.is_making call op → TriedFrom (r.making op).begun call made

  -- An operation was to make n steps: it is still under way after exactly n steps, or has ended after at most n
  abbrev pub TookFor : ℕ → O → Stepped O P (Reply ℕ) → Type 0
  TookFor n op made = MatchStepped made
      (λ next. (r.making next).now.steps ≡ (r.making op).now.steps + n)
      (λ back said. (r.pass back).steps ≤ (r.making op).now.steps + n)

  -- if a call that its pass began as this is still under way, it has made at least n steps
  abbrev pub TookAtLeast : ℕ → PassView ℕ → Stepped O P (Reply ℕ) → Type 0
  TookAtLeast n begun made = MatchStepped made (λ next. begun.steps + n ≤ (r.making next).now.steps) (λ back said. Unit {0})

  -- a call that its pass began as this has made at most n steps
  abbrev pub TookAtMost : ℕ → PassView ℕ → Stepped O P (Reply ℕ) → Type 0
  TookAtMost n begun made = MatchStepped made (λ next. (r.making next).now.steps ≤ begun.steps + n) (λ back said. (r.pass back).steps ≤ begun.steps + n)

  -- a work that was tried is under way, or its pass is back
  abbrev pub IsWorked : Worked W P → Type 0
  IsWorked (Again next) = r.is_work next
  IsWorked (Value x next) = r.is_work next
  IsWorked (Waits next) = r.is_work next
  IsWorked (Done back said) = r.is_pass back

-- Which histories a sequential list stands for.
use Rattle.std.specs.Prelude.{◌≡◌, ℕ, List}
use Rattle.bounded_model.specs.declared.history.Event.{Event}
use Rattle.bounded_model.specs.declared.commands.Command.{Command}
use Rattle.bounded_model.specs.declared.commands.Reply.{Reply}
use Rattle.bounded_model.specs.Machine.{State, state, Legal}
use Rattle.bounded_model.specs.Replies.{replies, history_after_all}
use Rattle.bounded_model.specs.Plain.{Plain, shape_of}

-- the machine is at rest, no pass has a cell in hand, and this is its list
pub record RestsWith {T : Type 0} (p : Plain T) (s : State T) : Type 0 where
  pub values : s.values ≡ p.values
  pub hands : (q : ℕ) → s.hand q ≡ 0
  pub held : s.held ≡ 0
  pub closed : s.closed ≡ p.closed
  pub shut : s.shut ≡ p.shut
  pub puts : s.puts ≡ p.puts
  pub takes : s.takes ≡ p.takes

-- the list is the end of this legal history
pub record Shows {T : Type 0} (p : Plain T) (h : List (Event T)) : Type 0 where
  pub legal : Legal (shape_of p) h
  pub rest : RestsWith p (state (shape_of p) h)

-- the commands were answered as the machine answers them from any history that the old list shows, and the
-- new list shows that history with their events added, by whichever pass. A single call is a run of one
pub record Runs {T : Type 0} (old new : Plain T) (commands : List (Command T)) (given : List (Reply T)) : Type 0 where
  pub given_is : (q : ℕ) (h : List (Event T)) → Shows old h → given ≡ replies (shape_of old) q h commands
  pub new_shows : (q : ℕ) (h : List (Event T)) → Shows old h → Shows new (history_after_all (shape_of old) q h commands)

-- The queue's machine on its table, as the running layer sees it.
use Rattle.std.specs.Prelude.{◌≢◌, ℕ, ◌≤◌, List, length, None}
use Rattle.tagged_index.specs.declared.word.TheConstants.{NULL}
use Rattle.queue_machine.specs.declared.lines.Place.{Place}
use Rattle.queue_machine.specs.declared.lines.Number.{Number}
use Rattle.queue_machine.specs.declared.lines.Line.{Line}
use Rattle.queue_machine.specs.declared.lines.Line.TheVariants.{Idle}
use Rattle.queue_machine.specs.Machine.{Memory, memories, table, held_cells, start}
use Rattle.queue_machine.specs.Answers.{shape}
use Rattle.queue_machine.specs.Rule.{Kept, Tells}
use Rattle.queue_machine.specs.Deeds.{Deeds}
use Rattle.queue_machine.specs.Places.{WinsUnheld}
use Rattle.bounded_model.specs.declared.history.Event.{Event}
use Rattle.running.specs.Machine.{Core, Machine}
use Rattle.running.specs.Tables.{Board, Rules, core_of}
use Rattle.running.specs.Ties.{no_rule}
use Rattle.queue_table.specs.declared.operation.Operation.{Operation}
use Rattle.queue_table.specs.Layout.{next_at, layout}
use Rattle.queue_table.specs.Effects.{effect}
use Rattle.queue_table.specs.Lines.{call_of, names, reply, Brings, Says}

-- a word that is no link of the chain has an index or null
abbrev pub Plain : ℕ → ℕ → Type 0
Plain at x = ((j : ℕ) → at ≢ next_at j) → x ≤ NULL

module _ (T : Type 0) (n limit : ℕ) where
  abbrev pub board : Board T (Memory T) Place Number (Line T)
  board = record {
    memories = memories;
    layout = layout n;
    idle = λ l. Idle None;
    table = table limit;
    Brings = Brings;
    Says = Says n limit;
    Plain = Plain;
  }

  abbrev pub rules : Rules T (Memory T) (Line T) (Operation T)
  rules = record {
    first = start (shape n limit);
    shape = shape n limit;
    holding = λ l. length (held_cells l);
    reply = reply;
    Reads = ⊥;
    Peeks = λ o. ⊥;
    Effect = effect;
    rest = λ p. Idle None;
    stock = Idle None;
    IsStock = λ out l. Unit {0};
    Good = λ m who lines h. Kept T n limit m who lines h;
    Deeds = λ o p l b seen. Deeds p (call_of o) l b seen;
    Tells = λ b seen l. Tells n limit b seen l;
    WinsUnheld = WinsUnheld;
    Free = λ m line first. Unit {0};
  }

  abbrev pub core : Core T (Line T) (Operation T)
  core = core_of board rules

  -- the machine of a client with this rule, and of one with none
  abbrev pub queue_with : (List (Event T) → Type 0) → Machine T (Line T) (Operation T) names
  queue_with rule = record { core = core; rule = rule }

  abbrev pub queue : Machine T (Line T) (Operation T) names
  queue = queue_with no_rule

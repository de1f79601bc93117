-- The stack's machine on its table, as the running layer sees it.
use Rattle.std.specs.Prelude.{ℕ, ◌≤◌, List, length, None}
use Rattle.tagged_index.specs.declared.word.TheConstants.{NULL}
use Rattle.stack_machine.specs.declared.lines.Top.{Top}
use Rattle.stack_machine.specs.declared.lines.Link.{Link}
use Rattle.stack_machine.specs.declared.lines.Line.{Line}
use Rattle.stack_machine.specs.declared.lines.Line.TheVariants.{Idle}
use Rattle.stack_machine.specs.Machine.{Memory, memories, table, held, start}
use Rattle.stack_machine.specs.Answers.{shape}
use Rattle.stack_machine.specs.Rule.{Tells, Kept}
use Rattle.stack_machine.specs.Deeds.{Deeds}
use Rattle.stack_machine.specs.Places.{WinsUnheld}
use Rattle.bounded_model.specs.declared.history.Event.{Event}
use Rattle.running.specs.Machine.{Core, Machine}
use Rattle.running.specs.Tables.{Board, Rules, core_of}
use Rattle.running.specs.Ties.{no_rule}
use Rattle.stack_table.specs.declared.operation.Operation.{Operation}
use Rattle.stack_table.specs.Layout.{layout}
use Rattle.stack_table.specs.Effects.{effect}
use Rattle.stack_table.specs.Lines.{PutsMany, call_of, names, reply, Brings, Says}

module _ (T : Type 0) (n limit : ℕ) where
  abbrev pub board : Board T (Memory T) Top Link (Line T)
  board = record {
    memories = memories;
    layout = layout n;
    idle = λ l. Idle None;
    table = table (shape n limit);
    Brings = Brings n;
    Says = Says n;
    Plain = λ at x. x ≤ NULL;
  }

  abbrev pub rules : Rules T (Memory T) (Line T) (Operation T)
  rules = record {
    first = start (shape n limit);
    shape = shape n limit;
    holding = λ l. length (held l);
    reply = reply;
    Reads = Unit {0};
    Peeks = λ o. PutsMany (call_of o);
    Effect = effect;
    rest = λ p. Idle None;
    stock = Idle None;
    IsStock = λ out l. Unit {0};
    Good = λ m who lines h. Kept T n limit m who lines h;
    Deeds = λ o p l b seen. Deeds (shape n limit) p (call_of o) l b seen;
    Tells = λ b seen l. Tells n limit b seen l;
    WinsUnheld = WinsUnheld;
    Free = λ m line first. Unit {0};
  }

  abbrev pub core : Core T (Line T) (Operation T)
  core = core_of board rules

  -- the machine of a client with this rule, and of one with none
  abbrev pub stack_with : (List (Event T) → Type 0) → Machine T (Line T) (Operation T) names
  stack_with rule = record { core = core; rule = rule }

  abbrev pub stack : Machine T (Line T) (Operation T) names
  stack = stack_with no_rule

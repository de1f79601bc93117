-- Where the words of a stack lie: 16 words that never change, the two tops, 16 words apart so that each has
-- cache lines of its own, and then one link for each node.
use Rattle.std.specs.Prelude.{ℕ, ◌+◌, ◌-◌, ◌==◌, ltb, if◌then◌else◌}
use Rattle.tagged_index.specs.declared.word.TheConstants.{NULL}
use Rattle.stack_machine.specs.declared.lines.Top.{Top}
use Rattle.stack_machine.specs.declared.lines.Top.TheVariants.{Free, Stack}
use Rattle.stack_machine.specs.declared.lines.Link.{Link}
use Rattle.running.specs.Tables.{Layout}

abbrev pub free_at : ℕ
free_at = 16

abbrev pub top_at : ℕ
top_at = 32

-- one link serves whichever list the node is on
abbrev pub link_at : ℕ → ℕ
link_at i = 48 + i

abbrev pub words_for : ℕ → ℕ
words_for n = 48 + n

abbrev pub place_at : Top → ℕ
place_at Free = free_at
place_at Stack = top_at

abbrev pub layout : ℕ → Layout Top Link
layout n = record { place = place_at; link = λ a. link_at a.index; words = words_for n; slots = n }

-- the words of a new stack of n nodes: all nodes are free, each linked to the next
abbrev pub start_at : ℕ → ℕ → ℕ
start_at n k = if k == top_at then NULL else if ltb k 48 then 0 else if k == 47 + n then NULL else k - 47

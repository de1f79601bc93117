-- The order of the tests at each line matters, and so does each comparison: with another one, a script
-- gets another reply.
use Rattle.std.specs.Prelude.{◌==◌, leb, if◌then◌else◌, false}
use Rattle.bounded_model.specs.declared.answers.Word.TheVariants.{Top as TopWord}
use Rattle.bounded_model.specs.declared.answers.TakeRefused.TheVariants.{Empty, Spent}
use Rattle.tagged_index.specs.declared.word.TheConstants.{NULL}
use Rattle.machine.specs.Words.{Tagged, same}
use Rattle.stack_machine.specs.declared.lines.Answer.TheVariants.{Close, Shut as ShutAnswer}
use Rattle.stack_machine.specs.declared.lines.Line.TheVariants.{LoadFree, LoadTop, LoadTopToRefuse, LoadTopToTake, TakeTop, LoadLinkToTurn, LoadLinkToFold, LoadFreeToGive, MarkTop, ShutTop}
use Rattle.stack_machine.specs.Machine.{step, goes_on, at_load_free, at_load_top, at_load_top_to_refuse, at_load_top_to_take, refuses, no_node, gives, ends}
use Rattle.step_core.specs.stack.Cast.{Moves, full, top_spent, free_spent}

-- a put that looks at the limit before it looks for a free node
abbrev pub limit_before_null : Moves
limit_before_null s m p (LoadFree want) = goes_on m (if leb s.limit m.free.tag then no_node want (ends (free_spent m.free.tag want.values)) else at_load_free s.limit want m.free)
limit_before_null s m p l = step s m p l

-- a put that holds a node looks at the limit before it looks whether the stack is closed
abbrev pub limit_before_closed : Moves
limit_before_closed s m p (LoadTop want) = goes_on m (if leb s.limit m.top.tag then gives want.chain (top_spent m.top.tag want.values) else at_load_top s.limit want m.top)
limit_before_closed s m p l = step s m p l

-- and so does a put that found no node
abbrev pub limit_before_closed_at_last : Moves
limit_before_closed_at_last s m p (LoadTopToRefuse values) = goes_on m (if leb s.limit m.top.tag then ends (top_spent m.top.tag values) else at_load_top_to_refuse s.limit values m.top)
limit_before_closed_at_last s m p l = step s m p l

-- a put that found no node answers that the stack is full, whatever the top says
abbrev pub full_first : Moves
full_first s m p (LoadTopToRefuse values) = goes_on m (ends (full values))
full_first s m p l = step s m p l

-- a take that looks for a value before it looks whether the stack is shut, and then not whether it is
-- closed
abbrev pub empty_first : Moves
empty_first s m p (LoadTopToTake taking) = goes_on m (if m.top.index == NULL then refuses taking Empty else at_load_top_to_take s.limit taking m.top)
empty_first s m p l = step s m p l

-- a take that looks at the limit first
abbrev pub limit_first : Moves
limit_first s m p (LoadTopToTake taking) = goes_on m (if leb s.limit m.top.tag then refuses taking (Spent TopWord m.top.tag) else at_load_top_to_take s.limit taking m.top)
limit_first s m p l = step s m p l

-- a close and a shut that answer although their mark was lost
abbrev pub answers_a_lost_mark : Moves
answers_a_lost_mark s m p (MarkTop w) = if same m.top w then step s m p (MarkTop w) else goes_on m (ends (Close false))
answers_a_lost_mark s m p (ShutTop w) = if same m.top w then step s m p (ShutTop w) else goes_on m (ends (ShutAnswer false))
answers_a_lost_mark s m p l = step s m p l

-- a fold that gives its chain back without a walk down it
abbrev pub skips_the_walk : Moves
skips_the_walk s m p (LoadLinkToFold give i) = goes_on m (LoadFreeToGive give)
skips_the_walk s m p l = step s m p l

-- a fold from the bottom up that does not turn its chain round
abbrev pub skips_the_turn : Moves
skips_the_turn s m p (LoadLinkToTurn give above i) = goes_on m (LoadLinkToFold give i)
skips_the_turn s m p l = step s m p l

-- an exchange that compares the index and the tag and no mark: a take wins against a close, and the stack
-- is open again
abbrev pub unmarked : Tagged → Tagged
unmarked w = record w { mark = false; second = false }

abbrev pub ignores_marks : Moves
ignores_marks s m p (TakeTop w k) = if same (unmarked m.top) (unmarked w) then step s (record m { top = w }) p (TakeTop w k) else step s m p (TakeTop w k)
ignores_marks s m p l = step s m p l

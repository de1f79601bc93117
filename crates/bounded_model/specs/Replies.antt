-- A whole call at a machine whose hands are all empty: its answer and the events that it adds.
use Rattle.std.specs.Prelude.{ℕ, ◌+◌, nat_le, if◌then◌else◌, Bool, true, false, not, List, [], ◌∷◌, ◌++◌, length, Result, Ok, Err}
use Rattle.bounded_model.specs.declared.history.Event.{Event}
use Rattle.bounded_model.specs.declared.history.Event.TheVariants.{Hold, Put, Take, Free, Close, Shut}
use Rattle.bounded_model.specs.declared.answers.Word.TheVariants.{Count}
use Rattle.bounded_model.specs.declared.answers.PutRefused.{PutRefused}
use Rattle.bounded_model.specs.declared.answers.PutRefused.TheVariants.{Full, Closed as ClosedToPuts, Spent as SpentPut}
use Rattle.bounded_model.specs.declared.answers.TakeRefused.{TakeRefused}
use Rattle.bounded_model.specs.declared.answers.TakeRefused.TheVariants.{Empty, Closed as EmptyAndClosed, Spent as SpentTake, Shut as ShutToTakes}
use Rattle.bounded_model.specs.declared.commands.Command.{Command}
use Rattle.bounded_model.specs.declared.commands.Command.TheVariants.{Put as PutCommand, Take as TakeCommand, Close as CloseCommand, Shut as ShutCommand, Look as LookCommand}
use Rattle.bounded_model.specs.declared.commands.Reply.{Reply}
use Rattle.bounded_model.specs.declared.commands.Reply.TheVariants.{Put as PutReply, Take as TakeReply, Close as CloseReply, Shut as ShutReply, Look as LookReply}
use Rattle.bounded_model.specs.Machine.{Shape, State, state, next_put, next_take}

abbrev pub is_nil : {T : Type 0} → List T → Bool
is_nil [] = true
is_nil (x ∷ xs) = false

-- a put is refused if the machine is closed, then if no cell is free, then if its number would reach the limit
abbrev pub put_reply : {T : Type 0} → Shape → State T → T → Result ℕ (PutRefused T)
put_reply c s x =
    if s.closed then Err (ClosedToPuts x)
    else (if nat_le c.capacity (length s.values + s.held) then Err (Full x)
    else (if nat_le c.limit (next_put c.order s) then Err (SpentPut x Count c.limit)
    else Ok (next_put c.order s)))

-- what a take answers that finds these values
abbrev pub take_reply_of : {T : Type 0} → Shape → State T → List T → Result (T × ℕ) TakeRefused
take_reply_of c s [] = (if s.closed then Err EmptyAndClosed else Err Empty)
take_reply_of c s (x ∷ xs) = (if nat_le c.limit (next_take c.order s) then Err (SpentTake Count c.limit) else Ok (x, next_take c.order s))

-- a take is refused if the machine is shut, then if it has no value, then if its number would reach the limit
abbrev pub take_reply : {T : Type 0} → Shape → State T → Result (T × ℕ) TakeRefused
take_reply c s = (if s.shut then Err ShutToTakes else take_reply_of c s s.values)

abbrev pub reply : {T : Type 0} → Shape → State T → Command T → Reply T
reply c s (PutCommand x) = PutReply (put_reply c s x)
reply c s TakeCommand = TakeReply (take_reply c s)
reply c s CloseCommand = CloseReply (not s.closed)
reply c s ShutCommand = ShutReply (not s.shut)
reply c s LookCommand = LookReply (is_nil s.values)

-- the events of pass q by this reply to this command, the newest first: a put holds a cell and puts, a take
-- takes and frees the cell; a refusal, a look, a close that did not close and a shut that did not shut add none
abbrev pub added : {T : Type 0} → ℕ → Command T → Reply T → List (Event T)
added q (PutCommand x) (PutReply (Ok n)) = Put q (x ∷ []) n ∷ Hold q ∷ []
added q TakeCommand (TakeReply (Ok r)) = Free q 1 ∷ Take q r.0 r.1 ∷ []
added q CloseCommand (CloseReply true) = Close q ∷ []
added q ShutCommand (ShutReply true) = Shut q ∷ []
added q m r = []

-- the history after the call
abbrev pub history_after : {T : Type 0} → Shape → ℕ → List (Event T) → Command T → List (Event T)
history_after c q h m = added q m (reply c (state c h) m) ++ h

-- the replies to these commands, one after another, from the end of a history
abbrev pub replies : {T : Type 0} → Shape → ℕ → List (Event T) → List (Command T) → List (Reply T)
replies c q h [] = []
replies c q h (m ∷ ms) = reply c (state c h) m ∷ replies c q (history_after c q h m) ms

-- and the history after all of them
abbrev pub history_after_all : {T : Type 0} → Shape → ℕ → List (Event T) → List (Command T) → List (Event T)
history_after_all c q h [] = h
history_after_all c q h (m ∷ ms) = history_after_all c q (history_after c q h m) ms

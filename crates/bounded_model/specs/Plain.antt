-- The sequential list: the bounded machine without hands.
use Rattle.std.specs.Prelude.{ℕ, ◌+◌, Bool, true, false, List, [], ◌∷◌, Result, Ok, Err}
use Rattle.bounded_model.specs.declared.history.Order.{Order}
use Rattle.bounded_model.specs.declared.answers.PutRefused.{PutRefused}
use Rattle.bounded_model.specs.declared.answers.TakeRefused.{TakeRefused}
use Rattle.bounded_model.specs.declared.commands.Command.{Command}
use Rattle.bounded_model.specs.declared.commands.Command.TheVariants.{Put, Take, Close, Shut, Look}
use Rattle.bounded_model.specs.declared.commands.Reply.{Reply}
use Rattle.bounded_model.specs.declared.plain_list.TheConstants.{COUNT_LIMIT}
use Rattle.bounded_model.specs.Machine.{Shape, State, put_on, without_first}
use Rattle.bounded_model.specs.Replies.{put_reply, take_reply, reply}

-- the values stand from the front of a queue and from the top of a stack; puts and takes count the accepted ones
pub record Plain (T : Type 0) : Type 0 where
  pub order : Order
  pub capacity : ℕ
  pub values : List T
  pub closed : Bool
  pub shut : Bool
  pub puts : ℕ
  pub takes : ℕ

-- a new list
abbrev pub empty_list : {T : Type 0} → Order → ℕ → Plain T
empty_list order capacity = record { order = order; capacity = capacity; values = []; closed = false; shut = false; puts = 0; takes = 0 }

-- one caller has it
abbrev pub shape_of : {T : Type 0} → Plain T → Shape
shape_of p = record { order = p.order; capacity = p.capacity; limit = COUNT_LIMIT; passes = 1 }

-- the machine with this list and no cell in hand
abbrev pub at_rest : {T : Type 0} → Plain T → State T
at_rest p = record { values = p.values; hand = λ _. 0; held = 0; closed = p.closed; shut = p.shut; holds = p.puts; puts = p.puts; takes = p.takes }

-- what the machine answers at this list
abbrev pub plain_put : {T : Type 0} → Plain T → T → Result ℕ (PutRefused T)
plain_put p x = put_reply (shape_of p) (at_rest p) x

abbrev pub plain_take : {T : Type 0} → Plain T → Result (T × ℕ) TakeRefused
plain_take p = take_reply (shape_of p) (at_rest p)

abbrev pub plain_reply : {T : Type 0} → Plain T → Command T → Reply T
plain_reply p m = reply (shape_of p) (at_rest p) m

-- the list after an accepted put of x, and after an accepted take
abbrev pub with_value : {T : Type 0} → Plain T → T → Plain T
with_value p x = record p { values = put_on p.order p.values (x ∷ []); puts = p.puts + 1 }

abbrev pub without_value : {T : Type 0} → Plain T → Plain T
without_value p = record p { values = without_first p.values; takes = p.takes + 1 }

-- the list after a put, and after a take, that was answered so
abbrev pub after_put : {T : Type 0} → Plain T → T → Result ℕ (PutRefused T) → Plain T
after_put p x (Ok n) = with_value p x
after_put p x (Err e) = p

abbrev pub after_take : {T : Type 0} → Plain T → Result (T × ℕ) TakeRefused → Plain T
after_take p (Ok r) = without_value p
after_take p (Err e) = p

-- the list after a call
abbrev pub list_after : {T : Type 0} → Plain T → Command T → Plain T
list_after p (Put x) = after_put p x (plain_put p x)
list_after p Take = after_take p (plain_take p)
list_after p Close = record p { closed = true }
list_after p Shut = record p { shut = true }
list_after p Look = p

-- the replies to these commands, one after another, and the list after all of them
abbrev pub plain_replies : {T : Type 0} → Plain T → List (Command T) → List (Reply T)
plain_replies p [] = []
plain_replies p (m ∷ ms) = plain_reply p m ∷ plain_replies (list_after p m) ms

abbrev pub list_after_all : {T : Type 0} → Plain T → List (Command T) → Plain T
list_after_all p [] = p
list_after_all p (m ∷ ms) = list_after_all (list_after p m) ms

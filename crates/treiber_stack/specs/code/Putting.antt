-- A put made by steps.
use Rattle.std.specs.Prelude.{ℕ, Result, [], ◌∷◌, Ok, Err, List, Option as Slot, Some, ◌<◌, ◌≤◌}
use Rattle.stack_machine.specs.declared.lines.Answer as lines
use Rattle.treiber_stack.specs.Prelude.{Account, AnswerPut, Giving, Limits, Line, LinkToTop, LoadFreeLine, LoadFreeLink, LoadTop, LoadTopToRefuse}
use Rattle.treiber_stack.specs.Prelude.{NULL, Operation, PutClosed as Closed, PutFull as Full, PutRefused, PutSpent as Spent, Putting, SwapTop}
use Rattle.treiber_stack.specs.Prelude.{TakeFree, capacity_of, ends, fields_of, in_list, index_of, tag_limit_of, tag_of, to_answer, vacant}
use Rattle.treiber_stack.specs.code.Machine.{Answered, put_of}
use Rattle.treiber_stack.specs.declared.code.putting.PutAt.{PutAt}
use Rattle.treiber_stack.specs.declared.code.putting.PutAt.TheVariants.{LoadFree, Link, Hold, Load, LinkTo, Exchange, Refuse, GiveBack}
use Rattle.treiber_stack.specs.code.Giving.{give_line}

abbrev pub Answer : Type 0 → Type 0
Answer T = Answered (Result ℕ (PutRefused T))

module _ {T : Type 0} where
  -- a put of one value, without its node and with it
  abbrev pub wanting : T → Putting T
  wanting x = record { values = x ∷ []; chain = [] }

  abbrev pub bearing : T → ℕ → Putting T
  bearing x i = record { values = x ∷ []; chain = i ∷ [] }

  -- the refusal and the answer of a put of one value, as the machine has those of several
  abbrev pub put_answer : Result ℕ (PutRefused T) → lines.Answer T
  put_answer (Ok k) = AnswerPut (Ok (k, []))
  put_answer (Err why) = AnswerPut (Err (in_list why))

  -- the node that is given back, and then the answer
  abbrev pub refusing : PutRefused T → ℕ → Giving T
  refusing why i = record { chain = i ∷ []; answer = put_answer (Err why) }

  -- the value that is put
  abbrev pub refused_value : PutRefused T → T
  refused_value (Full x) = x
  refused_value (Closed x) = x
  refused_value (Spent x word t) = x

  abbrev pub put_value : PutAt T → T
  put_value (LoadFree x) = x
  put_value (Link x w) = x
  put_value (Hold x w k) = x
  put_value (Load shown i) = shown.value
  put_value (LinkTo shown i w) = shown.value
  put_value (Exchange shown i w) = shown.value
  put_value (Refuse x) = x
  put_value (GiveBack why i at) = refused_value why

  -- the machine's line
  abbrev pub put_line : PutAt T → Line T
  put_line (LoadFree x) = LoadFreeLine (wanting x)
  put_line (Link x w) = LoadFreeLink (wanting x) (fields_of w)
  put_line (Hold x w k) = TakeFree (wanting x) (fields_of w) k
  put_line (Load shown i) = LoadTop (bearing shown.value i)
  put_line (LinkTo shown i w) = LinkToTop (bearing shown.value i) (fields_of w)
  put_line (Exchange shown i w) = SwapTop (bearing shown.value i) (fields_of w)
  put_line (Refuse x) = LoadTopToRefuse (x ∷ [])
  put_line (GiveBack why i at) = give_line (refusing why i) at

  -- the slots in hand: that of the node, with the value until it is refused
  abbrev pub full_slot : T → ℕ → List (ℕ × Slot T)
  full_slot x i = (i, Some x) ∷ []

  abbrev pub put_slots : PutAt T → List (ℕ × Slot T)
  put_slots (Load shown i) = full_slot shown.value i
  put_slots (LinkTo shown i w) = full_slot shown.value i
  put_slots (Exchange shown i w) = full_slot shown.value i
  put_slots (GiveBack why i at) = vacant (i ∷ [])
  put_slots at = []

  -- what was read names a node, and the tag of the word to be exchanged has room to rise
  abbrev pub HasReadToPut : ℕ → ℕ → PutAt T → Type 0
  HasReadToPut n limit (LoadFree x) = Unit {0}
  HasReadToPut n limit (Link x w) = (index_of w < n) × (tag_of w < limit)
  HasReadToPut n limit (Hold x w k) = (index_of w < n) × (tag_of w < limit) × (k ≤ NULL)
  HasReadToPut n limit (Load shown i) = i < n
  HasReadToPut n limit (LinkTo shown i w) = (i < n) × (tag_of w < limit)
  HasReadToPut n limit (Exchange shown i w) = (i < n) × (tag_of w < limit)
  HasReadToPut n limit (Refuse x) = Unit {0}
  HasReadToPut n limit (GiveBack why i at) = i < n

  -- how it is read
  abbrev pub put_account : Limits → Account T (Line T) (Operation T) (PutAt T) (Answer T)
  put_account k = to_answer (λ at. put_of (put_value at)) put_line put_slots (λ at. HasReadToPut (capacity_of k) (tag_limit_of k) at) (λ o a. ends (put_answer a.reply))

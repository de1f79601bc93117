-- What the answer that C gets says of what a whole call answered, and the number of the call.
use Rattle.std.specs.Prelude.{◌≡◌, ℕ, Bool, true, false, Result, Ok, Err}
use Rattle.bounded_model.specs.declared.answers.PutRefused.{PutRefused}
use Rattle.bounded_model.specs.declared.answers.PutRefused.TheVariants as put
use Rattle.bounded_model.specs.declared.answers.TakeRefused.{TakeRefused}
use Rattle.bounded_model.specs.declared.answers.TakeRefused.TheVariants as take
use Rattle.bounded_model.specs.declared.bulk.Folded.{Folded}
use Rattle.bounded_model.specs.declared.bulk.Ranged.{Ranged}
use Rattle.bounded_model.specs.declared.bulk.RangeRefused.{RangeRefused}
use Rattle.bounded_model.specs.declared.bulk.RangeRefused.TheVariants as range
use Rattle.bounded_model.specs.declared.commands.Reply.{Reply}
use Rattle.bounded_model.specs.declared.commands.Reply.TheVariants.{Put, Take, Close, Shut, Look}
use Rattle.lockfree_c.specs.declared.answers.Answer.{Answer}
use Rattle.lockfree_c.specs.declared.work.Said.{Said}
use Rattle.lockfree_c.specs.declared.work.Said.TheVariants as said
use Rattle.lockfree_c.specs.declared.answers.TheConstants.{OK, FULL, EMPTY, CLOSED, SHUT, SPENT}

-- a code alone
abbrev pub bare : ℕ → Answer
bare code = record { value = 0; code = code }

-- a code with its value
abbrev pub saying : ℕ → ℕ → Answer
saying code value = record { value = value; code = code }

abbrev pub SaysPut : Result ℕ (PutRefused ℕ) → Answer → Type 0
SaysPut (Ok n) a = a ≡ saying OK n
SaysPut (Err (put.Full x)) a = a ≡ bare FULL
SaysPut (Err (put.Closed x)) a = a ≡ bare CLOSED
SaysPut (Err (put.Spent x word t)) a = a ≡ saying SPENT t

abbrev pub SaysTake : Result (ℕ × ℕ) TakeRefused → Answer → Type 0
SaysTake (Ok r) a = a ≡ saying OK r.0
SaysTake (Err take.Empty) a = a ≡ bare EMPTY
SaysTake (Err take.Closed) a = a ≡ bare CLOSED
SaysTake (Err take.Shut) a = a ≡ bare SHUT
SaysTake (Err (take.Spent word t)) a = a ≡ saying SPENT t

-- how many values there were in a fold that is done; a fold is refused as a take is
abbrev pub SaysFold : Result Folded TakeRefused → Answer → Type 0
SaysFold (Ok f) a = a ≡ saying OK f.count
SaysFold (Err why) a = SaysTake (Err why) a

-- how many values of a range the put has put
abbrev pub SaysRange : Result Ranged RangeRefused → Answer → Type 0
SaysRange (Ok r) a = a ≡ saying OK r.count
SaysRange (Err range.Nothing) a = a ≡ bare EMPTY
SaysRange (Err range.Full) a = a ≡ bare FULL
SaysRange (Err range.Closed) a = a ≡ bare CLOSED
SaysRange (Err (range.Spent word t)) a = a ≡ saying SPENT t

-- what a gauge showed: whether the container was closed, and how many tags were used
abbrev pub SaysGauge : Bool → ℕ → Answer → Type 0
SaysGauge true used a = a ≡ saying CLOSED used
SaysGauge false used a = a ≡ saying OK used

abbrev pub Says : Reply ℕ → Answer → Type 0
Says (Put said) a = SaysPut said a
Says (Take said) a = SaysTake said a
Says (Close true) a = a ≡ bare OK
Says (Close false) a = a ≡ bare CLOSED
Says (Shut true) a = a ≡ bare OK
Says (Shut false) a = a ≡ bare SHUT
Says (Look true) a = a ≡ bare EMPTY
Says (Look false) a = a ≡ bare OK

-- the number of a call that is done; 0 if it has none
abbrev pub number_in : Reply ℕ → ℕ
number_in (Put (Ok n)) = n
number_in (Take (Ok r)) = r.1
number_in said = 0

abbrev pub fold_number : Result Folded TakeRefused → ℕ
fold_number (Ok f) = f.number
fold_number (Err why) = 0

abbrev pub range_number : Result Ranged RangeRefused → ℕ
range_number (Ok r) = r.number
range_number (Err why) = 0

-- what a whole count, gauge, fold or put of a range answered
abbrev pub SaysWork : Said → Answer → Type 0
SaysWork (said.Count n) a = a ≡ saying OK n
SaysWork (said.Gauge closed used) a = SaysGauge closed used a
SaysWork (said.Fold made) a = SaysFold made a
SaysWork (said.Range made) a = SaysRange made a

-- a count and a gauge have no number
abbrev pub work_number : Said → ℕ
work_number (said.Fold made) = fold_number made
work_number (said.Range made) = range_number made
work_number made = 0

-- Room that was taken before it is needed.
use Rattle.std.specs.Prelude.{◌≡◌, ℕ, ◌+◌, ◌≤◌, min, Option, None, Some, [], Vec, All, vec_len, vec_capacity}
use Rattle.std.specs.declared.alloc.Global.{Global}
use Rattle.relay.specs.declared.memory.WorkRoom.{WorkRoom}
use Rattle.relay.specs.declared.threads.Room.{Room}
use Rattle.relay.specs.declared.memory.OutcomeRoom.{OutcomeRoom}

-- an empty list that takes n elements and no memory
pub record IsRoomFor {A : Type 0} (n : ℕ) (v : Vec A Global) : Type 0 where
  pub room : n ≤ vec_capacity v
  pub empty : v.items ≡ []

-- the most messages that a consumer needs room for: all of them and one more, and no more than its share
abbrev pub most_taken : Option ℕ → ℕ → ℕ
most_taken None messages = messages + 1
most_taken (Some share) messages = min share (messages + 1)

-- room for the threads of these workers, and for what they give back
pub record IsThreadRoom {C Pass : Type 0} (producers consumers : ℕ) (r : Room C Pass) : Type 0 where
  pub senders : IsRoomFor producers r.senders
  pub takers : IsRoomFor consumers r.takers
  pub sent : IsRoomFor producers r.sent
  pub took : IsRoomFor consumers r.took

-- room for these workers, and for each consumer room for `most` messages
pub record IsWorkRoom {C Root Pass Note Rest : Type 0} (producers consumers most : ℕ) (r : WorkRoom C Root Pass Note Rest) : Type 0 where
  pub senders : IsRoomFor producers r.senders
  pub takers : IsRoomFor consumers r.takers
  pub consumers_are : vec_len r.taken ≡ consumers
  pub taken : All (IsRoomFor most) r.taken.items
  pub threads : IsThreadRoom producers consumers r.threads

-- room for the outcome of these messages
pub record IsOutcomeRoom (producers consumers messages : ℕ) (r : OutcomeRoom) : Type 0 where
  pub delivered : IsRoomFor messages r.delivered
  pub left : IsRoomFor messages r.left
  pub unsent : IsRoomFor producers r.unsent
  pub taken : IsRoomFor consumers r.taken

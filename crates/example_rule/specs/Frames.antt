-- The frames of a stream, and the rule of its queue.
use Rattle.std.specs.Prelude.{ℕ, ◌*◌, ◌%◌, ◌^◌, List, bit_xor}
use Rattle.bounded_model.specs.declared.history.Event.{Event}
use Rattle.example_rule.specs.declared.frame.Frame.{Frame}
use Rattle.example_rule.specs.declared.frame.TheConstants.{FACTOR, MASK}
use Rattle.example_rule.specs.Fed.{Fed}

-- the check sum of a number: `bit_xor` turns the bits of the mask
abbrev pub sum_of : ℕ → ℕ
sum_of number = bit_xor (number * FACTOR % 2 ^ 64) MASK

abbrev pub frame_of : ℕ → Frame
frame_of number = record { number = number; sum = sum_of number }

-- the producer's pass is the first that the root gives
abbrev pub boss : ℕ
boss = 0

-- the producer alone puts, and its put number k is of frame k
abbrev pub feed : List (Event Frame) → Type 0
feed = Fed boss frame_of

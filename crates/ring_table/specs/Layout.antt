-- Where the words of a ring lie: 16 words that never change, the head and the tail, each on cache lines of its own,
-- and then the words of the slots. In a small ring these are 8 words apart, so that each has a cache line of its own.
use Rattle.std.specs.Prelude.{ℕ, ◌+◌, ◌-◌, ◌*◌, ◌/◌, ◌%◌, ◌==◌, ltb, if◌then◌else◌}
use Rattle.ring_machine.specs.declared.lines.Place.{Place}
use Rattle.ring_machine.specs.declared.lines.Place.TheVariants.{Head, Tail, Slot}
use Rattle.running.specs.Tables.{Layout}

abbrev pub head_at : ℕ
head_at = 16

abbrev pub tail_at : ℕ
tail_at = 32

abbrev pub spread : ℕ → ℕ
spread n = if ltb n 64 then 8 else 1

abbrev pub slot_at : ℕ → ℕ → ℕ
slot_at n i = 48 + spread n * i

abbrev pub words_for : ℕ → ℕ
words_for n = 48 + spread n * n

abbrev pub place_at : ℕ → Place → ℕ
place_at n Head = head_at
place_at n Tail = tail_at
place_at n (Slot i) = slot_at n i

-- a ring of n slots and this number of cells; it has no plain numbers
abbrev pub layout : ℕ → ℕ → Layout Place ⊥
layout n cells = record { place = place_at n; link = λ q. absurd q; words = words_for n; slots = cells }

-- the words of a new ring: the head and the tail are at position 0, and slot i has cell i
abbrev pub start_slot : ℕ → ℕ → ℕ
start_slot apart k = if k % apart == 0 then k / apart else 0

abbrev pub start_at : ℕ → ℕ → ℕ
start_at n k = if ltb k 48 then 0 else start_slot (spread n) (k - 48)

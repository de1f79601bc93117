use Rattle.std.proofs.Common.{◌≡◌, ℕ, ◌<◌, length}
use Rattle.std.specs.Prelude.{slice_index}
use Rattle.queue_table.specs.Layout.{start_at}
use Rattle.ms_queue.proofs.life.making.first_words.Given as goal

abbrev pub invariant-loop-at : goal.invariant-loop-at
invariant-loop-at l = (length l.words.items ≡ l.at) × ((k : ℕ) → k < l.at → slice_index l.words.items k ≡ start_at l.fn.capacity k)

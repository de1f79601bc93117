use Rattle.std.proofs.Common.{sym, ◌∙◌}
use Rattle.std.specs.Mem.Slots.{slots_items}
use Rattle.ring_queue.proofs.Leftover.{word_at}
use Rattle.ring_queue.proofs.life.rest.word_at.Goals as goal

pub returns : goal.returns
returns g c = c.from_word.ensures ∙ sym (word_at (slots_items c.args.closed.now.words) c.args.at c.word.result c.word.ensures)

use Rattle.std.proofs.Common.{ap, sym, ◌∙◌}
use Rattle.std.specs.Mem.Slots.{slots_items}
use Rattle.tagged_index.specs.Fields.{index_of}
use Rattle.treiber_stack.proofs.Leftover.{word_at}
use Rattle.treiber_stack.proofs.life.rest.index_at.Goals as goal

pub returns : goal.returns
returns g c = c.index.ensures.field ∙ ap index_of (c.from_word.ensures ∙ sym (word_at (slots_items c.args.closed.now.words) c.args.at c.word.result c.word.ensures))

use Rattle.std.proofs.Common.{ap, ◌∙◌}
use Rattle.tagged_index.specs.Fields.{index_of}
use Rattle.treiber_stack.proofs.Restoring.{read_so, may_look}
use Rattle.treiber_stack.proofs.bulk.loading.read_again.Goals as goal

pub returns-clause-link : goal.returns-clause-link
returns-clause-link g c giving before others next line parts =
    c.index.ensures.field ∙ ap index_of c.from_word.ensures
    ∙ read_so g.D.Tie.rule c.args.on.now c.args.by.now.seat.me.0 c.link.result c.peek-found.result c.args.index c.link.ensures c.peek-found.ensures.found giving before others next line parts

pub peek-found-requires-clause-may : goal.peek-found-requires-clause-may
peek-found-requires-clause-may g c = may_look g.D.Tie.rule c.args.on.now c.args.by.now.seat.me.0

pub returns-clause-took : goal.returns-clause-took
returns-clause-took g c = c.peek-found.ensures.took

-- The readers so far were read.
use Rattle.std.proofs.Common.{◌≡◌, ◌++◌, length}
use Rattle.std.specs.Vec.Iter.{into_iter_items, into_iter_len}
use Rattle.file_relay.specs.Inputs.{AreRead}
use Rattle.file_relay.proofs.inputs.read_inputs.Given as goal

abbrev pub invariant-loop-reader : goal.invariant-loop-reader
invariant-loop-reader g l = record {
  can : (goal.iterator-loop-reader g).can_next l.reader-iterator;
  finite : (goal.iterator-loop-reader g).is_finite l.reader-iterator;
  all : l.yielded ++ into_iter_items l.reader-iterator ≡ l.fn.readers.items;
  left : into_iter_len l.reader-iterator ≡ length (into_iter_items l.reader-iterator);
  read : AreRead g.R.Read.remaining 0 l.yielded l.inputs.items;
}

use Rattle.cell_list.proofs.Laws.{opens}
use Rattle.list_tests.proofs.cells.made.Goals as goal

pub of_words-requires : goal.of_words-requires
of_words-requires g c = opens _ _

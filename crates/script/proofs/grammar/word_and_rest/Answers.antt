use Rattle.std.proofs.Common.{arith}
use Rattle.script.proofs.Cuts.{split_once_cuts}
use Rattle.script.proofs.grammar.word_and_rest.Goals as goal

pub returns : goal.returns
returns c = split_once_cuts 32 c.args.text.now c.split_once.result c.split_once.ensures.cases (omega arith)

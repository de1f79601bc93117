use Rattle.lockfree_c.proofs.Splitting.{unsplit}
use Rattle.lockfree_c.proofs.held.Held.split_boxed.Goals as goal

pub returns-in_default-clause-gives : goal.returns-in_default-clause-gives
returns-in_default-clause-gives c = unsplit c.args.self.now

use Rattle.treiber_stack.proofs.bulk.ranging.Stack+T.begin_copies.Goals as goal

pub returns : goal.returns
returns g c = c.begin.ensures c.args.values.now c.put_of_copies.ensures

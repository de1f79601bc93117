use Rattle.script.proofs.Laws.{answered_script, answered_fault, answered_only}
use Rattle.script.proofs.reading.parse.Goals as goal

pub returns-clause-script : goal.returns-clause-script
returns-clause-script c = answered_script c.args.text.now c.read_script.result c.read_script.ensures

pub returns-clause-fault : goal.returns-clause-fault
returns-clause-fault c = answered_fault c.args.text.now c.read_script.result c.read_script.ensures

pub returns-clause-only : goal.returns-clause-only
returns-clause-only c = answered_only c.args.text.now c.read_script.result c.read_script.ensures

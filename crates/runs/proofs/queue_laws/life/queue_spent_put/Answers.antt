use Rattle.runs.proofs.queue.Lives.{spent}
use Rattle.runs.proofs.queue_laws.life.queue_spent_put.Goals as goal

pub returns : goal.returns
returns g c = λ n limit some_cell small some_tag o v begun x word t ran. spent n limit some_cell small some_tag o v begun x word t ran

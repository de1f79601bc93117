-- The jobs of the workers.
use Rattle.relay.specs.declared.messages.Message.{Message}
use Rattle.relay.specs.declared.outcome.Taken.{Taken}
use Rattle.relay.specs.declared.workers.Job.{Job}
use Rattle.relay.specs.declared.workers.Done.{Done}
use Rattle.relay.specs.declared.workers.ProducerEnd.{ProducerEnd}
use Rattle.relay.specs.declared.workers.ConsumerEnd.{ConsumerEnd}

abbrev pub Sender : Type 0 → Type 0
Sender P = Job P Message

abbrev pub Sent : Type 0 → Type 0
Sent P = Done P Message ProducerEnd

abbrev pub Taker : Type 0 → Type 0
Taker P = Job P Taken

abbrev pub Took : Type 0 → Type 0
Took P = Done P Taken ConsumerEnd

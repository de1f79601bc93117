use Rattle.std.proofs.Common.{refl}
use Rattle.example_rule.proofs.Putting.{after_put, after_refusal, has_number, next_deals}
use Rattle.example_rule.proofs.producer.put_next.Goals as goal

pub put_as-pass-requires-clause-deal : goal.put_as-pass-requires-clause-deal
put_as-pass-requires-clause-deal g c = next_deals c.args.stream.now c.args.by c.requires.producer c.of.result c.of.ensures

pub returns-in-Ok-clause-producer : goal.returns-in-Ok-clause-producer
returns-in-Ok-clause-producer g c =
    after_put c.args.stream.now c.args.by c.requires.producer c.of.result c.put_as-pass.result.0 c.put_as-pass.ensures.of c.in-Ok.number _ refl (rw c.in-Ok.is at c.put_as-pass.ensures.gives)

pub returns-in-Ok-clause-next : goal.returns-in-Ok-clause-next
returns-in-Ok-clause-next g c = (
  has_number c.args.stream.now c.args.by c.requires.producer c.of.result c.put_as-pass.result.0 c.put_as-pass.ensures.of c.in-Ok.number (rw c.in-Ok.is at c.put_as-pass.ensures.gives),
  refl,
)

pub returns-in-Err-clause-producer : goal.returns-in-Err-clause-producer
returns-in-Err-clause-producer g c =
    after_refusal c.args.stream.now c.args.by c.requires.producer c.of.result c.put_as-pass.result.0 c.put_as-pass.ensures.of c.in-Err.refused (rw c.in-Err.is at c.put_as-pass.ensures.gives)

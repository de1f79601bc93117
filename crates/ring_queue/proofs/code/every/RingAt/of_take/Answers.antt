use Rattle.ring_queue.proofs.code.every.RingAt.of_take.Goals as goal

pub returns-clause-makes : goal.returns-clause-makes
returns-clause-makes g c = λ on is. record { call = is.call; under_way = record { named = is.under_way.named; stands = record { at = is.under_way.stands.at; knows = is.under_way.stands.knows } } }

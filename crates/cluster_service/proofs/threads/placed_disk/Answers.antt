use Rattle.cluster_service.proofs.threads.placed_disk.Goals as goal

pub returns-clause-durable : goal.returns-clause-durable
returns-clause-durable g c = λ is_open told. (c.args.placed.seat.log.records, c.into_disk.ensures.settled is_open told)

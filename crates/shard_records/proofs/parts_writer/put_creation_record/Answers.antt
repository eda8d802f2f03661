use Rattle.std.proofs.lemmas.Result.{on_ok_weaker}
use Rattle.shard_records.proofs.parts_writer.put_creation_record.Goals as goal

pub returns-clause-readable : goal.returns-clause-readable
returns-clause-readable c = on_ok_weaker c.put_creation.result (λ sound. (sound, c.put_creation.ensures.text)) c.put_creation.ensures.sound

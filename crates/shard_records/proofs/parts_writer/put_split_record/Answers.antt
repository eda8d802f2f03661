use Rattle.std.proofs.lemmas.Result.{on_ok_weaker}
use Rattle.shard_records.proofs.parts_writer.put_split_record.Goals as goal

pub returns-clause-readable : goal.returns-clause-readable
returns-clause-readable c = on_ok_weaker c.put_split.result (λ sound. (sound, (c.put_split.ensures.text, c.requires))) c.put_split.ensures.sound

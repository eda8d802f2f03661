use Rattle.shard_records.proofs.Puts.{both_ok}
use Rattle.shard_records.proofs.tables.put_table_record.Goals as goal

pub returns-clause-readable : goal.returns-clause-readable
returns-clause-readable c = both_ok _ _ c.put_table.result c.put_table.ensures.sound c.put_table.ensures.held

use Rattle.std.specs.Int.{w32, to_le_bytes}
use Rattle.bson_values.proofs.Puts.{written_over}
use Rattle.bson_values.proofs.writer.set_u32.Goals as goal

pub returns : goal.returns
returns c = written_over c.args.at c.args.bytes.now c.write_u32.new.buf (to_le_bytes w32 c.args.n) c.write_u32.ensures

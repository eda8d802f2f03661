use Rattle.std.proofs.Common.{drop, arith}
use Rattle.std.proofs.lemmas.Grind.{common_steps}
use Rattle.outside_memory.proofs.Parts.{taken_from}
use Rattle.outside_memory.proofs.source.MemSourceSource.take.Goals as goal

pub returns-clause-took : goal.returns-clause-took
returns-clause-took c =
    let whole = taken_from c.self.inside.bytes.items c.copy_from_slice.new.self (drop c.min-n.result c.args.buf.now) c.self.inside.at c.min-n.result (grind (arith, common_steps)) (grind (arith, common_steps)) in
    rw (← c.self.view_is) whole

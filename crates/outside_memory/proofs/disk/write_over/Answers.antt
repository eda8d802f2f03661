use Rattle.std.proofs.Common.{arith, rules}
use Rattle.std.proofs.lemmas.Grind.{common_steps}
use Rattle.outside_memory.proofs.Parts.{written_over}
use Rattle.outside_memory.proofs.disk.write_over.Goals as goal

pub returns-clause-ok : goal.returns-clause-ok
returns-clause-ok c =
    let grown = c.in_ok-grow_to.ensures in
    let reached = c.in-Some.ensures in
    written_over c.args.bytes.now.items c.grow_to.new.bytes.items c.write_within.new.bytes c.args.piece.now c.args.at c.grow_to.new.bytes.len
    (search rules) (grind (arith, common_steps)) (grind (arith, common_steps)) (search rules)

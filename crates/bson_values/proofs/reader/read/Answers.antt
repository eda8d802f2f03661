use Rattle.std.proofs.Common.{arith}
use Rattle.bson_values.proofs.FirstFault.{is_first, is_faulty}
use Rattle.bson_values.proofs.Whole.{is_found, is_only}
use Rattle.bson_values.proofs.reader.read.Goals as goal

pub returns-clause-found : goal.returns-clause-found
returns-clause-found c =
    is_found c.args.bytes.now c.read_exactly.result (λ i. omega (arith, c.type_inv.bytes i)) c.read_exactly.ensures.exact

pub returns-clause-only : goal.returns-clause-only
returns-clause-only c = λ ms n le reads low. is_only c.args.bytes.now c.read_exactly.result ms n c.read_exactly.ensures.exact le reads low

pub returns-clause-first : goal.returns-clause-first
returns-clause-first c =
    is_first c.args.bytes.now c.read_exactly.result (λ i. omega (arith, c.type_inv.bytes i)) c.read_exactly.ensures.exact

pub returns-clause-faulty : goal.returns-clause-faulty
returns-clause-faulty c =
    is_faulty c.args.bytes.now c.read_exactly.result (λ i. omega (arith, c.type_inv.bytes i)) c.read_exactly.ensures.exact

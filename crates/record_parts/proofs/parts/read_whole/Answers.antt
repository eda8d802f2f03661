use Rattle.std.proofs.Common.{arith}
use Rattle.record_parts.proofs.Documents.{found_fault, found_whole}
use Rattle.record_parts.proofs.parts.read_whole.Goals as goal

pub returns-in-Ok-clause-found : goal.returns-in-Ok-clause-found
returns-in-Ok-clause-found c =
    let read = c.in-Ok.ensures.found in
    found_whole c.args.bytes.now c.in-Ok.found.0 c.in-Ok.found.1 read.0 read.1 read.2

pub returns-in-Err-clause-found : goal.returns-in-Err-clause-found
returns-in-Err-clause-found c =
    found_fault c.args.bytes.now c.in-Err.fault c.fault_of.result (λ i. omega (arith, c.type_inv.bytes i)) c.fault_of.ensures c.in-Err.ensures.first

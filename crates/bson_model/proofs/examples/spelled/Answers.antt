-- By the lengths and the levels.
use Rattle.std.proofs.Common.{[], arith}
use Rattle.std.specs.Prelude.{pos}
use Rattle.bson_model.specs.Grammar.{ReadsAs}
use Rattle.bson_model.specs.SampleDocuments.{id_document}
use Rattle.bson_model.proofs.Sample.{id_reads, nested_depth}
use Rattle.bson_model.proofs.examples.spelled.Goals as goal

reads_nothing : ReadsAs [] (id_document (pos 1)) → ⊥
reads_nothing reads = let e = reads.1 in cc

pub returns-clause-reads : goal.returns-clause-reads
returns-clause-reads c = (id_reads, reads_nothing)

pub returns-clause-depth : goal.returns-clause-depth
returns-clause-depth c = (omega (arith, nested_depth 99), λ low. omega (arith, nested_depth 100))

use Rattle.std.proofs.Common.{◌↔◌, drop}
use Rattle.std.specs.List.{AllByRecursion}
use Rattle.base_model.specs.Names.{IsDatabaseByte}
use Rattle.cluster_base.proofs.namespace.has_database_bytes.Given as goal

-- the bytes that were visited are such bytes
abbrev pub invariant-loop-b : goal.invariant-loop-b
invariant-loop-b l = AllByRecursion IsDatabaseByte (drop l.b-index l.name) ↔ AllByRecursion IsDatabaseByte l.name

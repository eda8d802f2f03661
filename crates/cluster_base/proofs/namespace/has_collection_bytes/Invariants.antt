use Rattle.std.proofs.Common.{◌↔◌, drop}
use Rattle.std.specs.List.{AllByRecursion}
use Rattle.base_model.specs.Names.{IsCollectionByte}
use Rattle.cluster_base.proofs.namespace.has_collection_bytes.Given as goal

-- the bytes that were visited are such bytes
abbrev pub invariant-loop-b : goal.invariant-loop-b
invariant-loop-b l = AllByRecursion IsCollectionByte (drop l.b-index l.name) ↔ AllByRecursion IsCollectionByte l.name

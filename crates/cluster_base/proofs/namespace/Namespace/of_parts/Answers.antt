use Rattle.std.proofs.Common.{rules, ◌≡◌, ◌↔◌, IsTrue, IfOk, IsErrOf, ℕ, ◌+◌, ◌-◌, ◌*◌, ◌<◌, ◌≤◌, length, ◌/◌, ◌%◌, Bool, true, false, nat_eq, nat_lt, List, [], ◌∷◌, ◌++◌, slice_index_or, slice_set, bit_and, bit_or, Fits, w8, w32, w64, Bor, MutBor}
use Rattle.std.specs.List.{AllByRecursion}
use Rattle.base_model.specs.Names.{IsDatabaseByte, IsDatabaseName, IsCollectionByte, IsCollectionName, MakeNamespace, IsNamespace, full_name, is_reserved}
use Rattle.cluster_base.specs.declared.namespace.NameFault.TheVariants.{Memory as out_of_memory}
use Rattle.cluster_base.proofs.namespace.Namespace.of_parts.Goals as goal

-- src/namespace.rt:165:9
pub invariant_of-result : goal.invariant_of-result
invariant_of-result c = search rules

-- src/namespace.rt:156:5
pub returns-clause-ok : goal.returns-clause-ok
returns-clause-ok c = search rules

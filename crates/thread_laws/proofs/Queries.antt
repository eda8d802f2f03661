-- What filters, projections, sorts and groups are read as may go to other threads.
use denote.Param.Send.{IsSend, IsSync, sendable}
use Rattle.std.proofs.Crossing.{crosses}
use Rattle.match_expr.proofs.tree.Clauses.TheLaws.TheKnot as knot
use Rattle.std.proofs.MapsCrossing as maps
use Rattle.bson_values.proofs.text.Name.TheSendSync.{the_send as Name-send, the_sync as Name-sync}
use Rattle.field_paths.proofs.path.Path.TheSendSync.{the_send as Path-send, the_sync as Path-sync}
use Rattle.group_accum.proofs.spec.Extreme.TheSendSync.{the_field_send as Extreme-send, the_field_sync as Extreme-sync}
use Rattle.match_expr.proofs.tree.Connective.TheSendSync.{the_field_send as Connective-send, the_field_sync as Connective-sync}
use Rattle.thread_laws.proofs.Values.{Array-send, Array-sync, Key-send, Key-sync, Value-send, Value-sync}
use Rattle.match_expr.specs.contracts.operand_list.OperandList as OperandList
use Rattle.match_expr.specs.contracts.tree.Clauses as Clauses
use Rattle.match_expr.specs.contracts.expr.Expr as Expr
use Rattle.group_accum.specs.contracts.spec.Operand as Operand
use Rattle.group_accum.specs.contracts.spec.Accumulator as Accumulator
use Rattle.group_accum.specs.contracts.spec.GroupField as GroupField
use Rattle.group_accum.specs.contracts.spec.GroupSpec as GroupSpec
use Rattle.group_accum.specs.contracts.key.GroupKey as GroupKey
use Rattle.group_accum.specs.contracts.absorb.Cell as Cell
use Rattle.group_accum.specs.contracts.partials.PartialList as PartialList

pub OperandList-send : IsSend OperandList.the_field.row
OperandList-send = search (sendable, crosses, Array-send, Value-send) depth 30

pub OperandList-sync : IsSync OperandList.the_field.row
OperandList-sync = search (sendable, crosses, Array-sync, Value-sync) depth 30

pub Clauses-send : IsSend Clauses.the_field.row
Clauses-send = search (sendable, crosses, knot.crosses, Path-send, Value-send, Connective-send, OperandList-send, Array-send) depth 30

pub Clauses-sync : IsSync Clauses.the_field.row
Clauses-sync = search (sendable, crosses, knot.crosses, Path-sync, Value-sync, Connective-sync, OperandList-sync, Array-sync) depth 30

pub Expr-send : IsSend Expr.the_field.row
Expr-send = search (sendable, crosses, Clauses-send, Key-send) depth 30

pub Expr-sync : IsSync Expr.the_field.row
Expr-sync = search (sendable, crosses, Clauses-sync, Key-sync) depth 30

pub Operand-send : IsSend Operand.the_field.row
Operand-send = search (sendable, crosses, Path-send, Value-send) depth 30

pub Operand-sync : IsSync Operand.the_field.row
Operand-sync = search (sendable, crosses, Path-sync, Value-sync) depth 30

pub Accumulator-send : IsSend Accumulator.the_field.row
Accumulator-send = search (sendable, crosses, Operand-send, Extreme-send) depth 30

pub Accumulator-sync : IsSync Accumulator.the_field.row
Accumulator-sync = search (sendable, crosses, Operand-sync, Extreme-sync) depth 30

pub GroupField-send : IsSend GroupField.the_field.row
GroupField-send = search (sendable, crosses, Name-send, Accumulator-send) depth 30

pub GroupField-sync : IsSync GroupField.the_field.row
GroupField-sync = search (sendable, crosses, Name-sync, Accumulator-sync) depth 30

pub GroupSpec-send : IsSend GroupSpec.the_field.row
GroupSpec-send = search (sendable, crosses, Operand-send, GroupField-send) depth 30

pub GroupSpec-sync : IsSync GroupSpec.the_field.row
GroupSpec-sync = search (sendable, crosses, Operand-sync, GroupField-sync) depth 30

pub GroupKey-send : IsSend GroupKey.the_field.row
GroupKey-send = search (sendable, crosses, Value-send) depth 30

pub Cell-send : IsSend Cell.the_field.row
Cell-send = search (sendable, crosses, Value-send) depth 30

pub PartialList-send : IsSend PartialList.the_field.row
PartialList-send = search (sendable, crosses, maps.crosses, GroupKey-send, Cell-send) depth 30

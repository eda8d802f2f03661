use Rattle.std.proofs.Common.{◌≡◌, ◌++◌, ◌<◌, ◌^◌, Option, map}
use Rattle.std.specs.List.{AllByRecursion}
use Rattle.std.specs.Vec.Iter.{into_iter_items}
use Rattle.command_model.specs.Writes.{ClientNumber}
use Rattle.command_model.specs.CommandSizes.{IsKeepable}
use Rattle.base_model.specs.Identities as identities
use Rattle.node_model.specs.RouterRequests as requested
use Rattle.protocol_model.specs.Statements.{statement_view}
use Rattle.statement_views.specs.Views.{operation_view}
use Rattle.router_replies.proofs.statements.statements_of.Given as goal

abbrev pub invariant-loop-words : goal.invariant-loop-words
invariant-loop-words l = record {
  fits : l.index < 2 ^ 32;
  keepable : AllByRecursion IsKeepable (map operation_view (into_iter_items l.words-iterator));
  puts : (given : Option ClientNumber) (id : identities.RequestId) → map (λ s. statement_view given id s) l.statements.items ++ requested.statements_from given id l.index (map operation_view (into_iter_items l.words-iterator))
      ≡ requested.statements_from given id 0 (map operation_view l.fn.operations.items);
}

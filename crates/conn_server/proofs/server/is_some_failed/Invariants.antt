use Rattle.std.proofs.Common.{◌≡◌, drop}
use Rattle.conn_server.specs.Conversations.{some_failed}
use Rattle.conn_server.proofs.server.is_some_failed.Given as goal

-- the nodes that are left decide
abbrev pub invariant-nodes : goal.invariant-nodes
invariant-nodes g l = some_failed (drop l.node-index l.nodes) ≡ some_failed l.nodes

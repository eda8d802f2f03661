use Rattle.std.specs.Prelude.{ℕ, ◌-◌}
use Rattle.std.proofs.Common.{subst}
use Rattle.any_node.specs.Kinds.{state_of}
use Rattle.journal_starts.specs.Records.{IsOpened, part_at}
use Rattle.cluster_top.proofs.Openers.{opened_as}
use Rattle.cluster_top.proofs.opener.OpenerOpensAnyNodeJournal.node.Goals as goal

pub returns-in-Ok-open_node : goal.returns-in-Ok-open_node
returns-in-Ok-open_node g c =
    opened_as (part_at (c.args.self.now.shards - 1) c.args.at) c.args.records (state_of c.in-Ok-open_node.node)
    (subst (λ (n : ℕ). IsOpened (part_at (c.args.self.now.shards - 1) n) c.args.records (state_of c.in-Ok-open_node.node)) c.in-Ok.ensures.1
    c.in-Ok-open_node.ensures.opened)

use Rattle.std.proofs.Common.{ap, sym, ◌∙◌}
use Rattle.chunk_catalogue.specs.Views.{change_view}
use Rattle.chunk_model.specs.Changes.{commit_change}
use Rattle.config_node.proofs.Copies.{written_as}
use Rattle.shard_records.specs.MoveViews.{commit_view}
use Rattle.config_node.proofs.plan.put_change.Goals as goal

pub returns-in_ok-commit-in-Commit-clause-ok : goal.returns-in_ok-commit-in-Commit-clause-ok
returns-in_ok-commit-in-Commit-clause-ok c =
    let made = c.in_ok-commit-in-Commit in
    written_as (commit_change (commit_view made.commit)) _ c.write_commit.result _ _ (ap commit_change made.ensures ∙ sym (ap change_view c.in-Commit.is))
    c.write_commit.ensures.ok

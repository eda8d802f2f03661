use Rattle.std.specs.Prelude.{[], ◌∷◌}
use Rattle.std.proofs.lemmas.Result.{on_ok_weaker}
use Rattle.record_model.specs.MoveFormat.{spelled_commit}
use Rattle.shard_records.specs.MoveViews.{commit_view}
use Rattle.shard_records.proofs.Puts.{then, both_ok}
use Rattle.shard_records.proofs.parts_writer.put_commit_record.Goals as goal

pub returns-clause-ok : goal.returns-clause-ok
returns-clause-ok c =
    on_ok_weaker c.put_commit.result
    (λ last. then c.args.out.now.items (1 ∷ 0x22 ∷ []) (spelled_commit (commit_view c.args.commit.now)) c.in_ok-put_head.ensures.ok last)
    c.put_commit.ensures.ok

pub returns-clause-readable : goal.returns-clause-readable
returns-clause-readable c = both_ok _ _ c.put_commit.result c.put_commit.ensures.sound c.put_commit.ensures.held

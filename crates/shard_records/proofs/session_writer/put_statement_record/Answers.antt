use Rattle.std.proofs.Common.{ℕ, List, ◌++◌}
use Rattle.std.proofs.lemmas.Result.{on_ok_weaker}
use Rattle.statement_views.specs.Views.{outcome_view}
use Rattle.record_model.specs.RecordFormat.{four, eight, spelled_outcome}
use Rattle.shard_records.proofs.Puts.{then}
use Rattle.shard_records.proofs.session_writer.put_statement_record.Goals as goal

pub returns-clause-ok : goal.returns-clause-ok
returns-clause-ok c =
    let m = c.args.kept.now in
    let b1 : List ℕ = eight m.time.0 ++ spelled_outcome (outcome_view m.reply) in
    on_ok_weaker c.put_reply.result
    (λ last. then c.args.out.now.items (four m.index) b1 c.in_ok-put_u32.ensures.ok
    (then c.put_u32.new.out.items (eight m.time.0) (spelled_outcome (outcome_view m.reply)) c.in_ok-put_u64.ensures.ok
    (last)))
    c.put_reply.ensures.ok

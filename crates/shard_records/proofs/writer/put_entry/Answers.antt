use Rattle.std.specs.Prelude.{◌++◌}
use Rattle.std.proofs.lemmas.Result.{on_ok_weaker}
use Rattle.record_model.specs.RecordFormat.{eight, spelled_string, spelled_number, spelled_operation, spelled_outcome}
use Rattle.statement_views.specs.Views.{number_view}
use Rattle.shard_records.specs.Meanings.{operation_lent, outcome_view}
use Rattle.shard_records.proofs.Puts.{then}
use Rattle.shard_records.proofs.writer.put_entry.Goals as goal

pub returns-clause-ok : goal.returns-clause-ok
returns-clause-ok c =
    let time = eight c.args.time.0 in
    let namespace = spelled_string c.args.namespace.now in
    let number = spelled_number (number_view c.args.statement.now) in
    let words = spelled_operation (operation_lent c.args.words.now) in
    let outcome = spelled_outcome (outcome_view c.args.reply.now) in
    on_ok_weaker c.put_reply.result
    (λ last. then c.args.out.now.items time (namespace ++ (number ++ (words ++ outcome))) c.in_ok-put_u64.ensures.ok
    (then c.put_u64.new.out.items namespace (number ++ (words ++ outcome)) c.in_ok-put_namespace.ensures.ok
    (then c.put_namespace.new.out.items number (words ++ outcome) c.in_ok-put_statement.ensures.ok
    (then c.put_statement.new.out.items words outcome c.in_ok-put_operation.ensures.ok last))))
    c.put_reply.ensures.ok

pub returns-clause-held : goal.returns-clause-held
returns-clause-held c =
    on_ok_weaker c.put_reply.result (λ last. (c.put_namespace.ensures.text, (c.requires.words, c.requires.upserted))) c.put_reply.ensures.ok

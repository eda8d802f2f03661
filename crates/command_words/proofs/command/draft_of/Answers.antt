use Rattle.std.proofs.Common.{◌≡◌, arith, Some}
use Rattle.opmsg_frames.specs.Lists.{pairs_of}
use Rattle.opmsg_frames.specs.RequestMeanings.{form_view}
use Rattle.command_model.specs.Command.{form_of, hello_command, legacy_command, ping_command, end_sessions_command, write_command, find_command, count_command, more_command, kill_command, shard_collection_command, split_command}
use Rattle.command_model.specs.Forms.{made_into}
use Rattle.command_replies.specs.Kinds.{kind_view}
use Rattle.command_model.specs.Hello.{hello_form}
use Rattle.command_model.specs.IsMaster.{legacy_form}
use Rattle.command_model.specs.Ping.{ping_form}
use Rattle.command_model.specs.EndSessions.{end_sessions_form}
use Rattle.command_model.specs.Writes.{write_form}
use Rattle.command_model.specs.Find.{find_form}
use Rattle.command_model.specs.Aggregate.{aggregate_form}
use Rattle.command_model.specs.Count.{count_form}
use Rattle.command_model.specs.GetMore.{more_form}
use Rattle.command_model.specs.KillCursors.{kill_form}
use Rattle.command_model.specs.ShardCollection.{shard_collection_form}
use Rattle.command_model.specs.Split.{split_form}
use Rattle.command_words.specs.Drafts.{Drafts}
use Rattle.command_words.proofs.Asked.{told_by}
use Rattle.command_words.proofs.command.draft_of.Goals as goal

pub returns-in-Hello : goal.returns-in-Hello
returns-in-Hello c =
    let found : Some (made_into (λ hello. hello_command) hello_form) ≡ form_of c.own-item.result.name = rw (c.in-Hello.is, c.as_str.ensures.text) at c.in-Some.ensures.found in
    told_by (λ told. Drafts c.args.document.now (pairs_of c.args.sequences.now) c.read_by.result told) (made_into (λ hello. hello_command) hello_form) (form_view c.args.sent) c.args.document.now c.fields.result.now c.own-item.result
    (pairs_of c.args.sequences.now) (omega (arith, c.in-len1-up.len_at_least)) c.own-item.is c.fields.ensures.fields found (λ others is. c.read_by.ensures c.own-item.result.name others tt is)

pub returns-in-IsMaster : goal.returns-in-IsMaster
returns-in-IsMaster c =
    let found : Some (made_into legacy_command legacy_form) ≡ form_of c.own-item.result.name = rw (c.in-IsMaster.is, c.as_str.ensures.text) at c.in-Some.ensures.found in
    told_by (λ told. Drafts c.args.document.now (pairs_of c.args.sequences.now) c.read_by-in-IsMaster.result told) (made_into legacy_command legacy_form) (form_view c.args.sent) c.args.document.now c.fields.result.now c.own-item.result
    (pairs_of c.args.sequences.now) (omega (arith, c.in-len1-up.len_at_least)) c.own-item.is c.fields.ensures.fields found (λ others is. c.read_by-in-IsMaster.ensures c.own-item.result.name others tt is)

pub returns-in-Ping : goal.returns-in-Ping
returns-in-Ping c =
    let found : Some (made_into (λ ping. ping_command) ping_form) ≡ form_of c.own-item.result.name = rw (c.in-Ping.is, c.as_str.ensures.text) at c.in-Some.ensures.found in
    told_by (λ told. Drafts c.args.document.now (pairs_of c.args.sequences.now) c.read_by-in-Ping.result told) (made_into (λ ping. ping_command) ping_form) (form_view c.args.sent) c.args.document.now c.fields.result.now c.own-item.result
    (pairs_of c.args.sequences.now) (omega (arith, c.in-len1-up.len_at_least)) c.own-item.is c.fields.ensures.fields found (λ others is. c.read_by-in-Ping.ensures c.own-item.result.name others tt is)

pub returns-in-EndSessions : goal.returns-in-EndSessions
returns-in-EndSessions c =
    let found : Some (made_into (λ end_sessions. end_sessions_command) end_sessions_form) ≡ form_of c.own-item.result.name = rw (c.in-EndSessions.is, c.as_str.ensures.text) at c.in-Some.ensures.found in
    told_by (λ told. Drafts c.args.document.now (pairs_of c.args.sequences.now) c.read_by-in-EndSessions.result told) (made_into (λ end_sessions. end_sessions_command) end_sessions_form) (form_view c.args.sent) c.args.document.now c.fields.result.now c.own-item.result
    (pairs_of c.args.sequences.now) (omega (arith, c.in-len1-up.len_at_least)) c.own-item.is c.fields.ensures.fields found (λ others is. c.read_by-in-EndSessions.ensures c.own-item.result.name others tt is)

pub returns-in-Write : goal.returns-in-Write
returns-in-Write c =
    let found : Some (made_into write_command (write_form (kind_view c.in-Write.form.kind))) ≡ form_of c.own-item.result.name = rw (c.in-Write.is, c.as_str.ensures.text) at c.in-Some.ensures.found in
    told_by (λ told. Drafts c.args.document.now (pairs_of c.args.sequences.now) c.read_by-in-Write.result told) (made_into write_command (write_form (kind_view c.in-Write.form.kind))) (form_view c.args.sent) c.args.document.now c.fields.result.now c.own-item.result
    (pairs_of c.args.sequences.now) (omega (arith, c.in-len1-up.len_at_least)) c.own-item.is c.fields.ensures.fields found (λ others is. c.read_by-in-Write.ensures c.own-item.result.name others (rw (c.in-Write.is, c.as_str.ensures.text) at c.in-Some.ensures.named) is)

pub returns-in-Find : goal.returns-in-Find
returns-in-Find c =
    let found : Some (made_into find_command find_form) ≡ form_of c.own-item.result.name = rw (c.in-Find.is, c.as_str.ensures.text) at c.in-Some.ensures.found in
    told_by (λ told. Drafts c.args.document.now (pairs_of c.args.sequences.now) c.read_by-in-Find.result told) (made_into find_command find_form) (form_view c.args.sent) c.args.document.now c.fields.result.now c.own-item.result
    (pairs_of c.args.sequences.now) (omega (arith, c.in-len1-up.len_at_least)) c.own-item.is c.fields.ensures.fields found (λ others is. c.read_by-in-Find.ensures c.own-item.result.name others tt is)

pub returns-in-Aggregate : goal.returns-in-Aggregate
returns-in-Aggregate c =
    let found : Some (made_into find_command aggregate_form) ≡ form_of c.own-item.result.name = rw (c.in-Aggregate.is, c.as_str.ensures.text) at c.in-Some.ensures.found in
    told_by (λ told. Drafts c.args.document.now (pairs_of c.args.sequences.now) c.read_by-in-Aggregate.result told) (made_into find_command aggregate_form) (form_view c.args.sent) c.args.document.now c.fields.result.now c.own-item.result
    (pairs_of c.args.sequences.now) (omega (arith, c.in-len1-up.len_at_least)) c.own-item.is c.fields.ensures.fields found (λ others is. c.read_by-in-Aggregate.ensures c.own-item.result.name others tt is)

pub returns-in-Count : goal.returns-in-Count
returns-in-Count c =
    let found : Some (made_into count_command count_form) ≡ form_of c.own-item.result.name = rw (c.in-Count.is, c.as_str.ensures.text) at c.in-Some.ensures.found in
    told_by (λ told. Drafts c.args.document.now (pairs_of c.args.sequences.now) c.read_by-in-Count.result told) (made_into count_command count_form) (form_view c.args.sent) c.args.document.now c.fields.result.now c.own-item.result
    (pairs_of c.args.sequences.now) (omega (arith, c.in-len1-up.len_at_least)) c.own-item.is c.fields.ensures.fields found (λ others is. c.read_by-in-Count.ensures c.own-item.result.name others tt is)

pub returns-in-GetMore : goal.returns-in-GetMore
returns-in-GetMore c =
    let found : Some (made_into more_command more_form) ≡ form_of c.own-item.result.name = rw (c.in-GetMore.is, c.as_str.ensures.text) at c.in-Some.ensures.found in
    told_by (λ told. Drafts c.args.document.now (pairs_of c.args.sequences.now) c.read_by-in-GetMore.result told) (made_into more_command more_form) (form_view c.args.sent) c.args.document.now c.fields.result.now c.own-item.result
    (pairs_of c.args.sequences.now) (omega (arith, c.in-len1-up.len_at_least)) c.own-item.is c.fields.ensures.fields found (λ others is. c.read_by-in-GetMore.ensures c.own-item.result.name others (rw (c.in-GetMore.is, c.as_str.ensures.text) at c.in-Some.ensures.named) is)

pub returns-in-KillCursors : goal.returns-in-KillCursors
returns-in-KillCursors c =
    let found : Some (made_into kill_command kill_form) ≡ form_of c.own-item.result.name = rw (c.in-KillCursors.is, c.as_str.ensures.text) at c.in-Some.ensures.found in
    told_by (λ told. Drafts c.args.document.now (pairs_of c.args.sequences.now) c.read_by-in-KillCursors.result told) (made_into kill_command kill_form) (form_view c.args.sent) c.args.document.now c.fields.result.now c.own-item.result
    (pairs_of c.args.sequences.now) (omega (arith, c.in-len1-up.len_at_least)) c.own-item.is c.fields.ensures.fields found (λ others is. c.read_by-in-KillCursors.ensures c.own-item.result.name others tt is)

pub returns-in-ShardCollection : goal.returns-in-ShardCollection
returns-in-ShardCollection c =
    let found : Some (made_into shard_collection_command shard_collection_form) ≡ form_of c.own-item.result.name = rw (c.in-ShardCollection.is, c.as_str.ensures.text) at c.in-Some.ensures.found in
    told_by (λ told. Drafts c.args.document.now (pairs_of c.args.sequences.now) c.read_by-in-ShardCollection.result told) (made_into shard_collection_command shard_collection_form) (form_view c.args.sent) c.args.document.now c.fields.result.now c.own-item.result
    (pairs_of c.args.sequences.now) (omega (arith, c.in-len1-up.len_at_least)) c.own-item.is c.fields.ensures.fields found (λ others is. c.read_by-in-ShardCollection.ensures c.own-item.result.name others tt is)

pub returns-in-Split : goal.returns-in-Split
returns-in-Split c =
    let found : Some (made_into split_command split_form) ≡ form_of c.own-item.result.name = rw (c.in-Split.is, c.as_str.ensures.text) at c.in-Some.ensures.found in
    told_by (λ told. Drafts c.args.document.now (pairs_of c.args.sequences.now) c.read_by-in-Split.result told) (made_into split_command split_form) (form_view c.args.sent) c.args.document.now c.fields.result.now c.own-item.result
    (pairs_of c.args.sequences.now) (omega (arith, c.in-len1-up.len_at_least)) c.own-item.is c.fields.ensures.fields found (λ others is. c.read_by-in-Split.ensures c.own-item.result.name others (rw (c.in-Split.is, c.as_str.ensures.text) at c.in-Some.ensures.named) is)

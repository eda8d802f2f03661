-- The program's answers, by the definitions.
use Rattle.command_model.specs.Answers as model
use Rattle.command_replies.specs.declared.answer.Answer.{Answer}
use Rattle.command_replies.specs.declared.answer.Answer.TheVariants.{Hello, Legacy, Done, Write, First, Next, Count, Killed, Sharded, Changed, Refused}
use Rattle.command_replies.specs.Cursors.{batch_view}
use Rattle.command_replies.specs.Errors.{errors_view}
use Rattle.command_replies.specs.Kinds.{kind_view}
use Rattle.command_replies.specs.Refusals.{refusal_view}
use Rattle.command_replies.specs.Upserts.{upserted_view}

abbrev pub answer_view : Answer → model.Answer
answer_view (Hello moment) = model.hello_answer moment
answer_view (Legacy moment shown) = model.legacy_answer moment shown
answer_view Done = model.done_answer
answer_view (Write kind count modified upserted errors time) = model.write_answer (kind_view kind) (record {
  count = count;
  modified = modified;
  upserted = upserted_view upserted.items;
  errors = errors_view errors.items;
  time = time.0;
})
answer_view (First batch) = model.first_answer (batch_view batch)
answer_view (Next batch) = model.next_answer (batch_view batch)
answer_view (Count count time) = model.count_answer count time.0
answer_view (Killed killed missing) = model.killed_answer killed.items missing.items
answer_view (Sharded namespace time) = model.sharded_answer namespace time.0
answer_view (Changed time) = model.changed_answer time.0
answer_view (Refused refusal) = model.refusal_answer (refusal_view refusal)

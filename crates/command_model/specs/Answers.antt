-- The documents that answer commands.
use Rattle.std.specs.Prelude.{ℕ, ℤ, List, Bool, codes}
use Rattle.bson_model.specs.Tree.{Fields}
use Rattle.base_model.specs.Refusals.{Refusal}
use Rattle.base_model.specs.ReplyParts.{refusal_reply}
use Rattle.command_model.specs.Hello.{hello_document}
use Rattle.command_model.specs.IsMaster.{legacy_document}
use Rattle.command_model.specs.Handshake.{done_document}
use Rattle.command_model.specs.Writes.{WriteKind, WriteSummary, write_document}
use Rattle.command_model.specs.Count.{count_document}
use Rattle.command_model.specs.Cursors.{Batch, batch_document}
use Rattle.command_model.specs.KillCursors.{killed_document}
use Rattle.command_model.specs.AdminCommands.{changed_document}
use Rattle.command_model.specs.ShardCollection.{sharded_document}

pub data Answer : Type 0 where
  -- to `hello`, with the router's last moment
  hello_answer : ℕ → Answer
  -- to `isMaster`, with the old field names, and whether `helloOk` is shown
  legacy_answer : ℕ → Bool → Answer
  -- to `ping` and `endSessions`
  done_answer : Answer
  -- the joint outcome of its statements
  write_answer : WriteKind → WriteSummary → Answer
  -- to `find` and `aggregate`, and to `getMore`
  first_answer : Batch → Answer
  next_answer : Batch → Answer
  -- the number of documents, and the time of the read
  count_answer : ℕ → ℕ → Answer
  -- the cursors that were closed, and those that were not found
  killed_answer : (killed missing : List ℤ) → Answer
  -- to `shardCollection`: the collection's full name, and the time of the reply
  sharded_answer : (namespace : List ℕ) → (time : ℕ) → Answer
  -- to `split`: the time of the reply
  changed_answer : (time : ℕ) → Answer
  refusal_answer : Refusal → Answer

-- the document of an answer
abbrev pub answer_document : Answer → Fields
answer_document (hello_answer moment) = hello_document moment
answer_document (legacy_answer moment shown) = legacy_document moment shown
answer_document done_answer = done_document
answer_document (write_answer kind told) = write_document kind told
answer_document (first_answer batch) = batch_document (codes "firstBatch") batch
answer_document (next_answer batch) = batch_document (codes "nextBatch") batch
answer_document (count_answer n time) = count_document n time
answer_document (killed_answer killed missing) = killed_document killed missing
answer_document (sharded_answer namespace time) = sharded_document namespace time
answer_document (changed_answer time) = changed_document time
answer_document (refusal_answer refusal) = refusal_reply refusal

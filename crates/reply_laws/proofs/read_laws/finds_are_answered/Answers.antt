-- By what is right of a find.
use Rattle.std.proofs.Common.{◌≡◌, ◌⊎◌, inl, inr, List}
use Rattle.std.specs.Prelude.{Some, Ok}
use Rattle.std.specs.Option.{unwrap_or}
use Rattle.bson_model.specs.Tree.{Fields}
use Rattle.command_model.specs.Find.{Find}
use Rattle.command_model.specs.Cursors.{Batch}
use Rattle.command_model.specs.Command.{find_command}
use Rattle.command_model.specs.Answers.{answer_document, first_answer}
use Rattle.pipeline_model.specs.Batches.{IsBatch}
use Rattle.pipeline_model.specs.Runs.{listed}
use Rattle.reply_model.specs.Exchanges.{Asked, Answered}
use Rattle.reply_model.specs.Accounts.{Account}
use Rattle.reply_model.specs.Cursors.{Cursor}
use Rattle.reply_model.specs.Reads.{IsTimeRead, MayGive}
use Rattle.reply_model.specs.Right.{usual_size}
use Rattle.reply_laws.specs.UnfinishedReads.{IsUnfinished}
use Rattle.reply_laws.proofs.Quiet.{unfinished}
use Rattle.reply_facts.proofs.RightAnswers.{RightBy, right_of}
use Rattle.reply_facts.proofs.Freshness.{answer_right}
use Rattle.reply_laws.proofs.read_laws.finds_are_answered.Goals as goal

tells : (account : Account) (cursors next : List Cursor) (a : Asked)
    (t : Answered) (find : Find)
    → RightBy account cursors a t (Ok (find_command find)) next
    → ((documents : List Fields) × (batch : Batch) × IsTimeRead a t find.reading batch.time × MayGive account.history find.reading batch.time (listed documents)
    × IsBatch (Some (unwrap_or find.batches.size usual_size)) documents batch.documents × (batch.namespace ≡ find.reading.namespace)
    × (t.document ≡ answer_document (first_answer batch)))
    ⊎ IsUnfinished account a t find.reading
tells account cursors next a t find (inl first) =
    inl (first.documents, first.batch, first.time, first.gives, first.shows.batch_of, first.name, first.says)
tells account cursors next a t find (inr refused) = inr (unfinished account cursors a t find.reading refused.0)

pub returns : goal.returns
returns c account a t find one told asks =
    let r = answer_right account one a t told in
    tells account r.cursors r.next a t find
    (right_of account r.cursors a t (Ok (find_command find)) r.next asks r.right)

-- By what is right of a count.
use Rattle.std.proofs.Common.{◌≡◌, ◌⊎◌, inl, inr, List, ℕ, codes}
use Rattle.std.specs.Prelude.{Ok}
use Rattle.command_model.specs.Reading.{Reading}
use Rattle.command_model.specs.Command.{count_command}
use Rattle.command_model.specs.Answers.{answer_document, count_answer}
use Rattle.pipeline_model.specs.Runs.{count_documents, listed}
use Rattle.reply_model.specs.Exchanges.{Asked, Answered}
use Rattle.reply_model.specs.Accounts.{Account}
use Rattle.reply_model.specs.Cursors.{Cursor}
use Rattle.reply_model.specs.Reads.{IsTimeRead, MayGive}
use Rattle.reply_laws.specs.UnfinishedReads.{IsUnfinished}
use Rattle.reply_laws.proofs.Quiet.{unfinished}
use Rattle.reply_facts.proofs.RightAnswers.{RightBy, right_of}
use Rattle.reply_facts.proofs.Freshness.{answer_right}
use Rattle.reply_laws.proofs.read_laws.counts_are_answered.Goals as goal

tells : (account : Account) (cursors next : List Cursor) (a : Asked)
    (t : Answered) (reading : Reading)
    → RightBy account cursors a t (Ok (count_command reading)) next
    → ((time n : ℕ) × IsTimeRead a t reading time × MayGive account.history reading time (listed (count_documents (codes "n") n))
    × (t.document ≡ answer_document (count_answer n time)))
    ⊎ IsUnfinished account a t reading
tells account cursors next a t reading (inl counted, same) =
    inl (counted.time, counted.number, counted.read, counted.gives, counted.says)
tells account cursors next a t reading (inr refused, same) = inr (unfinished account cursors a t reading refused)

pub returns : goal.returns
returns c account a t reading one told asks =
    let r = answer_right account one a t told in
    tells account r.cursors r.next a t reading
    (right_of account r.cursors a t (Ok (count_command reading)) r.next asks r.right)

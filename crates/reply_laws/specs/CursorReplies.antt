-- How the replies about one cursor follow one another.
use Rattle.std.specs.Prelude.{◌≡◌, ◌≢◌, pos, List, [], ◌∷◌, ◌++◌, Ok, false}
use Rattle.bson_model.specs.Tree.{Fields}
use Rattle.command_model.specs.Command.{find_command, more_command, kill_command, command_of}
use Rattle.command_model.specs.Find.{Find}
use Rattle.command_model.specs.Cursors.{Batch}
use Rattle.command_model.specs.GetMore.{GetMore}
use Rattle.command_model.specs.KillCursors.{KillCursors}
use Rattle.command_model.specs.Answers.{first_answer, next_answer, answer_document}
use Rattle.history_model.specs.History.{IsIn}
use Rattle.reply_model.specs.Exchanges.{Answered}

-- a find or an aggregate returned a first batch, and the number of a new cursor for the others
pub record OpensCursor (s : Answered) (find : Find) (first : Batch) : Type 0 where
  pub asks : command_of s.request ≡ Ok (find_command find)
  pub told : s.document ≡ answer_document (first_answer first)
  pub name : first.namespace ≡ find.reading.namespace
  pub opens : first.cursor ≢ pos 0

abbrev pub IsOfLife : (s t : Answered) → Type 0
IsOfLife s t = (t.id.router ≡ s.id.router) × (t.id.life ≡ s.id.life)

-- the request is for the next batch of the cursor that `s` returned
pub record AsksMore (s : Answered) (first : Batch) (t : Answered) : Type 0 where
  pub more : GetMore
  pub asks : command_of t.request ≡ Ok (more_command more)
  pub number : more.cursor ≡ first.cursor
  pub name : more.namespace ≡ first.namespace
  pub life : IsOfLife s t

-- it closes that cursor
pub record AsksToClose (s : Answered) (first : Batch) (t : Answered) : Type 0 where
  pub kill : KillCursors
  pub asks : command_of t.request ≡ Ok (kill_command kill)
  pub number : IsIn first.cursor kill.cursors
  pub name : kill.namespace ≡ first.namespace
  pub life : IsOfLife s t

-- The replies after `s`, none of which ends the cursor: the documents of its next batches, one after another. A request that gets no reply
-- leaves the cursor as it is.
pub data Shows (s : Answered) (first : Batch) : List Answered → (documents : List Fields) → Type 0 where
  shows_nothing : Shows s first [] []
  shows_batch : (t : Answered) (later : List Answered) (batch : Batch) (documents : List Fields) → AsksMore s first t → t.request.more ≡ false
      → t.document ≡ answer_document (next_answer batch) → batch.cursor ≡ first.cursor → Shows s first later documents
      → Shows s first (t ∷ later) (batch.documents ++ documents)
  shows_other : (t : Answered) (later : List Answered) (documents : List Fields) → ¬ (AsksMore s first t × (t.request.more ≡ false)) → ¬ AsksToClose s first t
      → Shows s first later documents → Shows s first (t ∷ later) documents

-- the reply ends the cursor: it shows the last batch, or the request closes the cursor
pub data EndsCursor (s : Answered) (first : Batch) (t : Answered) : Type 0 where
  shows_last : (batch : Batch) → AsksMore s first t → t.request.more ≡ false → t.document ≡ answer_document (next_answer batch) → batch.cursor ≡ pos 0
      → EndsCursor s first t
  closes : AsksToClose s first t → EndsCursor s first t

-- No cursor is opened for them, and none is moved on.
use Rattle.std.proofs.Common.{◌≡◌, ℕ, ℤ, List, inl, inr, refl, true, sym, ◌∙◌}
use Rattle.std.specs.Prelude.{Bool, false, ◌||◌, Ok}
use Rattle.bson_model.specs.Tree.{Fields}
use Rattle.command_model.specs.Find.{Find}
use Rattle.command_model.specs.GetMore.{GetMore}
use Rattle.command_model.specs.Command.{find_command, more_command}
use Rattle.base_model.specs.Identities.{RequestId}
use Rattle.reply_model.specs.Exchanges.{Asked, Answered}
use Rattle.reply_model.specs.Accounts.{Account}
use Rattle.reply_model.specs.Cursors.{Cursor, Opens, opens_none, opens_one}
use Rattle.reply_model.specs.Right.{asks_for_one}
use Rattle.reply_facts.proofs.RightAnswers.{RightBy, right_of}
use Rattle.reply_laws.proofs.CursorBatches.{unless_silent_is}
use Rattle.reply_laws.proofs.cursor_laws.silent_reads_leave.Goals as goal

or_true : (b c : Bool) → c ≡ true → (b || c) ≡ true
or_true true c e = refl
or_true false c e = e

opens_none_more : (id : RequestId) (single : Bool) (namespace : List ℕ) (time : ℕ) (cursors : List Cursor) (rest : List Fields) (number : ℤ)
    (next : List Cursor)
    → single ≡ true → Opens id single namespace time cursors rest number next → next ≡ cursors
opens_none_more id single namespace time cursors rest number next silent (opens_none r why) = refl
opens_none_more id single namespace time cursors rest number next silent (opens_one r n some more new) =
    absurd (let e : true ≡ false = sym silent ∙ more in cc)

found : (account : Account) (cursors next : List Cursor) (a : Asked)
    (t : Answered) (find : Find)
    → a.request.more ≡ true → RightBy account cursors a t (Ok (find_command find)) next → next ≡ cursors
found account cursors next a t find silent (inl told) =
    opens_none_more _ (asks_for_one find.batches a.request) _ _ cursors _ _ next (or_true find.batches.single a.request.more silent) told.shows.opens
found account cursors next a t find silent (inr refused) = refused.1

shown : (account : Account) (cursors next : List Cursor) (a : Asked)
    (t : Answered) (more : GetMore)
    → a.request.more ≡ true → RightBy account cursors a t (Ok (more_command more)) next → next ≡ cursors
shown account cursors next a t more silent (inl told) = told.then ∙ unless_silent_is a.request cursors told.shown silent
shown account cursors next a t more silent (inr none) = none.1

pub returns-clause-find : goal.returns-clause-find
returns-clause-find c account cursors next a t find right asks silent =
    found account cursors next a t find silent
    (right_of account cursors a t (Ok (find_command find)) next asks right)

pub returns-clause-more : goal.returns-clause-more
returns-clause-more c account cursors next a t more right asks silent =
    shown account cursors next a t more silent
    (right_of account cursors a t (Ok (more_command more)) next asks right)

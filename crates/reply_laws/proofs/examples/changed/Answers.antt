-- The entries are the statements' own, and their outcomes are what they did.
use Rattle.std.proofs.Common.{◌≡◌, inl, List, [], ◌∷◌, refl, sym, ap, codes, arith}
use Rattle.std.specs.Prelude.{false, true, None}
use Rattle.command_laws.specs.SampleCommands.{change_one}
use Rattle.command_laws.specs.SampleRequests.{five, long_five, with_id}
use Rattle.command_model.specs.Writes.{WriteCommand, delete_kind, update_kind}
use Rattle.history_model.specs.History.{StatementNumber, delete_operation, router_session, update_operation}
use Rattle.reply_laws.specs.SampleExchanges.{changed_reply, changing, changing_entry, deleted_reply, deleting, deleting_entry, first_entry, tells, three_writes, account_of}
use Rattle.bson_model.specs.Tree.{Fields}
use Rattle.reply_model.specs.Cursors.{Cursor}
use Rattle.reply_model.specs.Right.{IsRight}
use Rattle.reply_model.specs.OneHistory.{AreNumbered}
use Rattle.reply_laws.proofs.OwnWrites.{own_right, own_says}
use Rattle.reply_laws.proofs.examples.changed.Goals as goal

first_two : first_entry.number ≡ changing_entry.number → ⊥
first_two e = let sessions : router_session 2 1 1 ≡ router_session 2 1 2 = ap (λ (n : StatementNumber). n.session) e in cc

first_three : first_entry.number ≡ deleting_entry.number → ⊥
first_three e = let sessions : router_session 2 1 1 ≡ router_session 2 1 3 = ap (λ (n : StatementNumber). n.session) e in cc

two_three : changing_entry.number ≡ deleting_entry.number → ⊥
two_three e = let sessions : router_session 2 1 2 ≡ router_session 2 1 3 = ap (λ (n : StatementNumber). n.session) e in cc

pub returns-clause-legal : goal.returns-clause-legal
returns-clause-legal c = (
  record { rises = tt; told = refl; once = tt },
  (
    record { rises = (inl (omega arith), tt); told = refl; once = ((λ same. first_two same.number), tt) },
    (
      record {
        rises = (inl (omega arith), (inl (omega arith), tt));
        told = refl;
        once = ((λ same. first_three same.number), ((λ same. two_three same.number), tt));
      },
      tt,
    ),
  ),
)

abbrev changes : WriteCommand
changes = record {
  kind = update_kind;
  namespace = codes "d.c";
  operations = update_operation (with_id five) change_one false ∷ [];
  ordered = true;
  number = None;
}

abbrev deletes : WriteCommand
deletes = record { kind = delete_kind; namespace = codes "d.c"; operations = delete_operation (with_id long_five) ∷ []; ordered = true; number = None }

pub returns-clause-updated : goal.returns-clause-updated
returns-clause-updated c =
    own_right three_writes [] changing (tells changing 5 3 (changed_reply 1 1)) changes refl [] refl refl
    (record { part = (record { same_number = refl; name = refl; does = refl }, (λ e. refl), tt); all = refl }) (omega arith, tt) refl (omega arith) refl

pub returns-clause-deleted : goal.returns-clause-deleted
returns-clause-deleted c =
    own_right three_writes [] deleting (tells deleting 7 4 (deleted_reply 1 4)) deletes refl [] refl refl
    (record { part = (record { same_number = refl; name = refl; does = refl }, (λ e. refl), tt); all = refl }) (omega arith, tt) refl (omega arith) refl

numbered : AreNumbered three_writes
numbered = (
  (record { apart = λ shard e. first_two (sym e); rises = λ shard e. refl }, (record { apart = λ shard e. first_three (sym e); rises = λ shard e. refl }, tt)),
  ((record { apart = λ shard e. two_three (sym e); rises = λ shard e. refl }, tt), (tt, tt)),
)

update_says : (document : Fields) (next : List Cursor) → IsRight (account_of three_writes [] []) [] changing (tells changing 5 3 document) next
    → document ≡ changed_reply 1 1
update_says document next right =
    own_says three_writes [] changing (tells changing 5 3 document) changes refl [] numbered (refl, (refl, (refl, tt)))
    (record { same_number = refl; name = refl; does = refl }, (λ e. refl), tt) next refl refl refl right

pub returns-clause-not_changed : goal.returns-clause-not_changed
returns-clause-not_changed c next right = let e = update_says (changed_reply 1 0) next right in cc

pub returns-clause-not_met : goal.returns-clause-not_met
returns-clause-not_met c next right = let e = update_says (changed_reply 0 0) next right in cc

pub returns-clause-not_deleted : goal.returns-clause-not_deleted
returns-clause-not_deleted c next right =
    let e : deleted_reply 0 4 ≡ deleted_reply 1 4 =
    own_says three_writes [] deleting (tells deleting 7 4 (deleted_reply 0 4)) deletes refl [] numbered (refl, (refl, (refl, tt)))
    (record { same_number = refl; name = refl; does = refl }, (λ e. refl), tt) next refl refl refl right in
    cc

-- The entries are the statements' own, and their outcomes are what they did.
use Rattle.std.proofs.Common.{◌≡◌, ◌<◌, ℤ, pos, List, [], ◌∷◌, refl, sym, ap, ◌∙◌, codes, arith}
use Rattle.std.specs.Prelude.{None, Some, false, true, int_lt}
use Rattle.command_laws.specs.SampleRequests.{five, six, with_id}
use Rattle.command_model.specs.Writes.{WriteCommand, delete_kind, update_kind}
use Rattle.history_model.specs.History.{StatementNumber, Entry, router_session, done, fails_with, delete_operation, update_operation}
use Rattle.reply_laws.specs.SampleExchanges.{entry_at, first_entry, deleted_reply, set_key, set_nothing, tells, unmet_delete, unmet_entries, upserting, upserting_entries, upserting_reply, account_of}
use Rattle.base_model.specs.Errors.{immutable_field}
use Rattle.bson_model.specs.Tree.{Fields}
use Rattle.reply_model.specs.Cursors.{Cursor}
use Rattle.reply_model.specs.Exchanges.{entries_by, number_for}
use Rattle.reply_model.specs.Right.{AreStatements, IsRight}
use Rattle.reply_model.specs.OneHistory.{KeepsNumbers, AreNumbered}
use Rattle.reply_laws.proofs.OwnWrites.{own_right, own_says, own_untold}
use Rattle.reply_laws.proofs.NumberedWrites.{gives_elsewhere}
use Rattle.reply_laws.proofs.examples.updates_told.Goals as goal

abbrev three_updates : WriteCommand
three_updates = record {
  kind = update_kind;
  namespace = codes "d.c";
  operations = update_operation (with_id five) set_nothing false ∷ update_operation (with_id six) set_nothing true ∷ update_operation
      (with_id five) set_key false ∷ [];
  ordered = false;
  number = None;
}

updates_done : AreStatements upserting.id three_updates.namespace three_updates.ordered 0 three_updates.operations (entries_by upserting.id upserting_entries)
updates_done = (
  record { same_number = refl; name = refl; does = refl },
  (λ e. absurd (cc)),
  (
    record { same_number = refl; name = refl; does = refl },
    (λ e. absurd (cc)),
    (record { same_number = refl; name = refl; does = refl }, (λ e. absurd (cc)), tt),
  ),
)

abbrev deletes_six : WriteCommand
deletes_six = record { kind = delete_kind; namespace = codes "d.c"; operations = delete_operation (with_id six) ∷ []; ordered = true; number = None }

pub returns-clause-right : goal.returns-clause-right
returns-clause-right c =
    own_right upserting_entries [] upserting (tells upserting 5 5 (upserting_reply 2 0 1)) three_updates refl [] refl refl
    (record { part = updates_done; all = refl })
    (omega arith, (omega arith, (omega arith, tt))) refl (omega arith) refl

pub returns-clause-unmet : goal.returns-clause-unmet
returns-clause-unmet c =
    own_right unmet_entries [] unmet_delete (tells unmet_delete 5 3 (deleted_reply 0 3)) deletes_six refl [] refl refl
    (record { part = (record { same_number = refl; name = refl; does = refl }, (λ e. refl), tt); all = refl }) (omega arith, tt) refl (omega arith) refl

abbrev nothing_set : Entry
nothing_set = record (entry_at 3 2 2 0 five done) { operation = update_operation (with_id five) set_nothing false }

abbrev put_in : Entry
put_in = record (entry_at 4 2 2 1 six (record done { upserted = Some six })) { operation = update_operation (with_id six) set_nothing true }

abbrev refused : Entry
refused = record (entry_at 5 2 2 2 five (fails_with immutable_field)) { operation = update_operation (with_id five) set_key false }

behind_first : (e : Entry) → e.number.session ≡ router_session 2 1 2 → e.number.transaction ≡ pos 0 → KeepsNumbers first_entry e
behind_first e session zero = record {
  apart = λ shard same. let sessions : router_session 2 1 2 ≡ router_session 2 1 1 = sym session ∙ ap (λ (n : StatementNumber). n.session) same in cc;
  rises = λ shard same. ap (λ (z : ℤ). int_lt z (pos 0)) zero;
}

behind : (d e : Entry) → d.number.index < e.number.index → d.number.transaction ≡ pos 0 → e.number.transaction ≡ pos 0 → KeepsNumbers d e
behind d e less first second = record {
  apart = λ shard same. omega (arith, less, ap (λ (n : StatementNumber). n.index) same);
  rises = λ shard same. ap (λ (z : ℤ). int_lt z d.number.transaction) second ∙ ap (λ (z : ℤ). int_lt (pos 0) z) first;
}

numbered : AreNumbered upserting_entries
numbered = (
  (behind_first nothing_set refl refl, (behind_first put_in refl refl, (behind_first refused refl refl, tt))),
  (
    (behind nothing_set put_in (omega arith) refl refl, (behind nothing_set refused (omega arith) refl refl, tt)),
    ((behind put_in refused (omega arith) refl refl, tt), (tt, tt)),
  ),
)

says : (document : Fields) (next : List Cursor) → IsRight (account_of upserting_entries [] []) [] upserting (tells upserting 5 5 document) next
    → document ≡ upserting_reply 2 0 1
says document next right =
    own_says upserting_entries [] upserting (tells upserting 5 5 document) three_updates refl [] numbered
    (refl, (refl, (refl, (refl, tt)))) updates_done next refl refl refl right

pub returns-clause-more_changed : goal.returns-clause-more_changed
returns-clause-more_changed c next right = let e = says (upserting_reply 2 2 1) next right in cc

pub returns-clause-more_met : goal.returns-clause-more_met
returns-clause-more_met c next right = let e = says (upserting_reply 3 0 1) next right in cc

pub returns-clause-another_index : goal.returns-clause-another_index
returns-clause-another_index c next right = let e = says (upserting_reply 2 0 0) next right in cc

pub returns-clause-unmet_without_entry : goal.returns-clause-unmet_without_entry
returns-clause-unmet_without_entry c next right =
    own_untold (first_entry ∷ []) [] unmet_delete 5 3 delete_kind true (delete_operation (with_id six)) [] refl refl
    (λ document. (gives_elsewhere [] (tells unmet_delete 5 3 document) (number_for None unmet_delete.id 0) (λ x. ⊥) first_entry (λ same. cc), tt))
    (deleted_reply 0 3) next right

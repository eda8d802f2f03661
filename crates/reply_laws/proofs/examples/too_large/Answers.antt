-- Nothing is kept under the key.
use Rattle.std.proofs.Common.{◌≡◌, [], ◌∷◌, refl, codes, arith}
use Rattle.std.specs.Prelude.{None, true}
use Rattle.command_laws.specs.SampleRequests.{deep, five, six, too_large_reply, with_id}
use Rattle.base_model.specs.Times.{timestamp}
use Rattle.command_model.specs.Writes.{WriteCommand, insert_kind}
use Rattle.history_model.specs.History.{insert_operation}
use Rattle.reply_model.specs.Reads.{own_time}
use Rattle.reply_laws.specs.SampleExchanges.{deep_asked, deep_entry, tells, finding, is_shown}
use Rattle.reply_laws.proofs.OwnWrites.{own_right}
use Rattle.reply_laws.proofs.KeyFinds.{key_find_right, tells_key}
use Rattle.reply_laws.proofs.examples.too_large.Goals as goal

abbrev inserts_deep : WriteCommand
inserts_deep = record {
  kind = insert_kind;
  namespace = codes "d.c";
  operations = insert_operation deep ∷ insert_operation (with_id six) ∷ [];
  ordered = true;
  number = None;
}

pub returns-clause-told : goal.returns-clause-told
returns-clause-told c =
    own_right (deep_entry ∷ []) [] deep_asked (tells deep_asked 3 2 too_large_reply) inserts_deep refl [] refl refl
    (record { part = (record { same_number = refl; name = refl; does = refl }, (λ e. refl), tt); all = refl }) (omega arith, tt) refl (omega arith) refl

pub returns-clause-not_found : goal.returns-clause-not_found
returns-clause-not_found c =
    key_find_right (deep_entry ∷ []) (finding five None) (is_shown five None [] 2) five None (timestamp 1000 2) [] refl (own_time refl tt) refl
    (omega arith) refl refl

pub returns-clause-not_shown : goal.returns-clause-not_shown
returns-clause-not_shown c next right =
    let e : [] ≡ deep ∷ [] =
    (tells_key (deep_entry ∷ []) (finding five None) (is_shown five None (deep ∷ []) 2) next five None (deep ∷ [])
    (timestamp 1000 2) right refl refl refl refl).documents_are in cc

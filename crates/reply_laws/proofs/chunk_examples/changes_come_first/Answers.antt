-- By the changes that were made by the step of the reply.
use Rattle.std.proofs.Common.{ℕ, List, [], ◌∷◌, inl, refl, arith, codes}
use Rattle.std.specs.Prelude.{true, None}
use Rattle.base_model.specs.Times.{timestamp}
use Rattle.command_laws.specs.SampleRequests.{five, with_id}
use Rattle.command_model.specs.Split.{SplitCommand}
use Rattle.command_model.specs.Writes.{WriteCommand, insert_kind}
use Rattle.chunk_model.specs.Changes.{create_change, split_table}
use Rattle.chunk_model.specs.SampleCollections.{creation}
use Rattle.chunk_model.specs.Tables.{first_table}
use Rattle.history_model.specs.History.{insert_operation}
use Rattle.history_model.proofs.Lists.{in_first, in_none}
use Rattle.reply_model.specs.Exchanges.{number_for}
use Rattle.reply_model.specs.Accounts.{Account}
use Rattle.reply_model.specs.Outcomes.{AnyDone, Done, done_of}
use Rattle.reply_model.specs.OneHistory.{Shows}
use Rattle.reply_model.specs.Right.{AreTold, WasSplit, right_shard, right_split, told_own}
use Rattle.reply_laws.proofs.Quiet.{quiet_of}
use Rattle.reply_laws.proofs.OwnWrites.{was_done_own}
use Rattle.reply_laws.specs.SampleExchanges.{created, first, first_entry, first_told, account_by}
use Rattle.reply_laws.specs.SampleChunks.{created_in, sharding, split_in, split_once, splitting, told_sharded, told_split}
use Rattle.reply_laws.proofs.CausedReplies.{by_shard, by_split, by_write, caused_by, made_by}
use Rattle.reply_laws.proofs.ChunkReplies.{NeverBegins, changed_differs, unsplit}
use Rattle.reply_laws.proofs.chunk_examples.changes_come_first.Goals as goal

-- A CREATION

pub returns-clause-created : goal.returns-clause-created
returns-clause-created c =
    caused_by (account_by (created_in 5) [] (sharding ∷ []) []) (told_sharded 2)
    (by_shard (account_by (created_in 5) [] (sharding ∷ []) []) sharding (told_sharded 2) (codes "d.c") (made_by (created_in 5) (told_sharded 2) refl (omega arith)), tt)

pub returns-clause-created_later : goal.returns-clause-created_later
returns-clause-created_later c is =
    let was = is.created sharding (codes "d.c") (record { taken = in_first sharding []; own = refl; asks = refl }) refl in
    in_none (create_change was.creation) was.begun

pub returns-clause-right_later : goal.returns-clause-right_later
returns-clause-right_later c = right_shard (codes "d.c") refl
    (record { creation = creation; begun = in_first (create_change creation) []; name = refl; before = omega arith }) refl

-- A SPLIT

abbrev at_five : SplitCommand
at_five = record { namespace = codes "d.c"; middle = five }

split_five : WasSplit (split_once five) (codes "d.c") five (timestamp 1000 3)
split_five = record {
  later = [];
  older = split_once five;
  table = split_table five (first_table creation);
  all = refl;
  past = (omega arith, (omega arith, tt));
  known = refl;
  bound = refl;
}

pub returns-clause-split : goal.returns-clause-split
returns-clause-split c =
    caused_by (account_by (split_in 7) [] (splitting ∷ []) []) (told_split 3)
    (by_split (account_by (split_in 7) [] (splitting ∷ []) []) splitting (told_split 3) at_five (λ says. split_five) (λ says. absurd (changed_differs (timestamp 1000 3) says)), tt)

never_by_creation : (time : ℕ) → NeverBegins time created
never_by_creation time = ((λ past begins. cc), tt)

pub returns-clause-split_later : goal.returns-clause-split_later
returns-clause-split_later c is =
    unsplit created (told_split 3) (never_by_creation (timestamp 1000 3))
    (is.begins splitting at_five (record { taken = in_first splitting []; own = refl; asks = refl }) refl)

pub returns-clause-split_right : goal.returns-clause-split_right
returns-clause-split_right c = right_split at_five refl split_five refl

-- A WRITE

abbrev inserts_five : WriteCommand
inserts_five = record { kind = insert_kind; namespace = codes "d.c"; operations = insert_operation (with_id five) ∷ []; ordered = true; number = None }

abbrev both_in : ℕ → Account
both_in step = account_by (created_in step) (first_entry ∷ []) (first ∷ []) []

write_shown : Shows (both_in 3) first first_told inserts_five
write_shown = record {
  dones = done_of first_entry ∷ [];
  told = (refl, told_own first_entry (in_first first_entry []) (record { same_number = refl; name = refl; does = refl }) (omega arith), refl);
  same = refl;
}

pub returns-clause-write : goal.returns-clause-write
returns-clause-write c =
    caused_by (both_in 3) first_told
    (by_write (both_in 3) first first_told inserts_five (λ own. write_shown) (made_by (created_in 3) first_told refl (omega arith)), tt)

any_done : (dones : List Done) → AreTold (both_in 4) first first_told inserts_five 0 inserts_five.operations dones → AnyDone dones
any_done [] told = absurd told
any_done (d ∷ dones) told =
    inl (was_done_own (both_in 4) first first_told (quiet_of (both_in 4) first first_told refl refl refl) (number_for None first_told.id 0) (codes "d.c")
    (insert_operation (with_id five)) d.answer told.1)

pub returns-clause-write_later : goal.returns-clause-write_later
returns-clause-write_later c is =
    let caused = is.written first inserts_five (record { taken = in_first first []; own = refl; asks = refl }) in
    let was = caused.created (any_done caused.shown.dones caused.shown.told) in
    in_none (create_change was.creation) was.begun

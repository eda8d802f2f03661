-- Journals to try the definitions on: those of docs/JOURNAL.md, and records that may not follow in them.
use Rattle.std.specs.Prelude.{◌≡◌, ℕ, List, [], ◌∷◌, ◌++◌, codes, pos, true, Some, None, is_some}
use Rattle.base_model.specs.Errors.{duplicate_key}
use Rattle.base_model.specs.Times.{timestamp}
use Rattle.bson_model.specs.Tree.{int32_value}
use Rattle.chunk_model.specs.Catalogue.{Split}
use Rattle.chunk_model.specs.SampleCollections.{creation}
use Rattle.chunk_model.specs.Tables.{first_table}
use Rattle.history_model.specs.History.{Entry, client_session, fails_with}
use Rattle.history_model.specs.SampleEntries.{first_entry, second_entry, entry_at}
use Rattle.record_model.specs.Records.{Record, table_record, create_record, split_record, life_record, block_record, record_of}
use Rattle.node_replay.specs.Durable.{DurableState, durable_catalogue, durable_shard, durable_router, empty_catalogue, empty_shard, empty_router}
use Rattle.node_replay.specs.Replays.{replayed}

-- the catalogue creates d.c, and splits it at 10
abbrev pub the_catalogue : DurableState
the_catalogue = durable_catalogue (empty_catalogue 0)

abbrev pub split : Split
split = record { namespace = codes "d.c"; middle = int32_value (pos 10); at = timestamp 1000 2 }

abbrev pub catalogue_journal : List Record
catalogue_journal = create_record creation ∷ split_record split ∷ []

-- the shard learns of d.c, and {_id: 1} is inserted twice: the second time it is there
abbrev pub the_shard : DurableState
the_shard = durable_shard (empty_shard 1)

abbrev pub shard_journal : List Record
shard_journal = table_record (first_table creation) ∷ record_of first_entry ∷ record_of second_entry ∷ []

abbrev pub one_table : List Record
one_table = table_record (first_table creation) ∷ []

abbrev pub one_entry : List Record
one_entry = table_record (first_table creation) ∷ record_of first_entry ∷ []

-- a router begins a life and takes a block, begins another and takes another
abbrev pub the_router : DurableState
the_router = durable_router (empty_router 2 1)

abbrev pub router_journal : List Record
router_journal = life_record 1 ∷ block_record 0 ∷ life_record 2 ∷ block_record 1 ∷ []

-- a later insert of {_id: 1} by a client's session, which finds that document, with this transaction
abbrev pub of_client : ℕ → ℕ → Entry
of_client time transaction = record (entry_at time 3 (fails_with duplicate_key)) {
  number = record { session = client_session (codes "0123456789abcdef"); transaction = pos transaction; index = 0 };
}

-- these records replay, and with the next one they do not
abbrev pub Refuses : DurableState → List Record → Record → Type 0
Refuses empty records next = (is_some (replayed (Some empty) records) ≡ true) × (replayed (Some empty) (records ++ next ∷ []) ≡ None)

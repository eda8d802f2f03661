-- The records of entries.
use Rattle.std.specs.Prelude.{ℕ, List}
use Rattle.cluster_base.specs.declared.identity.Stmt.{Stmt}
use Rattle.node_traits.specs.History.{Operation}
use Rattle.shard_records.specs.Meanings.{number_view}
use Rattle.shard_records.specs.Records.{Record, entry_record, outcome_words}
use Rattle.shard_store.specs.Outcomes.{outcome_view}
use Rattle.shard_store.specs.declared.outcome.EntryResult.{EntryResult}

-- the record of a statement's entry
abbrev pub entry_record_of : EntryResult → List ℕ → Stmt → Operation → Record
entry_record_of told namespace statement operation = entry_record (record {
  time = told.time.0;
  namespace = namespace;
  number = number_view statement;
  operation = operation;
  outcome = outcome_words (outcome_view told.outcome);
})

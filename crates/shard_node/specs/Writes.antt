-- Statements that are served in one step, and the records of their entries.
use Rattle.std.specs.Prelude.{◌≡◌, ℕ, List, ◌++◌, map, Option}
use Rattle.std.specs.List.{AllByRecursion}
use Rattle.std.specs.Option.{option_map}
use Rattle.node_traits.specs.History.{Entry}
use Rattle.node_traits.specs.Letters.{Statement}
use Rattle.protocol_model.specs.Statements.{done_view}
use Rattle.shard_requests.specs.Results.{record_in}
use Rattle.shard_requests.specs.declared.answers.StatementResult.{StatementResult}
use Rattle.shard_records.specs.Records.{record_of}
use Rattle.shard_records.specs.RecordFormat.{spelled}
use Rattle.shard_records.specs.Readable.{IsReadable}
use Rattle.shard_store.specs.Plans.{IsServed}

abbrev pub spellings_of : List Entry → List (List ℕ)
spellings_of entries = map (λ e. spelled 1 (record_of e)) entries

-- these bytes are the records of the entries, and say what they are
pub record AreKept (entries : List Entry) (records : List (List ℕ)) : Type 0 where
  pub spelled : records ≡ spellings_of entries
  pub readable : AllByRecursion (λ e. IsReadable (record_of e)) entries

-- A statement is served after these entries and those that were made: it makes some more, with their records.
pub record IsStep (shard : ℕ) (namespace : List ℕ) (entries made : List Entry) (time : ℕ) (s : Statement) (served : Option StatementResult)
    (made_then : List Entry) (after : ℕ) : Type 0 where
  pub more : List Entry
  pub grown : made_then ≡ made ++ more
  pub served_is : IsServed shard namespace (entries ++ made) time s (option_map (λ x. done_view x.done) served) more after
  pub kept : AreKept more (record_in served)

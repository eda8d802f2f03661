-- Journals of two shards to try the definitions on.
use Rattle.std.specs.Prelude.{ℕ, List, [], ◌∷◌, false, pos}
use Rattle.base_model.specs.Errors.{bad_value}
use Rattle.history_model.specs.History.{Entry, insert_operation, delete_operation, done, fails_with}
use Rattle.history_model.specs.SampleEntries.{entry_at, with_x, changed_one, setting, array_key}

-- {_id: n, x: 5} is inserted at this time on this shard; each such entry has the same statement number
abbrev pub inserted_at : ℕ → ℕ → ℕ → Entry
inserted_at shard time n = record (entry_at time 1 done) { shard = shard; operation = insert_operation (with_x (pos n) (pos 5)) }

-- x of the document under 1 becomes 7 at 5, on the shard 1
abbrev pub changed_at_five : Entry
changed_at_five = record (entry_at 5 2 changed_one) { operation = setting (pos 1) (pos 7) false }

-- the document under 2 is deleted at 4, on the shard 2
abbrev pub deleted_at_four : Entry
deleted_at_four = record (entry_at 4 3 done) { shard = 2; operation = delete_operation (with_x (pos 2) (pos 5)) }

abbrev pub first_journal : List Entry
first_journal = inserted_at 1 3 1 ∷ changed_at_five ∷ []

abbrev pub second_journal : List Entry
second_journal = inserted_at 2 3 2 ∷ deleted_at_four ∷ []

-- an insert without a key, at 3 on this shard
abbrev pub keyless_on : ℕ → Entry
keyless_on shard = record (entry_at 3 1 (fails_with bad_value)) { shard = shard; operation = insert_operation array_key }

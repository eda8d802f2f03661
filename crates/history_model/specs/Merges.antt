-- What a number is against the notes of two (MongoDB manual, "Retryable Writes"): as if the second's notes stood after those of the
-- first, so that of one number the first's is told (own).
use Rattle.std.specs.Int.{int_max}
use Rattle.history_model.specs.Notes.{Seen, new_statement, done_before, older_than}

module _ {A : Type 0} where
  -- older where either has a greater transaction, and by the greater one of both; else done where either has a note of it, and told by
  -- the first's if that has one; else new
  abbrev pub seen_by_both : Seen A → Seen A → Seen A
  seen_by_both new_statement other = other
  seen_by_both (done_before time told) (older_than transaction) = older_than transaction
  seen_by_both (done_before time told) other = done_before time told
  seen_by_both (older_than transaction) (older_than other) = older_than (int_max transaction other)
  seen_by_both (older_than transaction) other = older_than transaction

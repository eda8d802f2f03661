-- The change that a request for a move makes, where it makes one.
use Rattle.std.specs.Prelude.{ℕ}
use Rattle.chunk_model.specs.Changes.{Change, commit_change}
use Rattle.chunk_model.specs.Requests.{CatalogueAnswer, CommitWords, changed}

abbrev pub committed_by : CommitWords → ℕ → Change
committed_by words at = commit_change (record {
  id = words.id;
  namespace = words.namespace;
  range = words.range;
  from = words.from;
  to = words.to;
  at = at;
})

abbrev pub moved_answer : CommitWords → ℕ → CatalogueAnswer
moved_answer words at = changed (committed_by words at)

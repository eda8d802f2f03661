-- Statements that were served, with the records of their entries.
use Rattle.std.specs.Prelude.{ℕ, List, [], Option, Some, None}
use Rattle.node_traits.specs.Lists.{listed}
use Rattle.shard_requests.specs.declared.answers.StatementResult.{StatementResult}

-- the record of its entry, if one was served and makes one
abbrev pub record_in : Option StatementResult → List (List ℕ)
record_in None = []
record_in (Some served) = listed served.record

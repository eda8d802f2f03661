-- What is left of the clauses targets the key of the whole.
use Rattle.std.proofs.Common.{◌≡◌, drop}
use Rattle.query_model.specs.KeySpans.{key_asked}
use Rattle.query_model.specs.Queries.{no_clauses}
use Rattle.match_expr.specs.View.{query_before}
use Rattle.match_expr.proofs.keys.key_asked.Given as goal

abbrev pub invariant-loop-clause : goal.invariant-loop-clause
invariant-loop-clause l = key_asked (query_before (drop l.clause-index l.clause-items) no_clauses) ≡ key_asked l.query

-- What is left of the values makes of the keys what the whole does.
use Rattle.std.proofs.Common.{◌≡◌, [], drop}
use Rattle.bson_values.specs.View.{items_of}
use Rattle.query_model.specs.KeySpans.{with_keys}
use Rattle.query_model.specs.Paths.{elements}
use Rattle.match_expr.proofs.limits.keys_among.Given as goal

abbrev pub invariant-loop-value : goal.invariant-loop-value
invariant-loop-value l = with_keys l.keys.keys (elements (items_of (drop l.value-index l.value-items))) ≡ with_keys [] (elements l.array)

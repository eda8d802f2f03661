use Rattle.std.proofs.Common.{◌≡◌, drop}
use Rattle.bson_values.specs.Names.{has_no_zero}
use Rattle.bson_values.proofs.text.is_name.Given as goal

abbrev pub invariant-loop-b : goal.invariant-loop-b
invariant-loop-b l = has_no_zero (drop l.b-index l.b-items) ≡ has_no_zero l.text

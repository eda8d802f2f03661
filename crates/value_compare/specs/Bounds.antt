-- What a bound of the program is as plain data.
use Rattle.value_compare.specs.declared.span.Bound.{Bound}
use Rattle.value_compare.specs.declared.span.Bound.TheVariants.{MinKey, At, MaxKey}
use Rattle.value_model.specs.Keys as keys
use Rattle.value_model.specs.Keys.{min_bound, key_bound, max_bound}

abbrev pub bound_of : Bound → keys.Bound
bound_of MinKey = min_bound
bound_of (At key) = key_bound key
bound_of MaxKey = max_bound

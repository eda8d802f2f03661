-- Where a chunk can be split.
use Rattle.std.proofs.Common.{◌≡◌, refl, Ordering, Less, Equal, Greater}
use Rattle.std.specs.Prelude.{Bool, true, false, ◌&&◌, not}
use Rattle.std.specs.Ordering.{is_le, is_lt, is_eq}
use Rattle.bson_model.specs.Tree.{Datum, document_value, array_value, min_key_value, max_key_value}
use Rattle.value_model.specs.Order.{order}
use Rattle.value_model.specs.Keys.{is_key, Range, key_bound, order_bounds}
use Rattle.bson_model.proofs.Booleans.{both}
use Rattle.chunk_model.specs.Changes.{strictly_inside}

pub no_key_is_least : (key : Datum) → is_key key ≡ true → is_eq (order min_key_value key) ≡ false
no_key_is_least (document_value ms) e = absurd (cc e)
no_key_is_least (array_value ds) e = absurd (cc e)
no_key_is_least min_key_value e = absurd (cc e)
no_key_is_least max_key_value e = absurd (cc e)
no_key_is_least key e = refl

pub no_key_is_greatest : (key : Datum) → is_key key ≡ true → is_eq (order max_key_value key) ≡ false
no_key_is_greatest (document_value ms) e = absurd (cc e)
no_key_is_greatest (array_value ds) e = absurd (cc e)
no_key_is_greatest min_key_value e = absurd (cc e)
no_key_is_greatest max_key_value e = absurd (cc e)
no_key_is_greatest key e = refl

pub within : (low : Ordering) (high : Bool) → ((is_le low && high) && not (is_eq low)) ≡ (is_lt low && high)
within Less true = refl
within Less false = refl
within Equal true = refl
within Equal false = refl
within Greater high = refl

less_is : (o : Ordering) → is_lt o ≡ true → o ≡ Less
less_is Less e = refl
less_is Equal e = absurd cc
less_is Greater e = absurd cc

pub above_least : (key : Datum) (range : Range) → strictly_inside key range ≡ true → order_bounds range.min (key_bound key) ≡ Less
above_least key range e = less_is _ (both _ _ e).0

pub below_greatest : (key : Datum) (range : Range) → strictly_inside key range ≡ true → order_bounds (key_bound key) range.max ≡ Less
below_greatest key range e = less_is _ (both _ _ e).1

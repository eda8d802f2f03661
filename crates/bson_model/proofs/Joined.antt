-- Joining fields, and joining values.
use Rattle.std.proofs.Common.{◌≡◌, ℕ, List, ap, refl}
use Rattle.bson_model.specs.Tree.{Datum, Items, no_items, item, joined_items, Fields, no_fields, field, joined}

pub joined_none : (ms : Fields) → joined ms no_fields ≡ ms
joined_none no_fields = refl
joined_none (field name d ms) = ap (λ (rest : Fields). field name d rest) (joined_none ms)

pub joined_one : (ms rest : Fields) (name : List ℕ) (d : Datum) → joined (joined ms (field name d no_fields)) rest ≡ joined ms (field name d rest)
joined_one no_fields rest name d = refl
joined_one (field first value ms) rest name d = ap (λ (more : Fields). field first value more) (joined_one ms rest name d)

pub joined_items_none : (ds : Items) → joined_items ds no_items ≡ ds
joined_items_none no_items = refl
joined_items_none (item d ds) = ap (λ (rest : Items). item d rest) (joined_items_none ds)

pub joined_items_one : (ds rest : Items) (d : Datum) → joined_items (joined_items ds (item d no_items)) rest ≡ joined_items ds (item d rest)
joined_items_one no_items rest d = refl
joined_items_one (item first ds) rest d = ap (λ (more : Items). item first more) (joined_items_one ds rest d)

-- The places of chains.
use Rattle.std.specs.Prelude.{◌≡◌, ◌<◌, ℕ, List, Option, Some, None, true, length}
use Rattle.std.specs.BTreeMap.{BTreeMap, get_by}
use Rattle.std.specs.List.{slice_get}
use Rattle.bson_values.specs.Tree.{Datum}
use Rattle.value_compare.specs.Order.{order, same_value}
use Rattle.mvcc_collection.specs.Chains.{Past}

-- the chain at the place, if there is one
abbrev pub chain_at : List Past → Option ℕ → Option Past
chain_at chains None = None
chain_at chains (Some place) = slice_get chains place

-- each key that has a place has a chain there, and no other key has it
pub record AreApart (places : BTreeMap Datum ℕ) (chains : List Past) : Type 0 where
  pub inside : (key : Datum) (place : ℕ) → get_by (order key) places ≡ Some place → place < length chains
  pub own : (a b : Datum) (place : ℕ) → get_by (order a) places ≡ Some place → get_by (order b) places ≡ Some place → same_value a b ≡ true

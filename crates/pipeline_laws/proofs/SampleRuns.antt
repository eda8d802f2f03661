-- What the worked runs need: an order by one name, and a position in a list.
use Rattle.std.proofs.Common.{◌≡◌, ℕ, ◌<◌, ◌≤◌, List, [], ◌∷◌}
use Rattle.std.specs.Prelude.{true, leb, ltb, IsSortedBy, codes}
use Prim.Native.String.{String}
use borrow.Author.Tests.{leb-true, ltb-true}
use Rattle.bson_model.specs.Tree.{Fields}
use Rattle.pipeline_model.specs.SortKeys.{SortSpec, ascending, comes_before}
use Rattle.pipeline_model.proofs.OrderedLists.{sorted_from_up}
use Rattle.pipeline_laws.proofs.PartRows.{chain_of, one_way_of, IsUp}

abbrev pub by : String → SortSpec
by name = record { path = codes name ∷ []; direction = ascending } ∷ []

pub in_order_by : (name : String) (docs : List Fields) → IsUp (by name) docs → IsSortedBy (comes_before (by name)) docs
in_order_by name docs up = sorted_from_up (comes_before (by name)) (chain_of (by name)) (one_way_of (by name)) docs up

pub less : (k n : ℕ) → ltb k n ≡ true → k < n
less k n e = ltb-true k n e

pub at_most : (k n : ℕ) → leb k n ≡ true → k ≤ n
at_most k n e = leb-true k n e

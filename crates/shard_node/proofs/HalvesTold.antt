-- What is returned for a half is a transition of the shard.
use Rattle.std.proofs.Common.{◌≡◌, ℕ, List, [], ◌∷◌}
use Rattle.std.specs.Prelude.{Result, Ok, Err}
use Rattle.base_model.specs.Identities.{RequestId}
use Rattle.node_traits.specs.Letters.{HalfFault, half_overflow, half_excess, Letter, half_ask, read_rows, letter_input, sends}
use Rattle.node_traits.specs.ShardRows.{ShardRow, shard_rows, shard_excess, shard_overflow, at_later, heard, says}
use Rattle.node_traits.specs.States.{Shard}
use Rattle.node_traits.specs.Tree.{Fields}
use Rattle.pipeline_model.specs.Halves.{Half, Rows}
use Rattle.shard_requests.specs.Halves.{TellsHalf}

pub half_row : (s : Shard) (m : Letter) (id : RequestId) (turn : ℕ) (namespace : List ℕ) (at : ℕ) (half : Half) (documents : List Fields)
    (told : Result Rows HalfFault) → m.body ≡ half_ask id turn namespace at half documents → TellsHalf half documents told →
    ShardRow s (letter_input m) (sends (says s id.router (heard s m) (read_rows id turn told) ∷ [])) (at_later s (heard s m))
half_row s m id turn namespace at half documents (Ok rows) body told = shard_rows s m id turn namespace at half documents rows body told.0 told.1
half_row s m id turn namespace at half documents (Err half_overflow) body told = shard_overflow s m id turn namespace at half documents body told
half_row s m id turn namespace at half documents (Err (half_excess n)) body told =
    shard_excess s m id turn namespace at half documents told.0 told.1 n body told.2 told.3 told.4

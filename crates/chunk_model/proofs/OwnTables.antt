-- A version is not after itself, and agrees with itself.
use Rattle.std.proofs.Common.{◌≡◌, ℕ, arith, refl}
use Rattle.std.specs.Prelude.{true, false, Some}
use Rattle.std.proofs.lemmas.Bool.Decides.{nat_tests}
use Rattle.chunk_model.specs.Versions.{Version, agrees, is_later}
use Rattle.chunk_model.specs.Tables.{Table, collection_version, shard_version}
use Rattle.chunk_model.specs.Verdicts.{fits, sent_by, verdict_of}

not_behind : (v : Version) → is_later v v ≡ false
not_behind v = grind (arith, nat_tests)

agrees_itself : (v : Version) → agrees v v ≡ true
agrees_itself v = grind (arith, nat_tests)

pub own_table : (table : Table) (shard : ℕ) → verdict_of (sent_by table shard) shard (Some table) ≡ fits
own_table table shard = rw (not_behind (collection_version table), agrees_itself (shard_version table shard)) refl

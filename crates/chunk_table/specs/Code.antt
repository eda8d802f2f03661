-- How a table is compared with others: as its parts.
use Rattle.std.specs.Prelude.{ℕ, List, refl}
use Rattle.std.specs.Coded.{Coded, code_by, coded×, coded_list, coded_ℕ}
use Rattle.value_model.specs.Keys.{Range}
use Rattle.value_compare.specs.Code.{range_code}
use Rattle.chunk_model.specs.Versions.{Version}
use Rattle.chunk_model.specs.Tables.{Owned, Chunk, Table}

abbrev pub version_code : Coded Version
version_code =
    code_by (ℕ × (ℕ × ℕ)) (coded× coded_ℕ (coded× coded_ℕ coded_ℕ)) (λ v. (v.epoch, (v.major, v.minor))) (λ p. record { epoch = p.0; major = p.1.0; minor = p.1.1 }) (λ v. refl)

abbrev pub owned_code : Coded Owned
owned_code =
    code_by (ℕ × ℕ) (coded× coded_ℕ coded_ℕ) (λ o. (o.since, o.shard)) (λ p. record { since = p.0; shard = p.1 }) (λ o. refl)

abbrev pub owners_code : Coded (List Owned)
owners_code = coded_list owned_code

abbrev pub chunk_code : Coded Chunk
chunk_code =
    code_by (Range × (Version × List Owned)) (coded× range_code (coded× version_code owners_code)) (λ c. (c.range, (c.version, c.owners))) (λ p. record { range = p.0; version = p.1.0; owners = p.1.1 }) (λ c. refl)

abbrev pub table_code : Coded Table
table_code =
    code_by (List ℕ × (ℕ × (ℕ × (ℕ × List Chunk)))) (coded× (coded_list coded_ℕ) (coded× coded_ℕ (coded× coded_ℕ (coded× coded_ℕ (coded_list chunk_code))))) (λ t. (t.namespace, (t.epoch, (t.changes, (t.oldest, t.chunks))))) (λ p. record { namespace = p.0; epoch = p.1.0; changes = p.1.1.0; oldest = p.1.1.1.0; chunks = p.1.1.1.1 }) (λ t. refl)

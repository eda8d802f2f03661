-- A code that determines a list of tables: its parts.
use Rattle.std.specs.Prelude.{ℕ, List, refl}
use Rattle.std.specs.Coded.{Coded, code_by, coded×, coded_list, coded_ℕ}
use Rattle.chunk_table.specs.Code.{table_code}
use Rattle.chunk_model.specs.Tables.{Table}
use Rattle.route_cache.specs.Known.{Known}

abbrev pub known_code : Coded Known
known_code = code_by (List Table × ℕ) (coded× (coded_list table_code) coded_ℕ) (λ k. (k.tables, k.room)) (λ p. record { tables = p.0; room = p.1 }) (λ k. refl)

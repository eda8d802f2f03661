-- What reading gives: an insert of a document with a key, an update that begins as its filter says, and a delete.
use Rattle.std.proofs.Common.{◌≡◌, inl, inr, refl, sym, ap, subst}
use Rattle.std.specs.Prelude.{Bool, true, false, ◌&&◌, Option, Some, None, Result, Ok, Err, is_some, if◌then◌else◌}
use Rattle.std.specs.Result.{is_ok, result_map_both}
use Rattle.bson_model.specs.Tree.{Datum, Fields}
use Rattle.value_model.specs.Keys.{KeyFault, valid_key}
use Rattle.query_model.specs.Queries.{Query, QueryFault, bad_operand}
use Rattle.query_model.specs.Reading.{◌>>=◌, read_query}
use Rattle.query_model.specs.KeySpans.{key_equal}
use Rattle.query_model.specs.Changes.{Change, read_change}
use Rattle.query_model.specs.Writes.{Write, insert_write, update_write, read_insert, is_plain_query, start_of, read_start, read_update}
use Rattle.query_model.proofs.KeysStay.{BeginsAsRead}

started_with : (asked : Query) (change : Change) (start : Option Fields) (write : Write) → BeginsAsRead (update_write asked change start) →
    Path (Result Write QueryFault) (Ok (update_write asked change start)) (Ok write) → BeginsAsRead write
started_with asked change start write begins e =
    let same : update_write asked change start ≡ write = cc in subst (λ (w : Write). BeginsAsRead w) same begins

plain_begins : (plain keyed : Bool) (asked : Query) (change : Change) (write : Write) → is_some (key_equal asked) ≡ keyed →
    ((if plain && keyed then Ok (Some (start_of asked)) else Err bad_operand) >>= λ start. Ok (update_write asked change start)) ≡ Ok write → BeginsAsRead write
plain_begins true true asked change write is e = started_with asked change (Some (start_of asked)) write (inr (refl, is)) e
plain_begins true false asked change write is e = absurd cc
plain_begins false keyed asked change write is e = absurd cc

start_begins : (upsert : Bool) (asked : Query) (change : Change) (write : Write) →
    (read_start upsert asked >>= λ start. Ok (update_write asked change start)) ≡ Ok write → BeginsAsRead write
start_begins true asked change write e = plain_begins (is_plain_query asked) (is_some (key_equal asked)) asked change write refl e
start_begins false asked change write e = started_with asked change None write (inl refl) e

change_begins : (upsert : Bool) (asked : Query) (read : Result Change QueryFault) (write : Write) →
    (read >>= λ change. read_start upsert asked >>= λ start. Ok (update_write asked change start)) ≡ Ok write → BeginsAsRead write
change_begins upsert asked (Ok change) write e = start_begins upsert asked change write e
change_begins upsert asked (Err fault) write e = absurd cc

query_begins : (upsert : Bool) (words : Fields) (read : Result Query QueryFault) (write : Write) →
    (read >>= λ asked. read_change words >>= λ change. read_start upsert asked >>= λ start. Ok (update_write asked change start)) ≡ Ok write → BeginsAsRead write
query_begins upsert words (Ok asked) write e = change_begins upsert asked (read_change words) write e
query_begins upsert words (Err fault) write e = absurd cc

pub update_begins : (filter words : Fields) (upsert : Bool) (write : Write) → read_update filter words upsert ≡ Ok write → BeginsAsRead write
update_begins filter words upsert write e = query_begins upsert words (read_query filter) write e

found_begins : (found : Result Datum KeyFault) (document : Fields) (write : Write) → valid_key document ≡ found →
    result_map_both (λ (key : Datum). insert_write document) (λ (fault : KeyFault). bad_operand) found ≡ Ok write → BeginsAsRead write
found_begins (Ok key) document write is e =
    let same : insert_write document ≡ write = cc in subst (λ (w : Write). BeginsAsRead w) same (ap is_ok is)
found_begins (Err fault) document write is e = absurd cc

pub insert_begins : (document : Fields) (write : Write) → read_insert document ≡ Ok write → BeginsAsRead write
insert_begins document write e = found_begins (valid_key document) document write refl e

-- a document with a key is inserted
pub insert_read : (document : Fields) (key : Datum) → valid_key document ≡ Ok key → read_insert document ≡ Ok (insert_write document)
insert_read document key valid =
    ap (λ (found : Result Datum KeyFault). result_map_both (λ (k : Datum). insert_write document) (λ (fault : KeyFault). bad_operand) found) valid

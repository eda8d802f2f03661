-- What contracts see of a collection: what is stored under a key at a time, the time of a key's last version, and for how many more
-- versions of it there is room (MongoDB manual, "Read Concern \"snapshot\"", "Document Field Order and the `_id` Field"). Keys
-- that compare equal are one key.
use Rattle.std.specs.Prelude.{◌≡◌, ℕ, List, Option, Some, None}
use Rattle.std.specs.Arc.{arc_value}
use Rattle.std.specs.BTreeMap.{get_by}
use Rattle.std.specs.Option.{option_map}
use Rattle.std.specs.declared.sync.Arc.{Arc}
use Rattle.bson_values.specs.Tree.{Datum, Fields}
use Rattle.value_compare.specs.Order.{order}
use Rattle.cluster_base.specs.declared.time.Time.{Time}
use Rattle.history_model.specs.Versions.{Put, last_put}
use Rattle.mvcc_collection.specs.Chains.{Past, document_left, last_time}
use Rattle.mvcc_collection.specs.Places.{chain_at}
use Rattle.mvcc_collection.specs.declared.collection.Collection.{Collection}

-- from the time on this document, or none, is stored under the key
abbrev pub put_view : {Z : Type 0} → Datum → Time → Option (Arc Fields Z) → Put
put_view key time document = record { key = key; time = time.0; document = option_map arc_value document }

abbrev pub document_in : Option Past → ℕ → Option Fields
document_in None time = None
document_in (Some past) time = document_left past.versions time

abbrev pub last_of : Option Past → Option ℕ
last_of None = None
last_of (Some past) = last_time past.versions

abbrev pub room_of : Option Past → ℕ
room_of None = 0
room_of (Some past) = past.room

-- the versions of the key
abbrev pub past_in : Collection → Datum → Option Past
past_in c key = chain_at c.chains.items (get_by (order key) c.places)

-- what is stored under the key at the time
unfoldable pub at_in : Collection → Datum → ℕ → Option Fields
at_in c key time = document_in (past_in c key) time

-- the time of the key's last version, which may be of no document
unfoldable pub last_in : Collection → Datum → Option ℕ
last_in c key = last_of (past_in c key)

-- for how many more versions of the key there is room
unfoldable pub room_in : Collection → Datum → ℕ
room_in c key = room_of (past_in c key)

-- the collection shows what these puts leave
abbrev pub PutsAre : Collection → List Put → Type 0
PutsAre c puts = (key : Datum) (time : ℕ) → at_in c key time ≡ last_put puts key time

-- What contracts see of collections: what is stored in a namespace under a key at a time, the time of that key's last version, and for
-- how many more there is room (MongoDB manual, "Databases and Collections", "Document Field Order and the `_id` Field").
use Rattle.std.specs.Prelude.{ℕ, List, Option, Some, None}
use Rattle.std.specs.BTreeMap.{get_by_text}
use Rattle.bson_values.specs.Tree.{Datum, Fields}
use Rattle.mvcc_collection.specs.Collections.{at_in, last_in, room_in}
use Rattle.mvcc_collection.specs.declared.collection.Collection.{Collection}
use Rattle.shard_store.specs.declared.collections.Collections.{Collections}

abbrev pub at_of : Option Collection → Datum → ℕ → Option Fields
at_of None key time = None
at_of (Some c) key time = at_in c key time

abbrev pub last_of : Option Collection → Datum → Option ℕ
last_of None key = None
last_of (Some c) key = last_in c key

abbrev pub room_of : Option Collection → Datum → ℕ
room_of None key = 0
room_of (Some c) key = room_in c key

-- what is stored in the namespace under the key at the time
unfoldable pub shown_in : Collections → List ℕ → Datum → ℕ → Option Fields
shown_in c namespace key time = at_of (get_by_text c.by_name namespace) key time

-- the time of the last version there
unfoldable pub last_under : Collections → List ℕ → Datum → Option ℕ
last_under c namespace key = last_of (get_by_text c.by_name namespace) key

-- for how many more versions there is room
unfoldable pub room_under : Collections → List ℕ → Datum → ℕ
room_under c namespace key = room_of (get_by_text c.by_name namespace) key

-- What the catalogue may do in a step.
use Rattle.std.specs.Prelude.{◌≡◌, ◌⊎◌, ℕ, ℤ, ◌+◌, max, List, [], ◌∷◌, Bool, true, false, Option, Some, None, IsSome}
use Rattle.reply_model.specs.Requests.{Request}
use Rattle.reply_model.specs.Times.{time_of_moment}
use Rattle.reply_model.specs.Tree.{Datum}
use Rattle.base_model.specs.Identities.{RequestId}
use Rattle.chunk_model.specs.Changes.{Change, known_table}
use Rattle.chunk_model.specs.Requests.{changed, unchanged, no_collection, create_answer, split_answer}
use Rattle.reply_model.specs.Tables.{Table}
use Rattle.node_model.specs.Journal.{Kept, kept_change, kept_none}
use Rattle.node_model.specs.Letters.{At, no_time, at_time, Body, table_ask, table_told, split_ask, split_done, Letter, Input, client_input, letter_input, moment_input, opened_input, Effect, nothing, sends, writes}
use Rattle.node_model.specs.States.{Catalogue}

-- the time of the message, or the own one where that is later
abbrev pub heard : Catalogue → Letter → ℕ
heard c m = max c.time m.time

-- a message that requests nothing of the catalogue
abbrev pub AsksNothing : Body → Type 0
AsksNothing (table_ask namespace create at) = ⊥
AsksNothing (split_ask id namespace middle) = ⊥
AsksNothing body = Unit {0}

-- the answer to a request, at this time
abbrev pub told : Catalogue → Letter → (time : ℕ) → (namespace : List ℕ) → (create : Bool) → At → Option Table → Letter
told c m time namespace create at table = record { sender = c.me; receiver = m.sender; time = time; body = table_told namespace create at table }

-- the answer to a request for a split
abbrev pub split_told : Catalogue → Letter → (time : ℕ) → RequestId → (found : Bool) → Letter
split_told c m time id found = record { sender = c.me; receiver = m.sender; time = time; body = split_done id found }

-- what is stored with an answer: the time at which there is no table, where one was asked for
abbrev pub none_at : At → Option Table → List Kept
none_at no_time table = []
none_at (at_time at) None = kept_none at ∷ []
none_at (at_time at) (Some t) = []

-- the catalogue at a later time, and with one change more
abbrev pub at_later : Catalogue → ℕ → Catalogue
at_later c time = record { me = c.me; time = time; changes = c.changes }

abbrev pub with_change : Catalogue → ℕ → Change → Catalogue
with_change c time x = record { me = c.me; time = time; changes = x ∷ c.changes }

pub data CatalogueRow : Catalogue → Input → Effect → Catalogue → Type 0 where
  -- a collection begins, at the next time
  catalogue_create : (c : Catalogue) (m : Letter) (namespace : List ℕ) (at : At) (x : Change) → m.body ≡ table_ask namespace true at
      → create_answer namespace (heard c m + 1) c.changes ≡ changed x
      → CatalogueRow c (letter_input m)
      (writes (kept_change x ∷ []) (told c m (heard c m + 1) namespace true at (known_table namespace (x ∷ c.changes)) ∷ []))
      (with_change c (heard c m + 1) x)
  -- sends the table that there is, if there is one; that there is none at a time is stored
  catalogue_tell : (c : Catalogue) (m : Letter) (namespace : List ℕ) (create : Bool) (at : At) → m.body ≡ table_ask namespace create at
      → (create ≡ false) ⊎ IsSome (known_table namespace c.changes)
      → CatalogueRow c (letter_input m)
      (writes (none_at at (known_table namespace c.changes)) (told c m (heard c m) namespace create at (known_table namespace c.changes) ∷ []))
      (at_later c (heard c m))
  -- a chunk is split, at the next time
  catalogue_split : (c : Catalogue) (m : Letter) (id : RequestId) (namespace : List ℕ) (middle : Datum) (x : Change) → m.body ≡ split_ask id namespace middle
      → split_answer namespace middle (heard c m + 1) c.changes ≡ changed x
      → CatalogueRow c (letter_input m) (writes (kept_change x ∷ []) (split_told c m (heard c m + 1) id true ∷ [])) (with_change c (heard c m + 1) x)
  -- a chunk begins there already
  catalogue_bound : (c : Catalogue) (m : Letter) (id : RequestId) (namespace : List ℕ) (middle : Datum) → m.body ≡ split_ask id namespace middle
      → split_answer namespace middle (heard c m + 1) c.changes ≡ unchanged
      → CatalogueRow c (letter_input m) (sends (split_told c m (heard c m) id true ∷ [])) (at_later c (heard c m))
  -- there is no such collection
  catalogue_none : (c : Catalogue) (m : Letter) (id : RequestId) (namespace : List ℕ) (middle : Datum) → m.body ≡ split_ask id namespace middle
      → split_answer namespace middle (heard c m + 1) c.changes ≡ no_collection
      → CatalogueRow c (letter_input m) (sends (split_told c m (heard c m) id false ∷ [])) (at_later c (heard c m))
  -- a message of another kind has no effect
  catalogue_skip : (c : Catalogue) (m : Letter) → AsksNothing m.body → CatalogueRow c (letter_input m) nothing c
  catalogue_moment : (c : Catalogue) (moment : ℕ) → CatalogueRow c (moment_input moment) nothing (at_later c (max c.time (time_of_moment moment)))
  catalogue_opened : (c : Catalogue) → CatalogueRow c opened_input nothing c
  -- clients speak with routers alone
  catalogue_client : (c : Catalogue) (link : ℕ) (number : ℤ) (request : Request) → CatalogueRow c (client_input link number request) nothing c

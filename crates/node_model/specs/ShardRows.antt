-- What a shard may do in a step.
use Rattle.std.specs.Prelude.{◌≡◌, ◌≢◌, ◌⊎◌, ◌<◌, ◌≤◌, ◌^◌, ℕ, ℤ, max, List, [], ◌∷◌, ◌++◌, map, filter, not, Bool, true, false, ◌==◌, ◌&&◌, Option, Some, None, is_some, Ok, Err}
use Rattle.std.specs.List.{flat_map, list_any}
use Rattle.std.specs.Str.{bytes_eq}
use Rattle.reply_model.specs.Tree.{Fields}
use Rattle.reply_model.specs.Requests.{Request}
use Rattle.reply_model.specs.Times.{time_of_moment}
use Rattle.reply_model.specs.History.{Entry}
use Rattle.reply_model.specs.Versions.{Version}
use Rattle.reply_model.specs.Tables.{Table, table_of, with_table, is_longer}
use Rattle.reply_model.specs.Verdicts.{Sent, fits, shard_is_old, router_is_old, verdict_of}
use Rattle.base_model.specs.Identities.{RequestId, same_request}
use Rattle.reply_model.specs.Outcomes.{Done}
use Rattle.reply_model.specs.Accounts.{Lack}
use Rattle.node_model.specs.Journal.{kept_table, kept_entry, kept_ceiling}
use Rattle.pipeline_model.specs.Halves.{Half, Rows, IsHalf}
use Rattle.pipeline_model.specs.Lengths.{excess_of_half}
use Rattle.pipeline_model.specs.Runs.{Runs, overflowed}
use Rattle.node_model.specs.Letters.{At, no_time, Statement, half_overflow, half_excess, Body, table_ask, table_told, write_ask, write_done, read_ask, half_ask, read_rows, refused, of_request, of_table, is_stale, is_lack, time_ask, time_told, Letter, Input, client_input, letter_input, moment_input, opened_input, Effect, nothing, sends, writes}
use Rattle.node_model.specs.States.{Shard}
use Rattle.node_model.specs.Service.{seen_before, Serves, Repeats, documents_at}

abbrev pub heard : Shard → Letter → ℕ
heard s m = max s.time m.time

-- the shard at a later time
abbrev pub at_later : Shard → ℕ → Shard
at_later s time = record { me = s.me; time = time; tables = s.tables; entries = s.entries; ceiling = s.ceiling; parked = s.parked }

-- the shard at a later time, with a new ceiling
abbrev pub under : Shard → (time ceiling : ℕ) → Shard
under s time ceiling = record { me = s.me; time = time; tables = s.tables; entries = s.entries; ceiling = ceiling; parked = s.parked }

-- the greatest time of its ceilings and entries
abbrev pub greatest_entry : List Entry → ℕ
greatest_entry [] = 0
greatest_entry (e ∷ entries) = max e.time (greatest_entry entries)

abbrev pub top : Shard → ℕ
top s = max s.ceiling (greatest_entry s.entries)

-- what a shard sends at a time
abbrev pub says : Shard → (to time : ℕ) → Body → Letter
says s to time body = record { sender = s.me; receiver = to; time = time; body = body }

-- a message that requests nothing of a shard
abbrev pub AsksNothing : Body → Type 0
AsksNothing (write_ask id turn ordered namespace statements sent) = ⊥
AsksNothing (read_ask id turn namespace at half sent) = ⊥
AsksNothing (half_ask id turn namespace at half documents) = ⊥
AsksNothing (table_told namespace create at table) = ⊥
AsksNothing (time_ask id) = ⊥
AsksNothing (refused (of_table namespace false no_time) (is_lack node lack)) = ⊥
AsksNothing body = Unit {0}

-- Which request of documents a message is: of which client's request, in which turn, from which statement on (a read has none), and the
-- collection whose table it wants, with the versions that were sent.
pub record Ask : Type 0 where
  pub id : RequestId
  pub turn : ℕ
  pub first : Option ℕ
  pub namespace : List ℕ
  pub sent : Sent

-- a request to write no statement is none
abbrev pub ask_in : Body → Option Ask
ask_in (write_ask id turn ordered namespace (s ∷ statements) sent) = Some (record { id = id; turn = turn; first = Some s.number.index; namespace = namespace; sent = sent })
ask_in (read_ask id turn namespace at half sent) = Some (record { id = id; turn = turn; first = None; namespace = namespace; sent = sent })
ask_in body = None

-- a request has the first index 0 where it has no statements
abbrev pub index_shown : Option ℕ → ℕ
index_shown None = 0
index_shown (Some index) = index

abbrev pub same_index : Option ℕ → Option ℕ → Bool
same_index None None = true
same_index (Some a) (Some b) = a == b
same_index a b = false

abbrev pub same_ask : Ask → Ask → Bool
same_ask a b = same_request a.id b.id && ((a.turn == b.turn) && same_index a.first b.first)

abbrev pub is_ask : Ask → Letter → Bool
is_ask a m = elim (ask_in m.body) [ None ↦ false | Some b ↦ same_ask b a ]

-- the request waits already
abbrev pub is_parked : Ask → List Letter → Bool
is_parked a parked = list_any (is_ask a) parked

-- the first statement was applied before
abbrev pub was_seen : Body → List Entry → Bool
was_seen (write_ask id turn ordered namespace (s ∷ statements) sent) entries = is_some (seen_before s.number entries)
was_seen body entries = false

abbrev pub wants_table : List ℕ → Letter → Bool
wants_table namespace m = elim (ask_in m.body) [ None ↦ false | Some a ↦ bytes_eq a.namespace namespace ]

-- what waited is tried again as a message from the shard to itself
abbrev pub tries : Shard → (time : ℕ) → List Letter → List Letter
tries s time parked = map (λ (m : Letter). says s s.me time m.body) parked

abbrev pub asks_table : Shard → (time : ℕ) → (namespace : List ℕ) → Letter
asks_table s time namespace = says s 0 time (table_ask namespace false no_time)

-- the table of each request that waits is requested again, in the order of parking
abbrev pub asks_again : Shard → (time : ℕ) → List Letter → List Letter
asks_again s time [] = []
asks_again s time (m ∷ parked) = elim (ask_in m.body) [ None ↦ asks_again s time parked | Some a ↦ asks_table s time a.namespace ∷ asks_again s time parked ]

-- that the table of a request that waits could not be had is returned to its router
abbrev pub refuses : Shard → (time node : ℕ) → Lack → Letter → List Letter
refuses s time node lack m = elim (ask_in m.body) [
  | None ↦ []
  | Some a ↦ says s a.id.router time (refused (of_request a.id a.turn (index_shown a.first)) (is_lack node lack)) ∷ []
]

-- the table is new: there is none of its collection, or it has seen more changes
abbrev pub is_news : Table → Option Table → Bool
is_news t None = true
is_news t (Some own) = is_longer t own

-- the shard's part of a table that arrives, if it is new
abbrev pub IsNoNews : Option Table → Shard → List ℕ → Type 0
IsNoNews None s namespace = Unit {0}
IsNoNews (Some t) s namespace = is_news t (table_of t.namespace s.tables) ≡ false

-- A length below 2^63 is returned exactly; of others a reply shows no more than that they are not below.
abbrev pub IsTold : (length n : ℕ) → Type 0
IsTold length n = (n ≡ length) ⊎ ((2 ^ 63 ≤ length) × (2 ^ 63 ≤ n))

pub data ShardRow : Shard → Input → Effect → Shard → Type 0 where
  -- the statements are served on the table that they were sent with, at least one
  shard_write : (s : Shard) (m : Letter) (id : RequestId) (turn : ℕ) (ordered : Bool) (namespace : List ℕ) (statements : List Statement) (sent : Sent) (d : Done) (dones : List Done) (made : List Entry) (last : ℕ)
      → m.body ≡ write_ask id turn ordered namespace statements sent → verdict_of sent s.me (table_of namespace s.tables) ≡ fits
      → Serves s.me namespace ordered s.entries (heard s m) statements (d ∷ dones) made last
      → ShardRow s (letter_input m) (writes (map kept_entry made) (says s id.router last (write_done id (d ∷ dones)) ∷ []))
      (record { me = s.me; time = last; tables = s.tables; entries = s.entries ++ made; ceiling = s.ceiling; parked = s.parked })
  -- statements that were applied before are answered on any table
  shard_repeat : (s : Shard) (m : Letter) (id : RequestId) (turn : ℕ) (ordered : Bool) (namespace : List ℕ) (statements : List Statement) (sent : Sent) (d : Done) (dones : List Done)
      → m.body ≡ write_ask id turn ordered namespace statements sent → verdict_of sent s.me (table_of namespace s.tables) ≢ fits
      → Repeats ordered s.entries statements (d ∷ dones)
      → ShardRow s (letter_input m) (sends (says s id.router (heard s m) (write_done id (d ∷ dones)) ∷ [])) (at_later s (heard s m))
  -- a request to write no statement has no answer
  shard_empty : (s : Shard) (m : Letter) (id : RequestId) (turn : ℕ) (ordered : Bool) (namespace : List ℕ) (sent : Sent)
      → m.body ≡ write_ask id turn ordered namespace [] sent → ShardRow s (letter_input m) nothing (at_later s (heard s m))
  -- a request that wants a table waits for it, and the table is requested once
  shard_park : (s : Shard) (m : Letter) (a : Ask) → ask_in m.body ≡ Some a → was_seen m.body s.entries ≡ false
      → verdict_of a.sent s.me (table_of a.namespace s.tables) ≡ shard_is_old → is_parked a s.parked ≡ false
      → ShardRow s (letter_input m) (sends (asks_table s (heard s m) a.namespace ∷ []))
      (record { me = s.me; time = heard s m; tables = s.tables; entries = s.entries; ceiling = s.ceiling; parked = s.parked ++ m ∷ [] })
  -- it waits already
  shard_waits : (s : Shard) (m : Letter) (a : Ask) → ask_in m.body ≡ Some a → was_seen m.body s.entries ≡ false
      → verdict_of a.sent s.me (table_of a.namespace s.tables) ≡ shard_is_old → is_parked a s.parked ≡ true
      → ShardRow s (letter_input m) nothing (at_later s (heard s m))
  -- a request that was sent with an older table is not served
  shard_stale : (s : Shard) (m : Letter) (a : Ask) (met : Version) → ask_in m.body ≡ Some a → was_seen m.body s.entries ≡ false
      → verdict_of a.sent s.me (table_of a.namespace s.tables) ≡ router_is_old met
      → ShardRow s (letter_input m) (sends (says s a.id.router (heard s m) (refused (of_request a.id a.turn (index_shown a.first)) (is_stale met)) ∷ [])) (at_later s (heard s m))
  -- the documents of a read are taken in one step, and its half is made of them in another
  shard_read : (s : Shard) (m : Letter) (id : RequestId) (turn : ℕ) (namespace : List ℕ) (at : ℕ) (half : Half) (sent : Sent)
      → m.body ≡ read_ask id turn namespace at half sent → verdict_of sent s.me (table_of namespace s.tables) ≡ fits → at ≤ top s
      → ShardRow s (letter_input m) (sends (says s s.me (heard s m) (half_ask id turn namespace at half (documents_at s.entries namespace at half)) ∷ [])) (at_later s (heard s m))
  -- where the read is above its entries and ceilings, its time is a ceiling from now on: later entries are above it, also after a restart
  shard_read_above : (s : Shard) (m : Letter) (id : RequestId) (turn : ℕ) (namespace : List ℕ) (at : ℕ) (half : Half) (sent : Sent)
      → m.body ≡ read_ask id turn namespace at half sent → verdict_of sent s.me (table_of namespace s.tables) ≡ fits → top s < at
      → ShardRow s (letter_input m)
      (writes (kept_ceiling at ∷ []) (says s s.me (heard s m) (half_ask id turn namespace at half (documents_at s.entries namespace at half)) ∷ []))
      (under s (heard s m) at)
  shard_rows : (s : Shard) (m : Letter) (id : RequestId) (turn : ℕ) (namespace : List ℕ) (at : ℕ) (half : Half) (documents : List Fields) (rows : Rows)
      → m.body ≡ half_ask id turn namespace at half documents → IsHalf half documents rows → excess_of_half rows ≡ None
      → ShardRow s (letter_input m) (sends (says s id.router (heard s m) (read_rows id turn (Ok rows)) ∷ [])) (at_later s (heard s m))
  -- the half gives too much
  shard_excess : (s : Shard) (m : Letter) (id : RequestId) (turn : ℕ) (namespace : List ℕ) (at : ℕ) (half : Half) (documents : List Fields) (rows : Rows) (length n : ℕ)
      → m.body ≡ half_ask id turn namespace at half documents → IsHalf half documents rows → excess_of_half rows ≡ Some length → IsTold length n
      → ShardRow s (letter_input m) (sends (says s id.router (heard s m) (read_rows id turn (Err (half_excess n))) ∷ [])) (at_later s (heard s m))
  -- the half has no rows: no half that a pipeline is split into is such
  shard_overflow : (s : Shard) (m : Letter) (id : RequestId) (turn : ℕ) (namespace : List ℕ) (at : ℕ) (half : Half) (documents : List Fields)
      → m.body ≡ half_ask id turn namespace at half documents → Runs half.stages documents overflowed
      → ShardRow s (letter_input m) (sends (says s id.router (heard s m) (read_rows id turn (Err half_overflow)) ∷ [])) (at_later s (heard s m))
  -- the time is returned
  shard_time : (s : Shard) (m : Letter) (id : RequestId) → m.body ≡ time_ask id
      → ShardRow s (letter_input m) (sends (says s id.router (heard s m) (time_told id) ∷ [])) (at_later s (heard s m))
  -- a table that is new is stored, and what waited for it is tried again
  shard_learn : (s : Shard) (m : Letter) (namespace : List ℕ) (create : Bool) (at : At) (t : Table)
      → m.body ≡ table_told namespace create at (Some t) → is_news t (table_of t.namespace s.tables) ≡ true
      → ShardRow s (letter_input m) (writes (kept_table t ∷ []) (tries s (heard s m) (filter (wants_table t.namespace) s.parked)))
      (record {
        me = s.me;
        time = heard s m;
        tables = with_table t s.tables;
        entries = s.entries;
        ceiling = s.ceiling;
        parked = filter (λ p. not (wants_table t.namespace p)) s.parked;
      })
  shard_known : (s : Shard) (m : Letter) (namespace : List ℕ) (create : Bool) (at : At) (table : Option Table)
      → m.body ≡ table_told namespace create at table → IsNoNews table s namespace → ShardRow s (letter_input m) nothing (at_later s (heard s m))
  -- a table can't be had: what waited for it waits no longer, and its routers learn why
  shard_no_table : (s : Shard) (m : Letter) (namespace : List ℕ) (node : ℕ) (lack : Lack) → m.body ≡ refused (of_table namespace false no_time) (is_lack node lack)
      → ShardRow s (letter_input m) (sends (flat_map (refuses s (heard s m) node lack) (filter (wants_table namespace) s.parked)))
      (record {
        me = s.me;
        time = heard s m;
        tables = s.tables;
        entries = s.entries;
        ceiling = s.ceiling;
        parked = filter (λ p. not (wants_table namespace p)) s.parked;
      })
  -- a message of another kind has no effect
  shard_skip : (s : Shard) (m : Letter) → AsksNothing m.body → ShardRow s (letter_input m) nothing s
  shard_moment : (s : Shard) (moment : ℕ) → ShardRow s (moment_input moment) (sends (asks_again s (max s.time (time_of_moment moment)) s.parked)) (at_later s (max s.time (time_of_moment moment)))
  shard_opened : (s : Shard) → ShardRow s opened_input nothing s
  -- clients speak with routers alone
  shard_client : (s : Shard) (link : ℕ) (number : ℤ) (request : Request) → ShardRow s (client_input link number request) nothing s

-- Every request of documents carries the versions of a table that the catalogue had, so that none meets a later one.
use Rattle.std.proofs.Common.{◌≡◌, ◌⊎◌, inl, inr, ℕ, ◌<◌, ◌≤◌, List, ◌++◌, refl, sym, ap, subst, ◌∙◌, append_assoc}
use Rattle.std.specs.Prelude.{Option, Some, None, is_some, true}
use Rattle.std.specs.List.{AllByRecursion}
use Rattle.history_model.specs.History.{IsIn}
use Rattle.history_model.proofs.Lists.{all_at, in_back}
use Rattle.bson_model.specs.Tree.{Datum, null_value}
use Rattle.value_model.specs.Keys.{Span, is_key}
use Rattle.chunk_model.specs.Changes.{Change, create_change, time_of, known_table}
use Rattle.chunk_model.specs.Placement.{AreFitting}
use Rattle.chunk_model.specs.Tables.{Table, first_shard, owner_now, owner_at, table_of}
use Rattle.chunk_model.specs.Versions.{Version}
use Rattle.chunk_model.specs.Verdicts.{fits, shard_is_old, router_is_old, sent_by, verdict_of}
use Rattle.node_model.specs.Letters.{Body, refused, Letter}
use Rattle.node_model.specs.ShardRows.{Ask, ask_in}
use Rattle.node_model.specs.RouterRequests.{owners_of_span, is_owned_at}
use Rattle.node_laws.proofs.Views.{View, changes_in}
use Rattle.node_laws.proofs.Facts.{IsKnownTable, AreMade}
use Rattle.node_laws.proofs.Lists.{all_behind}
use Rattle.node_laws.proofs.CatalogueTables.{IsNoCreation, none_created, some_created}
use Rattle.node_laws.proofs.TableVersions.{known_fits}
use Rattle.node_laws.proofs.SpanOwners.{listed_owner}
use Rattle.node_laws.proofs.KnownTables.{table_found, known_owned, known_owned_at, known_at, known_span}

-- TABLES

-- the catalogue had this table: its changes up to one of them make it
pub record WasHad (changes : List Change) (t : Table) : Type 0 where
  pub more : List Change
  pub older : List Change
  pub all : changes ≡ more ++ older
  pub known : known_table t.namespace older ≡ Some t
  pub fitting : AreFitting older

-- by the table the first shard owns all keys, and it alone owned any before; each key was owned where the least was, and a span is that of its owner
pub record IsFirst (t : Table) : Type 0 where
  pub now : (key : Datum) → is_key key ≡ true → owner_now t key ≡ Some first_shard
  pub before : (key : Datum) (at shard : ℕ) → is_key key ≡ true → owner_at t key at ≡ Some shard → shard ≡ first_shard
  pub owned : (at : ℕ) → is_owned_at t at ≡ is_some (owner_at t null_value at)
  pub spans : (at : ℕ) (span : List Span) → owners_of_span t at span ≡ listed_owner (owner_at t null_value at)

abbrev pub IsTableOf : List Change → Table → Type 0
IsTableOf changes t = WasHad changes t × IsFirst t

pub table_had : (v : View) (time : ℕ) (t : Table) → IsKnownTable v time t → IsTableOf (changes_in v) t
table_had v time t k = (
  record { more = k.more; older = k.older; all = k.all; known = k.known; fitting = k.fitting },
  record {
    now = λ key valid. known_owned v time t key k valid;
    before = λ key at shard valid owns. known_at v time t key at shard k valid owns;
    owned = λ at. known_owned_at v time t at k;
    spans = λ at span. known_span v time t at span k;
  },
)

had_known : (v : View) (time : ℕ) (t : Table) → AreMade time (changes_in v) → WasHad (changes_in v) t → IsKnownTable v time t
had_known v time t made h =
    let c = some_created t.namespace h.older t h.known in
    record {
      more = h.more;
      older = h.older;
      all = h.all;
      begun = record {
        creation = c.creation;
        begun = c.begun;
        name = c.name;
        before = all_at (λ x. time_of x ≤ time) (create_change c.creation) h.older
            (all_behind (λ x. time_of x ≤ time) h.more h.older (subst (λ l. AllByRecursion (λ x. time_of x ≤ time) l) h.all made.past)) c.begun;
      };
      known = h.known;
      fitting = h.fitting;
      still = made.still;
    }

pub had_later : (news changes later : List Change) (t : Table) → later ≡ news ++ changes → WasHad changes t → WasHad later t
had_later news changes later t is h = record {
  more = news ++ h.more;
  older = h.older;
  all = is ∙ ap (λ l. news ++ l) h.all ∙ sym (append_assoc news h.more h.older);
  known = h.known;
  fitting = h.fitting;
}

-- the catalogue has a table of the name
pub still_there : (changes : List Change) (t : Table) → WasHad changes t → known_table t.namespace changes ≡ None → ⊥
still_there changes t h none =
    let c = some_created t.namespace h.older t h.known in
    all_at (IsNoCreation t.namespace) (create_change c.creation) changes (none_created t.namespace changes none)
    (subst (λ l. IsIn (create_change c.creation) l) (sym h.all) (in_back (create_change c.creation) h.more h.older c.begun)) c.name

-- REQUESTS

-- the request has the versions of such a table
pub record IsVersioned (changes : List Change) (a : Ask) : Type 0 where
  pub table : Table
  pub had : WasHad changes table
  pub name : table.namespace ≡ a.namespace
  pub sent : a.sent ≡ sent_by table first_shard

abbrev pub IsKnowing : List Change → Body → Type 0
IsKnowing changes b = (a : Ask) → ask_in b ≡ Some a → IsVersioned changes a

-- a request of documents goes to the first shard
abbrev pub GoesFirst : (to : ℕ) → Body → Type 0
GoesFirst to b = (a : Ask) → ask_in b ≡ Some a → to ≡ first_shard

-- it refuses nothing
abbrev pub IsPlain : Body → Type 0
IsPlain (refused what cause) = ⊥
IsPlain body = Unit {0}

-- what is true of each message but those: it goes from one of so many nodes to another
pub record IsWell (changes : List Change) (count : ℕ) (m : Letter) : Type 0 where
  pub knowing : IsKnowing changes m.body
  pub first : GoesFirst m.receiver m.body
  pub plain : IsPlain m.body
  pub from : m.sender < count
  pub to : m.receiver < count

pub versioned_later : (news changes later : List Change) (a : Ask) → later ≡ news ++ changes → IsVersioned changes a → IsVersioned later a
versioned_later news changes later a is k = record { table = k.table; had = had_later news changes later k.table is k.had; name = k.name; sent = k.sent }

pub well_later : (news changes later : List Change) (count : ℕ) (m : Letter) → later ≡ news ++ changes → IsWell changes count m → IsWell later count m
well_later news changes later count m is w = record {
  knowing = λ a asks. versioned_later news changes later a is (w.knowing a asks);
  first = w.first;
  plain = w.plain;
  from = w.from;
  to = w.to;
}

-- THE VERDICT

-- the shard has no table of the collection, or the request fits
pub fits_there : (v : View) (time bound : ℕ) (tables : List Table) (a : Ask) → AreMade bound (changes_in v) → AllByRecursion (IsKnownTable v time) tables
    → IsVersioned (changes_in v) a
    → (table_of a.namespace tables ≡ None) ⊎ (verdict_of a.sent first_shard (table_of a.namespace tables) ≡ fits)
fits_there v time bound tables a made known versioned = by_table (table_of a.namespace tables) refl
  where
    by_table : (o : Option Table) → table_of a.namespace tables ≡ o → (o ≡ None) ⊎ (verdict_of a.sent first_shard o ≡ fits)
    by_table None is = inl refl
    by_table (Some u) is =
        let found = table_found a.namespace tables u is in
        inr (ap (λ x. verdict_of x first_shard (Some u)) versioned.sent
        ∙ known_fits v bound time versioned.table u made.fitting (had_known v bound versioned.table made versioned.had)
        (all_at (IsKnownTable v time) u tables known found.stands) (versioned.name ∙ sym found.name))

pub none_where_old : (tables : List Table) (a : Ask) → verdict_of a.sent first_shard (table_of a.namespace tables) ≡ shard_is_old
    → (table_of a.namespace tables ≡ None) ⊎ (verdict_of a.sent first_shard (table_of a.namespace tables) ≡ fits) → table_of a.namespace tables ≡ None
none_where_old tables a old (inl none) = none
none_where_old tables a old (inr fit) = absurd (cc (old, fit))

pub never_stale : (tables : List Table) (a : Ask) (met : Version) → verdict_of a.sent first_shard (table_of a.namespace tables) ≡ router_is_old met
    → (table_of a.namespace tables ≡ None) ⊎ (verdict_of a.sent first_shard (table_of a.namespace tables) ≡ fits) → ⊥
never_stale tables a met old (inl none) =
    let v : verdict_of a.sent first_shard (table_of a.namespace tables) ≡ shard_is_old = ap (λ o. verdict_of a.sent first_shard o) none in
    cc (old, v)
never_stale tables a met old (inr fit) = cc (old, fit)

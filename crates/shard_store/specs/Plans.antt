-- Plans: the entries that a shard is about to make in one collection for one request, after those that it has.
use Rattle.std.specs.Prelude.{◌≡◌, ◌<◌, ◌≤◌, ◌+◌, ℕ, List, [], ◌∷◌, map, false, Option, Some, None, is_some}
use Rattle.std.specs.BTreeMap.{get_by}
use Rattle.std.specs.List.{AllByRecursion, list_any}
use Rattle.cluster_base.specs.declared.identity.RequestId.{RequestId}
use Rattle.command_replies.specs.declared.answer.ClientNumber.{ClientNumber}
use Rattle.value_compare.specs.Order.{order, same_value}
use Rattle.bson_values.specs.Tree.{Datum}
use Rattle.node_model.specs.History.{Operation, key_written, effect, Entry, document_left}
use Rattle.node_model.specs.Letters.{Statement}
use Rattle.node_model.specs.Outcomes.{Done, done_of}
use Rattle.node_model.specs.Service.{seen_before, entry_for}
use Rattle.statement_views.specs.Views.{number_view}
use Rattle.shard_store.specs.Entries.{entry_view, left_behind, operation_of}
use Rattle.shard_store.specs.Outcomes.{outcome_view, statement_of}
use Rattle.shard_store.specs.declared.plan.EntryPlan.{EntryPlan}
use Rattle.shard_store.specs.declared.entry.Left.{Left}
use Rattle.shard_store.specs.declared.entry.Planned.{Planned}
use Rattle.shard_store.specs.declared.outcome.EntryOutcome.{EntryOutcome}

-- after these entries the operation acts under this key, leaves this there, and has this outcome
pub record IsEffect (entries : List Entry) (namespace : List ℕ) (operation : Operation) (key : Datum) (left : Left) (outcome : EntryOutcome) : Type 0 where
  pub under : key_written operation ≡ Some key
  pub leaves : left_behind left (document_left namespace (Some key) entries) ≡ (effect operation (document_left namespace (Some key) entries)).0
  pub told : outcome_view outcome ≡ (effect operation (document_left namespace (Some key) entries)).1

-- The entry may follow these, the last of which is no later than `last`: it does what its operation does after them, and its statement
-- is none of theirs.
pub record IsNext (entries : List Entry) (last : ℕ) (namespace : List ℕ) (p : Planned) : Type 0 where
  pub later : last < p.time.0
  pub does : IsEffect entries namespace (operation_of p.words) p.key p.left p.outcome
  pub unseen : seen_before (number_view p.statement) entries ≡ None

-- q comes later than p, is another statement, and has another key
pub record IsBehind (p q : Planned) : Type 0 where
  pub later : p.time.0 < q.time.0
  pub index : p.statement.index < q.statement.index
  pub key : same_value p.key q.key ≡ false

-- each comes after those before it
abbrev pub AreInTurn : List Planned → Type 0
AreInTurn [] = Unit {0}
AreInTurn (p ∷ planned) = AllByRecursion (IsBehind p) planned × AreInTurn planned

-- it is a statement of this request, to which its client gave this number or none
abbrev pub IsOf : Option ClientNumber → RequestId → Planned → Type 0
IsOf number id p = p.statement ≡ statement_of number id p.statement.index

-- These may be made after the entries: all of one request, each after those before it.
pub record AreNext (entries : List Entry) (last : ℕ) (namespace : List ℕ) (number : Option ClientNumber) (id : RequestId)
    (planned : List Planned) : Type 0 where
  pub each : AllByRecursion (IsNext entries last namespace) planned
  pub turn : AreInTurn planned
  pub own : AllByRecursion (IsOf number id) planned

-- A plan of entries after these. What it says of itself is so: its time, the least index that is free, the keys that are taken.
pub record IsPlan (entries : List Entry) (last : ℕ) (namespace : List ℕ) (plan : EntryPlan) : Type 0 where
  pub next : AreNext entries last namespace plan.number plan.id plan.planned.items
  pub before : last ≤ plan.last.0
  pub past : AllByRecursion (λ p. p.time.0 ≤ plan.last.0) plan.planned.items
  pub indexes : AllByRecursion (λ p. p.statement.index < plan.free) plan.planned.items
  pub taken : (k : Datum) → is_some (get_by (order k) plan.keys) ≡ list_any (λ (p : Planned). same_value p.key k) plan.planned.items
  pub empty : plan.planned.items ≡ [] → plan.free ≡ 0

-- the entries of a plan
abbrev pub made_by : (shard : ℕ) → (namespace : List ℕ) → EntryPlan → List Entry
made_by shard namespace plan = map (entry_view shard namespace) plan.planned.items

-- the time of its last entry, or that after which its first comes
abbrev pub time_of : EntryPlan → ℕ
time_of plan = plan.last.0

abbrev pub planned_in : EntryPlan → List Planned
planned_in plan = plan.planned.items

-- A statement is served after these entries at this time: it gets its outcome again, or the error that it is older; or it is new, and makes
-- an entry at the next time; or it is left for later.
pub data IsServed (shard : ℕ) (namespace : List ℕ) (entries : List Entry) (time : ℕ) (s : Statement) :
    Option Done → (made : List Entry) → (after : ℕ) → Type 0 where
  served_again : (d : Done) → seen_before s.number entries ≡ Some d → IsServed shard namespace entries time s (Some d) [] time
  served_new : seen_before s.number entries ≡ None
      → IsServed shard namespace entries time s (Some (done_of (entry_for entries (time + 1) shard namespace s)))
      (entry_for entries (time + 1) shard namespace s ∷ []) (time + 1)
  left_for_later : IsServed shard namespace entries time s None [] time

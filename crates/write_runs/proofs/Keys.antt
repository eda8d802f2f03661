-- The shard that has the key that a statement writes.
use Rattle.std.proofs.Common.{◌≡◌, ap, ◌∙◌, ℕ, List, Bool, true, false, if◌then◌else◌}
use Rattle.std.specs.Prelude.{Option, Some, None, Ok}
use Rattle.history_model.proofs.LegalHistories.{insert_key}
use Rattle.command_model.proofs.Judged.{key_of_write}
use Rattle.command_model.specs.CommandSizes.{IsKeepable}
use Rattle.command_model.specs.Statements.{key_asked_by}
use Rattle.command_model.specs.Writes.{ClientNumber}
use Rattle.bson_model.specs.Tree.{Datum, Fields}
use Rattle.history_model.specs.History.{Operation, insert_operation, key_read, key_written}
use Rattle.chunk_model.specs.Tables.{Table, owner_now}
use Rattle.base_model.specs.Identities.{RequestId}
use Rattle.reply_model.specs.Exchanges.{number_for}
use Rattle.reply_model.specs.Outcomes.{Try}
use Rattle.node_model.specs.RouterRequests.{owner_of_statement, reaches, shard_for, tries_at}
use Rattle.history_model.proofs.Keyed.{written_is_key}
use Rattle.protocol_model.specs.Statements.{statement_view}
use Rattle.protocol_model.specs.declared.statement.Statement.{Statement}
use Rattle.value_model.specs.Keys.{is_key, valid_key}
use Rattle.write_runs.proofs.News.{index_is}

pub key_by_document : (document : Fields) (key : Datum) → valid_key document ≡ Ok key → key_written (insert_operation document) ≡ Some key
key_by_document document key valid = insert_key document key valid

-- an operation that can be stored writes the key that it targets
pub key_by_words : (operation : Operation) (key : Datum) → IsKeepable operation → key_asked_by operation ≡ Some key → is_key key ≡ true → key_written operation ≡ Some key
key_by_words operation key keepable asked is =
    ap key_read keepable.reads ∙ key_of_write operation keepable.write key keepable.reads asked is

-- an operation that may be kept writes a key
pub key_kept : (operation : Operation) → IsKeepable operation → (key : Datum) × (key_written operation ≡ Some key) × (is_key key ≡ true)
key_kept operation keepable =
    let written : key_written operation ≡ Some keepable.key = ap key_read keepable.reads ∙ keepable.under in
    (keepable.key, written, written_is_key operation keepable.key written)

pub owner_by_key : (t : Table) (given : Option ClientNumber) (id : RequestId) (index : ℕ) (operation : Operation) (key : Datum) (shard : ℕ) → key_written operation ≡ Some key → owner_now t key ≡ Some shard
    → owner_of_statement t (record { number = number_for given id index; operation = operation }) ≡ Some shard
owner_by_key t given id index operation key shard written owned =
    ap (λ (k : Option Datum). elim k as (λ (o : Option Datum). Option ℕ) [ None ↦ None | Some x ↦ owner_now t x ]) written ∙ owned

-- the owner of all keys has the one that a statement writes
pub owner_by_sole : (t : Table) (given : Option ClientNumber) (id : RequestId) (index : ℕ) (operation : Operation) (shard : ℕ)
    → (key : Datum) × (key_written operation ≡ Some key) × (is_key key ≡ true) → ((key : Datum) → is_key key ≡ true → owner_now t key ≡ Some shard)
    → owner_of_statement t (record { number = number_for given id index; operation = operation }) ≡ Some shard
owner_by_sole t given id index operation shard written owned =
    owner_by_key t given id index operation written.0 shard written.1 (owned written.0 written.2)

-- by a table, as its tries allow
module _ (t : Table) (tries : List (List Try)) (given : Option ClientNumber) (id : RequestId) (s : Statement) where
  shard_by : (can : Bool) → reaches t (tries_at s.index tries) ≡ can
      → shard_for t tries (statement_view given id s) ≡ (if can then owner_of_statement t (statement_view given id s) else None)
  shard_by can is =
      ap (λ (b : Bool). if b then owner_of_statement t (statement_view given id s) else None) (ap (λ (n : ℕ). reaches t (tries_at n tries)) (index_is given id s.index) ∙ is)

  pub shard_none : reaches t (tries_at s.index tries) ≡ false → shard_for t tries (statement_view given id s) ≡ None
  shard_none is = shard_by false is

  pub shard_some : (shard : ℕ) → reaches t (tries_at s.index tries) ≡ true → owner_of_statement t (statement_view given id s) ≡ Some shard
      → shard_for t tries (statement_view given id s) ≡ Some shard
  shard_some shard is owned = shard_by true is ∙ owned

-- A collection's first table has one chunk, of all keys, with one owner.
use Rattle.std.proofs.Common.{◌≡◌, ◌↔◌, ◌≤◌, ℕ, ap, ◌∙◌, arith}
use Rattle.std.specs.Prelude.{Bool, true, false, Option, Some, None, nat_le, if◌then◌else◌}
use Rattle.std.proofs.lemmas.Bool.Decides.{nat_tests}
use Rattle.value_model.specs.Keys.{is_key}
use Rattle.value_model.proofs.Spans.{whole_inside}
use Rattle.bson_model.specs.Tree.{Datum}
use Rattle.chunk_model.specs.Catalogue.{Creation}
use Rattle.chunk_model.specs.Tables.{Chunk, first_shard, first_chunk, first_table, owner_among, newest, owner_now, owner_at}

-- the owner by the chunk, by whether the key is in it
abbrev now_by : Creation → Bool → Option ℕ
now_by c has = elim (if has then Some (first_chunk c) else None) as (λ (o : Option Chunk). Option ℕ) [ None ↦ None | Some chunk ↦ newest chunk.owners ]

abbrev pub at_by : Creation → ℕ → Bool → Option ℕ
at_by c time has = elim (if has then Some (first_chunk c) else None) as (λ (o : Option Chunk). Option ℕ) [ None ↦ None | Some chunk ↦ owner_among time chunk.owners ]

only_now_by : (c : Creation) (has : Bool) (shard : ℕ) → now_by c has ≡ Some shard → shard ≡ first_shard
only_now_by c true shard e = cc
only_now_by c false shard e = cc

pub only_now : (c : Creation) (key : Datum) (shard : ℕ) → owner_now (first_table c) key ≡ Some shard → shard ≡ first_shard
only_now c key shard e = only_now_by c _ shard e

only_among : (since time shard : ℕ) → (if nat_le since time then Some first_shard else None) ≡ Some shard → (shard ≡ first_shard) × (since ≤ time)
only_among since time shard e = grind (arith, nat_tests)

only_at_by : (c : Creation) (time : ℕ) (has : Bool) (shard : ℕ) → at_by c time has ≡ Some shard → (shard ≡ first_shard) × (c.at ≤ time)
only_at_by c time true shard e = only_among c.at time shard e
only_at_by c time false shard e = absurd (cc e)

pub only_at : (c : Creation) (key : Datum) (time shard : ℕ) → owner_at (first_table c) key time ≡ Some shard → (shard ≡ first_shard) × (c.at ≤ time)
only_at c key time shard e = only_at_by c time _ shard e

pub every_key : (c : Creation) (key : Datum) → is_key key ≡ true → owner_now (first_table c) key ≡ Some first_shard
every_key c key valid = ap (now_by c) (whole_inside key valid)

from_then : (since time : ℕ) → since ≤ time → (if nat_le since time then Some first_shard else None) ≡ Some first_shard
from_then since time later = grind (arith, nat_tests)

pub every_key_at : (c : Creation) (key : Datum) (time : ℕ) → is_key key ≡ true → (owner_at (first_table c) key time ≡ Some first_shard) ↔ (c.at ≤ time)
every_key_at c key time valid =
    (λ e. (only_at c key time first_shard e).1, λ later. ap (at_by c time) (whole_inside key valid) ∙ from_then c.at time later)

owned_at_by : (c : Creation) (time : ℕ) (has : Bool) (shard : ℕ) → c.at ≤ time → now_by c has ≡ Some shard → at_by c time has ≡ Some first_shard
owned_at_by c time true shard later e = from_then c.at time later
owned_at_by c time false shard later e = absurd (cc e)

-- who owns a key owns it since the collection was created
pub owned_at : (c : Creation) (key : Datum) (time shard : ℕ) → c.at ≤ time → owner_now (first_table c) key ≡ Some shard
    → owner_at (first_table c) key time ≡ Some first_shard
owned_at c key time shard later e = owned_at_by c time _ shard later e

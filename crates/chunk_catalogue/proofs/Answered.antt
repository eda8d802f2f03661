-- What a request for a collection is answered where there is none, and whether a shard is the owner of a chunk.
use Rattle.std.proofs.Common.{◌≡◌, refl, ap, ◌∙◌, ℕ, ◌+◌, ◌==◌, List, [], ◌∷◌, false}
use Rattle.std.specs.Prelude.{Option, Some, None}
use Rattle.chunk_model.specs.Tables.{Owned, Table, first_table, newest, is_owner}
use Rattle.chunk_model.specs.Changes.{Change, create_change, known_table, creations, table_after}
use Rattle.chunk_model.specs.Requests.{CatalogueAnswer, changed, unchanged, create_answer}
use Rattle.chunk_catalogue.proofs.Names.{never_created}

abbrev pub creation_of : List ℕ → ℕ → ℕ → Change
creation_of ns epoch at = create_change (record { namespace = ns; epoch = epoch; at = at })

abbrev by_table : List ℕ → ℕ → ℕ → Option Table → CatalogueAnswer
by_table ns epoch at before = elim before as (λ (o : Option Table). CatalogueAnswer) [ None ↦ changed (creation_of ns epoch at) | Some t ↦ unchanged ]

pub created : (ns : List ℕ) (at : ℕ) (changes : List Change) → known_table ns changes ≡ None → create_answer ns at changes ≡ changed (creation_of ns 1 at)
created ns at changes is =
    ap (by_table ns (creations ns changes + 1) at) is ∙ ap (λ (n : ℕ). changed (creation_of ns (n + 1) at)) (never_created ns changes is)

pub table_created : (ns : List ℕ) (at : ℕ) (changes : List Change) → known_table ns changes ≡ None
    → table_after (creation_of ns 1 at) (known_table ns changes) ≡ Some (first_table (record { namespace = ns; epoch = 1; at = at }))
table_created ns at changes is = ap (table_after (creation_of ns 1 at)) is

-- whether a shard is the owner, by the newest one
pub newest_owner : (shard owner : ℕ) (owners : List Owned) → newest owners ≡ Some owner → is_owner shard owners ≡ (owner == shard)
newest_owner shard owner [] e = absurd cc
newest_owner shard owner (o ∷ owners) e = let same : o.shard ≡ owner = cc in rw same refl

pub no_owner : (shard : ℕ) (owners : List Owned) → newest owners ≡ None → is_owner shard owners ≡ false
no_owner shard [] e = refl
no_owner shard (o ∷ owners) e = absurd cc

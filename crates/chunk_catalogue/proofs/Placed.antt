-- What is true of the table that fitting changes make, where only that they fit is known.
use Rattle.std.proofs.Common.{◌≡◌, ℕ, List, [], ◌∷◌, sym}
use Rattle.std.proofs.Math.Logic.{∥∥₁_elim}
use Rattle.std.proofs.Props.{props}
use Rattle.std.specs.Coded.{Coded-set, coded_option, coded_ℕ}
use Rattle.std.specs.Prelude.{true, Option, Some, None, IfSome}
use Rattle.std.specs.Option.{option_map}
use Rattle.bson_model.specs.Tree.{Datum}
use Rattle.value_model.specs.Keys.{Bound, min_bound, is_key}
use Rattle.chunk_model.specs.Tables.{Chunk, Table, owner_at}
use Rattle.chunk_model.specs.Changes.{Change, known_table}
use Rattle.chunk_model.specs.Placement.{AreFitting, Covers, CoverFrom, owner}
use Rattle.chunk_laws.proofs.Placed.{cover, same_owner_at}

cover-prop : (start : Bound) (chunks : List Chunk) → IsProp (CoverFrom start chunks)
cover-prop start [] = hlevel props
cover-prop start (c ∷ chunks) = hlevel (props, cover-prop c.range.max chunks)

pub covers : (ns : List ℕ) (changes : List Change) (t : Table) → ∥ AreFitting changes ∥₁ → known_table ns changes ≡ Some t → Covers t.chunks
covers ns changes t fits is = ∥∥₁_elim fits (cover-prop min_bound t.chunks) (λ f. cover ns changes t f is)

pub owner_is : (ns : List ℕ) (changes : List Change) (t : Table) → ∥ AreFitting changes ∥₁ → known_table ns changes ≡ Some t
    → (key : Datum) (time : ℕ) → is_key key ≡ true → owner_at t key time ≡ owner ns key time changes
owner_is ns changes t fits is key time valid =
    ∥∥₁_elim fits (Coded-set (coded_option coded_ℕ) _ _) (λ f. same_owner_at ns changes t key time f is valid)

module _ {X : Type 0} (seen : X → Table) where
  pub found_covers : (ns : List ℕ) (changes : List Change) (found : Option X) → ∥ AreFitting changes ∥₁
      → option_map seen found ≡ known_table ns changes → IfSome found (λ x. Covers (seen x).chunks)
  found_covers ns changes None fits is = tt
  found_covers ns changes (Some x) fits is = covers ns changes (seen x) fits (sym is)

  pub found_owner : (ns : List ℕ) (changes : List Change) (found : Option X) → ∥ AreFitting changes ∥₁
      → option_map seen found ≡ known_table ns changes
      → IfSome found (λ x. (key : Datum) (time : ℕ) → is_key key ≡ true → owner_at (seen x) key time ≡ owner ns key time changes)
  found_owner ns changes None fits is = tt
  found_owner ns changes (Some x) fits is = owner_is ns changes (seen x) fits (sym is)

-- What a fold of changes gives, in the words of tables.
use Rattle.std.proofs.Common.{◌≡◌, ℕ, List, ◌∙◌, subst}
use Rattle.std.specs.Prelude.{true, Some, None}
use Rattle.bson_model.specs.Tree.{Datum}
use Rattle.value_model.specs.Keys.{is_key}
use Rattle.chunk_model.specs.Tables.{Table, owner_at}
use Rattle.chunk_model.specs.Changes.{Change, known_table}
use Rattle.chunk_model.specs.Placement.{owner, AreFitting, Covers}
use Rattle.chunk_laws.proofs.Owners.{at_is}
use Rattle.chunk_laws.proofs.Folds.{IsSound, sound, placed}

pub cover : (ns : List ℕ) (changes : List Change) (t : Table) → AreFitting changes → known_table ns changes ≡ Some t → Covers t.chunks
cover ns changes t fits is = (placed ns changes t fits is).covers

pub same_owner_at : (ns : List ℕ) (changes : List Change) (t : Table) (key : Datum) (time : ℕ) → AreFitting changes → known_table ns changes ≡ Some t
    → is_key key ≡ true → owner_at t key time ≡ owner ns key time changes
same_owner_at ns changes t key time fits is valid = at_is t key time ∙ (placed ns changes t fits is).owners key time valid

pub no_owner : (ns : List ℕ) (changes : List Change) (key : Datum) (time : ℕ) → AreFitting changes → known_table ns changes ≡ None
    → owner ns key time changes ≡ None
no_owner ns changes key time fits is = (subst (IsSound ns changes) is (sound ns changes fits)).owners key time
